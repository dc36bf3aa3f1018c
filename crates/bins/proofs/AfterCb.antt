-- Cr after a Cb: off, a band, or an edge of Cb's class.
use mathlib.Core.Path.{◌≡◌, refl, sym, subst}
use mathlib.Core.List.{[]}
use Prim.Native.Nat.{ℕ, ◌<◌}
use lib.IntN.{ℤ}
use Rattle.standard.specs.declared.Four.{Four}
use Rattle.standard.specs.declared.Offsets.{Offsets}
use Rattle.standard.specs.declared.Offsets.TheVariants.{Off, Band, Edge}
use Rattle.standard.specs.Sets.{Fits, Shares}
use Rattle.standard.specs.Bins.{magnitudes, rest, rest_of_cr}
use Rattle.standard.proofs.Components.{CrFits, After, cr_band_to}
use Rattle.bins.specs.Values.{OfType, AfterCb, EdgeOffsetsFit, EdgeOf}

-- an edge of this class, by its offsets
pub edge_of_class : (m class : ℕ) → class < 4 → (o : Four ℤ) → EdgeOffsetsFit m o
    → EdgeOf m class (Edge class o) × (magnitudes m o ≡ rest_of_cr m (Edge class o))
unfolding rest_of_cr
edge_of_class m class h o i = (((i.0, h, i.1), o, refl), refl)

-- what Cr is, by what Cb is
module _ (m : ℕ) {cb : Offsets} where
  pub off_after : cb ≡ Off → AfterCb m cb Off × (rest_of_cr m Off ≡ [])
  unfolding rest_of_cr
  off_after e = ((tt, subst (λ (o : Offsets). Shares o Off) (sym e) tt), refl)

  pub band_after : {p : ℕ} {v : Four ℤ} → cb ≡ Band p v → (c : Offsets) → OfType 1 m c → AfterCb m cb c × (rest m c ≡ rest_of_cr m c)
  band_after {p} {v} e c i =
      let t = cr_band_to m p v c i in
      ((i.0, subst (λ (o : Offsets). Shares o c) (sym e) t.0.1), t.1)

-- as Cr's code has it, which leaves out the rule of the class
but_class : (m : ℕ) (c : Offsets) → Fits m c → CrFits m c
but_class m Off i = tt
but_class m (Band p o) i = i
but_class m (Edge class o) i = (i.0, i.2)

pub after_code : (m : ℕ) (cb c : Offsets) → AfterCb m cb c → After m cb c × (rest_of_cr m c ≡ rest_of_cr m c)
after_code m cb c i = ((but_class m c i.0, i.1), refl)
