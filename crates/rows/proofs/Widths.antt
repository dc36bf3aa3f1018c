-- Signed numbers as the machine reads them back from their bits, at their own width and at a wider one; and how far a sum can be from 0.
use mathlib.Core.Path.{◌≡◌, refl, sym, ◌∙◌, subst}
use mathlib.Core.Bool.{Bool, true, false, cond}
use Prim.Native.Nat.{ℕ, suc, ◌+◌, ◌-◌, ◌≤◌}
use native.Mathlib.Omega.{arith}
use lib.Dec.{T, ltb, leb}
use lib.IntN.{ℤ, pos, negsuc, ◌+ℤ◌}
use lib.Signed.{mag}
use mir.Syntax.{Width, w16}
use mir.Val.{SFits, to_z, of_z, hbits}
use mir.Facts.{to_z-of_z, sfits_widen}

-- at 16 bits
abbrev pub back : ℤ → ℤ
back z = to_z w16 (of_z w16 z)

module _ {w : Width} (w' : Width) {z : ℤ} (t : T (leb (hbits w) (hbits w'))) (f : SFits w z) where
  pub wide_fits : SFits w' (to_z w (of_z w z))
  wide_fits = subst (λ (v : ℤ). SFits w' v) (sym (to_z-of_z f)) (sfits_widen {w = w} {w' = w'} t f)

  pub wide_is : to_z w' (of_z w' (to_z w (of_z w z))) ≡ z
  wide_is = to_z-of_z wide_fits ∙ to_z-of_z f

-- ---- sums

mag_sub : (t : Bool) (a b : ℕ) → ltb a b ≡ t → mag (cond t (negsuc (b - suc a)) (pos (a - b))) ≤ a + b
mag_sub true a b e = omega arith
mag_sub false a b e = omega arith

pub mag_add : (a b : ℤ) → mag (a +ℤ b) ≤ mag a + mag b + 1
mag_add (pos a) (pos b) = omega arith
mag_add (pos a) (negsuc b) = omega (arith, mag_sub (ltb a (suc b)) a (suc b) refl)
mag_add (negsuc a) (pos b) = omega (arith, mag_sub (ltb b (suc a)) b (suc a) refl)
mag_add (negsuc a) (negsuc b) = omega arith
