-- What may be compared: exactly the samples inside the picture, so that the edges of CTBs bar nothing. And no sample is kept.
use mathlib.Core.Path.{◌≡◌, refl, ap₂}
use mathlib.Core.Bool.{Bool, true, false, cond, ◌&&◌}
use mathlib.Core.List.{List}
use Prim.Native.Nat.{ℕ, ◌<◌}
use native.Mathlib.Omega.{arith}
use borrow.Author.Tests.{ltb-true, lt-ltb}
use lib.Dec.{ltb}
use lib.IntN.{ℤ, pos, negsuc, nat_abs}
use Rattle.standard.specs.declared.Picture.{Picture}
use Rattle.standard.specs.declared.Layout.{Layout}
use Rattle.standard.specs.declared.Offsets.{Offsets}
use Rattle.standard.specs.declared.Offsets.TheVariants.{Off, Band, Edge}
use Rattle.standard.specs.Picture.{plane_width, plane_height}
use Rattle.standard.specs.Samples.{layout_of, Context, in_picture, Parameters, counts, kept, context_of, IsAt, at, neighbour, modified, sample}

pub both_true : (a b : Bool) → (a && b) ≡ true → (a ≡ true) × (b ≡ true)
both_true true b e = (refl, e)
both_true false b e = let z : ◌≡◌ {A = ℕ} 0 1 = cc in absurd (omega arith)

-- column u of row v is a place of a plane of w by h
abbrev pub Place : ℕ → ℕ → ℤ → ℤ → Type 0
Place w h u v = (nat_abs u < w) × (nat_abs v < h) × IsAt u v (nat_abs u) (nat_abs v)

module _ (w h : ℕ) where
  pub place_in : (u v : ℕ) → u < w → v < h → in_picture w h (pos u) (pos v) ≡ true
  unfolding in_picture
  place_in u v a b = ap₂ (λ (s t : Bool). s && t) (lt-ltb u w a) (lt-ltb v h b)

  pub in_place : (u v : ℤ) → in_picture w h u v ≡ true → Place w h u v
  unfolding in_picture
  in_place (pos u) (pos v) e = let t = both_true (ltb u w) (ltb v h) e in (ltb-true u w t.0, ltb-true v h t.1, (refl, refl))
  in_place (pos u) (negsuc v) e = let z : ◌≡◌ {A = ℕ} 0 1 = cc in absurd (omega arith)
  in_place (negsuc u) v e = let z : ◌≡◌ {A = ℕ} 0 1 = cc in absurd (omega arith)

-- the law of every context: what counts is inside the picture
abbrev pub Within : Layout → Context → Type 0
Within l context = (x y : ℕ) (u v : ℤ) → context.counts x y u v ≡ true → Place l.width l.height u v

module _ (p : Picture) (ps : Parameters) (i : ℕ) where
  pub component_within : Within (layout_of p i) (context_of p ps i)
  unfolding layout_of counts
  component_within x y u v e = in_place (plane_width p i) (plane_height p i) u v e

  -- the picture's border bars, and nothing else does
  pub counts_inside : (x y : ℕ) (u v : ℤ) → counts p ps i x y u v ≡ in_picture (plane_width p i) (plane_height p i) u v
  unfolding counts
  counts_inside x y u v = refl

  -- what is inside the picture counts, in whichever CTB it lies
  pub inside_counts : (x y u v : ℕ) → u < plane_width p i → v < plane_height p i → counts p ps i x y (pos u) (pos v) ≡ true
  unfolding counts
  inside_counts x y u v a b = place_in (plane_width p i) (plane_height p i) u v a b

  pub none_kept : (x y : ℕ) → kept p ps i x y ≡ false
  unfolding kept
  none_kept x y = refl

-- a kept sample apart: the others are as if none were kept
pub keeping : (l : Layout) (context : Context) (set : Offsets) (plane : List ℕ) (x y : ℕ)
    → sample l context set plane x y ≡ cond (context.kept x y) (at plane l.width x y) (sample l (record { counts = context.counts; kept = λ x y. false }) set plane x y)
unfolding sample modified neighbour
keeping l context Off plane x y = refl
keeping l context (Band position o) plane x y = refl
keeping l context (Edge class o) plane x y = refl
