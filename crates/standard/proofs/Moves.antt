-- A filtered sample moves by at most the largest scaled magnitude of its set and stays in the sample range; at a border an edge set leaves it as it was.
use mathlib.Core.Path.{◌≡◌, refl, ap, ◌∙◌}
use mathlib.Core.Bool.{Bool, true, false, cond}
use mathlib.Core.List.{List}
use mathlib.Core.Logic.{◌⊎◌, inl, inr}
use Rattle.std.specs.Prelude.{Option, Some as some, None as none}
use Prim.Native.Nat.{ℕ, ◌*◌, ◌^◌, ◌≤◌, ◌<◌, max}
use native.Mathlib.Nat.{mul-le-mul_right}
use native.Mathlib.Omega.{arith}
use lib.IntN.{ℤ, pos, nat_abs, ◌+ℤ◌}
use Rattle.standard.specs.declared.Picture.{Picture}
use Rattle.standard.specs.declared.Layout.{Layout}
use Rattle.standard.specs.declared.Four.{Four}
use Rattle.standard.specs.declared.Offsets.{Offsets}
use Rattle.standard.specs.declared.Offsets.TheVariants.{Off, Band, Edge}
use Rattle.standard.specs.Picture.{depth_of, plane_width}
use Rattle.standard.specs.Sets.{largest, Small, Fits}
use Rattle.standard.specs.Samples.{shift_of, layout_of, Context, Parameters, context_of, offset_val, clip, steps_of, at, neighbour, edge_idx_of, band_sample, edge_sample, modified, sample}
use Rattle.standard.proofs.Clips.{Near, near_wider, clip_in_range, offset_near, index_zero}

abbrev pub magnitude : Four ℤ → ℕ
magnitude o = max (max (nat_abs o.o1) (nat_abs o.o2)) (max (nat_abs o.o3) (nat_abs o.o4))

-- the largest magnitude in a set
abbrev pub magnitude_of : Offsets → ℕ
magnitude_of Off = 0
magnitude_of (Band position o) = magnitude o
magnitude_of (Edge class o) = magnitude o

pub magnitude_small : (o : Four ℤ) → Small (magnitude o) o
magnitude_small o = record { m1 = omega arith; m2 = omega arith; m3 = omega arith; m4 = omega arith }

pub fits_magnitude : {m : ℕ} (set : Offsets) → Fits m set → magnitude_of set ≤ m
fits_magnitude Off fits = omega arith
fits_magnitude (Band position o) fits = omega arith
fits_magnitude (Edge class o) fits = omega arith

-- what holds of the deblocked sample and of the modified one holds of the filtered one
kept_or_modified : (P : ℕ → Type 0) (l : Layout) (context : Context) (set : Offsets) (plane : List ℕ) (x y : ℕ)
    → P (at plane l.width x y) → P (modified l context set plane x y) → P (sample l context set plane x y)
unfolding sample
kept_or_modified P l context set plane x y a b = of (context.kept x y)
  where
    of : (t : Bool) → P (cond t (at plane l.width x y) (modified l context set plane x y))
    of true = a
    of false = b

-- ---- in any layout, where the deblocked sample is in range

module _ (l : Layout) (context : Context) (plane : List ℕ) (x y : ℕ) (fits : at plane l.width x y < 2 ^ l.depth) where
  modified_in_range : (set : Offsets) → modified l context set plane x y < 2 ^ l.depth
  unfolding modified band_sample edge_sample
  modified_in_range Off = fits
  modified_in_range (Band position o) = clip_in_range l.depth _
  modified_in_range (Edge class o) = clip_in_range l.depth _

  pub sample_in_range : (set : Offsets) → sample l context set plane x y < 2 ^ l.depth
  sample_in_range set = kept_or_modified (λ n. n < 2 ^ l.depth) l context set plane x y fits (modified_in_range set)

  unmoved : (n : ℕ) → Near (at plane l.width x y) (at plane l.width x y) n
  unmoved n = record { above = omega arith; below = omega arith }

  modified_moves : (set : Offsets) → Near (at plane l.width x y) (modified l context set plane x y) (magnitude_of set * 2 ^ l.shift)
  unfolding modified band_sample edge_sample
  modified_moves Off = unmoved _
  modified_moves (Band position o) = offset_near l.depth fits l.shift (magnitude_small o) _
  modified_moves (Edge class o) = offset_near l.depth fits l.shift (magnitude_small o) _

  pub sample_moves : (set : Offsets) → Near (at plane l.width x y) (sample l context set plane x y) (magnitude_of set * 2 ^ l.shift)
  sample_moves set =
      kept_or_modified (λ n. Near (at plane l.width x y) n (magnitude_of set * 2 ^ l.shift)) l context set plane x y (unmoved _) (modified_moves set)

  -- where no magnitude is above m
  pub sample_moves_within : (m : ℕ) (set : Offsets) → Fits m set → Near (at plane l.width x y) (sample l context set plane x y) (m * 2 ^ l.shift)
  sample_moves_within m set small = near_wider (mul-le-mul_right (2 ^ l.shift) (fits_magnitude set small)) (sample_moves set)

  -- a comparison with a sample that does not count leaves the sample as it was
  pub edge_border : (class : ℕ) (o : Four ℤ)
      → (neighbour l context plane x y (steps_of class).0 ≡ none) ⊎ (neighbour l context plane x y (steps_of class).1 ≡ none)
      → sample l context (Edge class o) plane x y ≡ at plane l.width x y
  unfolding modified edge_sample edge_idx_of
  edge_border class o border =
      kept_or_modified (λ n. n ≡ s) l context (Edge class o) plane x y refl
      (ap (λ (k : ℕ). clip l.depth (pos s +ℤ offset_val l.shift o k)) (zero_at _ _ border) ∙ index_zero l.depth fits l.shift o)
    where
      s : ℕ
      s = at plane l.width x y

      none_right : (a : Option ℕ) → edge_idx_of s a none ≡ 0
      none_right (some a) = refl
      none_right none = refl

      zero_at : (a b : Option ℕ) → (a ≡ none) ⊎ (b ≡ none) → edge_idx_of s a b ≡ 0
      zero_at a b (inl e) = ap (λ (o : Option ℕ). edge_idx_of s o b) e
      zero_at a b (inr e) = ap (edge_idx_of s a) e ∙ none_right a

-- ---- in component i of a picture

module _ (p : Picture) (ps : Parameters) (i : ℕ) (plane : List ℕ) (x y : ℕ) (fits : at plane (plane_width p i) x y < 2 ^ depth_of p i) where
  pub component_in_range : (set : Offsets) → sample (layout_of p i) (context_of p ps i) set plane x y < 2 ^ depth_of p i
  unfolding layout_of
  component_in_range set = sample_in_range (layout_of p i) (context_of p ps i) plane x y fits set

  pub component_moves : (set : Offsets) → Near (at plane (plane_width p i) x y) (sample (layout_of p i) (context_of p ps i) set plane x y) (magnitude_of set * 2 ^ shift_of p i)
  unfolding layout_of
  component_moves set = sample_moves (layout_of p i) (context_of p ps i) plane x y fits set

  -- by at most M, scaled, where the set fits the depth
  pub component_moves_by_largest : (set : Offsets) → Fits (largest (depth_of p i)) set
      → Near (at plane (plane_width p i) x y) (sample (layout_of p i) (context_of p ps i) set plane x y) (largest (depth_of p i) * 2 ^ shift_of p i)
  unfolding layout_of
  component_moves_by_largest set small = sample_moves_within (layout_of p i) (context_of p ps i) plane x y fits (largest (depth_of p i)) set small
