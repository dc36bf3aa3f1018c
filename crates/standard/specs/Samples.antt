-- Sample adaptive offset (H.265 8.7.3): the filtered sample at each place of a plane, made from the deblocked plane.
-- A plane is the list of its samples, row after row. Subtractions are those of whole numbers.
use Rattle.std.specs.Prelude.{◌≡◌, Bool, false, cond, ◌&&◌, List, [], ◌∷◌, ◌⊎◌, ℕ, zero, suc, ◌+◌, ◌-◌, ◌*◌, ◌/◌, ◌%◌, ◌^◌, min, ltb, ℤ, pos, negsuc, nat_abs, ◌+ℤ◌, ◌-ℤ◌, ◌*ℤ◌, get_or}
use Rattle.std.specs.Prelude.{Option, Some as some, None as none}
use Rattle.standard.specs.declared.Picture.{Picture}
use Rattle.standard.specs.declared.Four.{Four}
use Rattle.standard.specs.declared.Offsets.{Offsets}
use Rattle.standard.specs.declared.Offsets.TheVariants.{Off, Band, Edge}
use Rattle.standard.specs.declared.CtuSet.{CtuSet}
use Rattle.standard.specs.declared.Layout.{Layout}
use Rattle.standard.specs.Picture.{depth_of, plane_width, plane_height, Inside, rectangle, grown, ctb_at, Adjacent}
use Rattle.standard.specs.Sets.{component_of}

-- ---- offsets

-- how far a component's offsets are shifted: bitDepth - Min( bitDepth, 10 )
unfoldable pub shift_of : Picture → ℕ → ℕ
shift_of p i = depth_of p i - min (depth_of p i) 10

-- all that the filter of component i depends on
unfoldable pub layout_of : Picture → ℕ → Layout
layout_of p i = record { width = plane_width p i; height = plane_height p i; depth = depth_of p i; shift = shift_of p i }

-- SaoOffsetVal, of indices 0 to 4
unfoldable pub offset_val : ℕ → Four ℤ → ℕ → ℤ
offset_val shift o n = get_or (pos 0 ∷ o.o1 ∷ o.o2 ∷ o.o3 ∷ o.o4 ∷ []) n (pos 0) *ℤ pos (2 ^ shift)

-- Clip3( 0, ( 1 << bitDepth ) - 1, v )
unfoldable pub clip : ℕ → ℤ → ℕ
clip depth (pos n) = min n (2 ^ depth - 1)
clip depth (negsuc n) = 0

-- ---- band

-- bandTable: of the 32 bands the four from the position on, each modulo 32, have the indices 1 to 4, and every other 0
unfoldable pub band_idx : ℕ → ℕ → ℕ → ℕ
band_idx depth position sample = let k = (sample / 2 ^ (depth - 5) + 32 - position) % 32 in cond (ltb k 4) (k + 1) 0

-- ---- edge

pub record Step : Type 0 where
  pub h : ℤ
  pub v : ℤ

-- hPos and vPos: the steps to a sample's two neighbours, by class
abbrev pub steps : List (Step × Step)
steps =
    (record { h = negsuc 0; v = pos 0 }, record { h = pos 1; v = pos 0 })
    ∷ (record { h = pos 0; v = negsuc 0 }, record { h = pos 0; v = pos 1 })
    ∷ (record { h = negsuc 0; v = negsuc 0 }, record { h = pos 1; v = pos 1 })
    ∷ (record { h = pos 1; v = negsuc 0 }, record { h = negsuc 0; v = pos 1 })
    ∷ []

unfoldable pub steps_of : ℕ → Step × Step
steps_of class = get_or steps class (record { h = pos 0; v = pos 0 }, record { h = pos 0; v = pos 0 })

unfoldable pub sign : ℤ → ℤ
sign (pos zero) = pos 0
sign (pos (suc n)) = pos 1
sign (negsuc n) = negsuc 0

-- document 01's category of a sum of two signs: -2, -1, 0, 1, 2 is 1, 2, 0, 3, 4
abbrev pub categories : List ℕ
categories = 1 ∷ 2 ∷ 0 ∷ 3 ∷ 4 ∷ []

-- edgeIdx: of 2 + the two signs, after 0, 1 and 2 have become 1, 2 and 0
unfoldable pub edge_idx : ℤ → ℕ
edge_idx (pos n) = get_or categories n 0
edge_idx (negsuc n) = 0

-- the sample at column x of row y
abbrev pub at : List ℕ → ℕ → ℕ → ℕ → ℕ
at plane w x y = get_or plane (y * w + x) 0

-- what the picture says of each sample of a component, besides its layout
pub record Context : Type 0 where
  -- counts x y u v: the sample at column x of row y may be compared with that at column u of row v, which may lie outside the picture
  pub counts : ℕ → ℕ → ℤ → ℤ → Bool
  -- kept x y: the sample at column x of row y keeps its deblocked value whatever its set says
  pub kept : ℕ → ℕ → Bool

-- column u of row v is in a plane of w by h
unfoldable pub in_picture : ℕ → ℕ → ℤ → ℤ → Bool
in_picture w h (pos u) (pos v) = ltb u w && ltb v h
in_picture w h (pos u) (negsuc v) = false
in_picture w h (negsuc u) v = false

-- what a picture is filtered by, besides its description and its deblocked planes: the set of each CTU
pub record Parameters : Type 0 where
  pub sets : ℕ → CtuSet

-- of component i of a picture: the sample at column x of row y may be compared with every sample inside the picture
unfoldable pub counts : Picture → Parameters → ℕ → ℕ → ℕ → ℤ → ℤ → Bool
counts p ps i x y u v = in_picture (plane_width p i) (plane_height p i) u v

-- and no sample is kept
unfoldable pub kept : Picture → Parameters → ℕ → ℕ → ℕ → Bool
kept p ps i x y = false

abbrev pub context_of : Picture → Parameters → ℕ → Context
context_of p ps i = record { counts = counts p ps i; kept = kept p ps i }

-- the neighbour a step away, where it counts (and then has no coordinate below 0)
unfoldable pub neighbour : Layout → Context → List ℕ → ℕ → ℕ → Step → Option ℕ
neighbour l context plane x y step =
    let u = pos x +ℤ step.h in
    let v = pos y +ℤ step.v in
    cond (context.counts x y u v) (some (at plane l.width (nat_abs u) (nat_abs v))) none

-- a comparison with a sample that does not count gives edgeIdx 0
unfoldable pub edge_idx_of : ℕ → Option ℕ → Option ℕ → ℕ
edge_idx_of s (some a) (some b) = edge_idx (pos 2 +ℤ sign (pos s -ℤ pos a) +ℤ sign (pos s -ℤ pos b))
edge_idx_of s (some a) none = 0
edge_idx_of s none b = 0

-- ---- the filtered sample

-- a sample s by its band
unfoldable pub band_sample : ℕ → ℕ → ℕ → Four ℤ → ℕ → ℕ
band_sample depth shift position o s = clip depth (pos s +ℤ offset_val shift o (band_idx depth position s))

-- a sample s by its two neighbours
unfoldable pub edge_sample : ℕ → ℕ → Four ℤ → ℕ → Option ℕ → Option ℕ → ℕ
edge_sample depth shift o s a b = clip depth (pos s +ℤ offset_val shift o (edge_idx_of s a b))

-- the sample at column x of row y, as its set says
unfoldable pub modified : Layout → Context → Offsets → List ℕ → ℕ → ℕ → ℕ
modified l context Off plane x y = at plane l.width x y
modified l context (Band position o) plane x y = band_sample l.depth l.shift position o (at plane l.width x y)
modified l context (Edge class o) plane x y =
    edge_sample l.depth l.shift o (at plane l.width x y)
    (neighbour l context plane x y (steps_of class).0)
    (neighbour l context plane x y (steps_of class).1)

-- THE FILTERED SAMPLE
unfoldable pub sample : Layout → Context → Offsets → List ℕ → ℕ → ℕ → ℕ
sample l context set plane x y = cond (context.kept x y) (at plane l.width x y) (modified l context set plane x y)

-- ---- the whole picture

unfoldable pub tabulate : ℕ → (ℕ → ℕ) → List ℕ
tabulate zero f = []
tabulate (suc n) f = f 0 ∷ tabulate n (λ k. f (suc k))

-- the plane whose sample at column x of row y is f x y
unfoldable pub plane_by : ℕ → ℕ → (ℕ → ℕ → ℕ) → List ℕ
plane_by w h f = tabulate (w * h) (λ n. f (n % w) (n / w))

-- the sample at column x of row y of component i, in CTB k
abbrev pub filtered_sample : Picture → Parameters → ℕ → ℕ → List ℕ → ℕ → ℕ → ℕ
filtered_sample p ps i k plane x y = sample (layout_of p i) (context_of p ps i) (component_of (ps.sets k) i) plane x y

-- THE FILTERED PLANE of component i, of the picture's parameters and the whole deblocked plane
unfoldable pub filtered_plane : Picture → Parameters → ℕ → List ℕ → List ℕ
filtered_plane p ps i plane = plane_by (plane_width p i) (plane_height p i) (λ x y. filtered_sample p ps i (ctb_at p i x y) plane x y)

-- ---- what a sample is made from, and what its block waits for

abbrev pub IsAt : ℤ → ℤ → ℕ → ℕ → Type 0
IsAt a b u v = (a ≡ pos u) × (b ≡ pos v)

-- the filtered sample at column x of row y is made from that at column u of row v
abbrev pub Sees : Offsets → ℕ → ℕ → ℕ → ℕ → Type 0
Sees Off x y u v = (u ≡ x) × (v ≡ y)
Sees (Band position o) x y u v = (u ≡ x) × (v ≡ y)
Sees (Edge class o) x y u v =
    ((u ≡ x) × (v ≡ y))
    ⊎ (IsAt (pos x +ℤ (steps_of class).0.h) (pos y +ℤ (steps_of class).0.v) u v ⊎ IsAt (pos x +ℤ (steps_of class).1.h) (pos y +ℤ (steps_of class).1.v) u v)

-- the filter of CTB k waits for CTB j: whatever the set, for the CTB itself and its up to eight neighbours
unfoldable pub Waits : Picture → Offsets → ℕ → ℕ → Type 0
Waits p set k j = Adjacent p k j

-- and looks, in component i, at the deblocked sample at column x of row y: whatever the set, at those of the CTB and one sample around it, inside the picture
unfoldable pub Scans : Picture → ℕ → Offsets → ℕ → ℕ → ℕ → Type 0
Scans p i set k x y = Inside (grown p i (rectangle p i k)) x y
