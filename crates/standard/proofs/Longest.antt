-- The longest CTU: no bins that mean a set are more than a number that the depths decide, and some are that many.
-- The longest form is in full after two merges that are not taken, with three bands of the largest magnitudes.
use mathlib.Core.Path.{◌≡◌, refl, ap, subst, ◌∙◌}
use mathlib.Core.Bool.{Bool, true, false}
use mathlib.Core.List.{List, [], ◌∷◌, ◌++◌}
use Rattle.std.specs.Prelude.{Option, Some as some, None as none}
use Prim.Native.Nat.{ℕ, zero, suc, ◌+◌, ◌*◌, ◌≤◌}
use native.Mathlib.Nat.{le_refl}
use native.Mathlib.Omega.{arith}
use lib.Dec.{lit<, lit≤}
use lib.IntN.{ℤ, pos, negsuc, nat_abs}
use lib.ListN.{length, length-append}
use Rattle.standard.specs.declared.Four.{Four}
use Rattle.standard.specs.declared.Offsets.{Offsets}
use Rattle.standard.specs.declared.Offsets.TheVariants.{Off, Band, Edge}
use Rattle.standard.specs.declared.CtuSet.{CtuSet}
use Rattle.standard.specs.declared.Picture.{Picture}
use Rattle.standard.specs.declared.Switches.{Switches}
use Rattle.standard.specs.Sets.{largest, most, four, Fits, Valid, switches_in}
use Rattle.standard.specs.Bins.{truncated, fixed_length, magnitudes, sign_bins, signs, type_bins, rest, rest_of_cr, when, full}
use Rattle.standard.specs.Means.{either, not_taken, Means, no_bins, merged_left, merged_up, in_full}
use Rattle.standard.proofs.Depths.{depth_of_luma, depth_of_chroma, largest_8, largest_is_31, largest_at_least_7}

-- the bins of the longest CTU
abbrev pub longest : Switches → ℕ
longest s = 2 + (11 + 4 * most s 0) + (11 + 4 * most s 1) + (9 + 4 * most s 2)

-- ---- how many bins each part has, at most

pub truncated_length : (m v : ℕ) → length (truncated m v) ≤ m
unfolding truncated
truncated_length zero v = omega arith
truncated_length (suc m) zero = omega arith
truncated_length (suc m) (suc v) = omega (arith, truncated_length m v)

pub truncated_largest : (m : ℕ) → length (truncated m m) ≡ m
unfolding truncated
truncated_largest zero = refl
truncated_largest (suc m) = ap suc (truncated_largest m)

pub fixed_length_lem : (n v : ℕ) → length (fixed_length n v) ≡ n
unfolding fixed_length
fixed_length_lem zero v = refl
fixed_length_lem (suc n) v = ap suc (fixed_length_lem n v)

pub sign_length : (o : ℤ) → length (sign_bins o) ≤ 1
unfolding sign_bins
sign_length (pos zero) = omega arith
sign_length (pos (suc n)) = omega arith
sign_length (negsuc n) = omega arith

four_length : (a b c d : List Bool) → length (a ++ (b ++ (c ++ d))) ≡ length a + length b + length c + length d
four_length a b c d = omega (arith, length-append a (b ++ (c ++ d)), length-append b (c ++ d), length-append c d)

pub magnitudes_length : (m : ℕ) (o : Four ℤ)
    → length (magnitudes m o) ≡ length (truncated m (nat_abs o.o1)) + length (truncated m (nat_abs o.o2)) + length (truncated m (nat_abs o.o3)) + length (truncated m (nat_abs o.o4))
unfolding magnitudes
magnitudes_length m o = four_length (truncated m (nat_abs o.o1)) (truncated m (nat_abs o.o2)) (truncated m (nat_abs o.o3)) (truncated m (nat_abs o.o4))

pub signs_length : (o : Four ℤ) → length (signs o) ≡ length (sign_bins o.o1) + length (sign_bins o.o2) + length (sign_bins o.o3) + length (sign_bins o.o4)
unfolding signs
signs_length o = four_length (sign_bins o.o1) (sign_bins o.o2) (sign_bins o.o3) (sign_bins o.o4)

magnitudes_most : (m : ℕ) (o : Four ℤ) → length (magnitudes m o) ≤ 4 * m
magnitudes_most m o =
    omega (arith, magnitudes_length m o, truncated_length m (nat_abs o.o1), truncated_length m (nat_abs o.o2), truncated_length m (nat_abs o.o3), truncated_length m (nat_abs o.o4))

signs_most : (o : Four ℤ) → length (signs o) ≤ 4
signs_most o = omega (arith, signs_length o, sign_length o.o1, sign_length o.o2, sign_length o.o3, sign_length o.o4)

-- a band's bins after its type; Cr has the same
band_length : (m position : ℕ) (o : Four ℤ)
    → length (magnitudes m o ++ (signs o ++ fixed_length 5 position)) ≡ length (magnitudes m o) + length (signs o) + 5
band_length m position o =
    omega (arith, length-append (magnitudes m o) (signs o ++ fixed_length 5 position), length-append (signs o) (fixed_length 5 position), fixed_length_lem 5 position)

band_most : (m position : ℕ) (o : Four ℤ) → length (magnitudes m o ++ (signs o ++ fixed_length 5 position)) ≤ 9 + 4 * m
band_most m position o = omega (arith, band_length m position o, magnitudes_most m o, signs_most o)

pub rest_length : (m : ℕ) (c : Offsets) → length (rest m c) ≤ 9 + 4 * m
unfolding rest
rest_length m Off = omega arith
rest_length m (Band position o) = band_most m position o
rest_length m (Edge class o) =
    omega (arith, length-append (magnitudes m o) (fixed_length 2 class), fixed_length_lem 2 class, magnitudes_most m o)

pub rest_of_cr_length : (m : ℕ) (c : Offsets) → length (rest_of_cr m c) ≤ 9 + 4 * m
unfolding rest_of_cr
rest_of_cr_length m Off = omega arith
rest_of_cr_length m (Band position o) = band_most m position o
rest_of_cr_length m (Edge class o) = omega (arith, magnitudes_most m o)

when_length : (b : Bool) (bins : List Bool) → length (when b bins) ≤ length bins
when_length true bins = omega arith
when_length false bins = omega arith

abbrev luma_bins : Switches → CtuSet → List Bool
luma_bins s q = type_bins q.luma ++ rest (most s 0) q.luma

abbrev chroma_bins : Switches → CtuSet → List Bool
chroma_bins s q = type_bins q.cb ++ (rest (most s 1) q.cb ++ rest_of_cr (most s 2) q.cr)

full_parts : (s : Switches) (q : CtuSet)
    → length (full s q) ≡ length (when s.luma (luma_bins s q)) + length (when s.chroma (chroma_bins s q))
unfolding full
full_parts s q = length-append (when s.luma (luma_bins s q)) _

luma_length : (s : Switches) (q : CtuSet)
    → length (luma_bins s q) ≡ length (type_bins q.luma) + length (rest (most s 0) q.luma)
luma_length s q = length-append (type_bins q.luma) (rest (most s 0) q.luma)

chroma_length : (s : Switches) (q : CtuSet)
    → length (chroma_bins s q)
    ≡ length (type_bins q.cb) + (length (rest (most s 1) q.cb) + length (rest_of_cr (most s 2) q.cr))
chroma_length s q =
    length-append (type_bins q.cb) (rest (most s 1) q.cb ++ rest_of_cr (most s 2) q.cr)
    ∙ ap (λ (n : ℕ). length (type_bins q.cb) + n) (length-append (rest (most s 1) q.cb) (rest_of_cr (most s 2) q.cr))

type_length : (c : Offsets) → length (type_bins c) ≤ 2
type_length c = truncated_length 2 _

pub full_length : (s : Switches) (q : CtuSet) → length (full s q) ≤ (11 + 4 * most s 0) + (11 + 4 * most s 1) + (9 + 4 * most s 2)
full_length s q =
    let luma : length (luma_bins s q) ≤ 11 + 4 * most s 0 =
    omega (arith, luma_length s q, type_length q.luma, rest_length (most s 0) q.luma) in
    let chroma : length (chroma_bins s q) ≤ (11 + 4 * most s 1) + (9 + 4 * most s 2) =
    omega (arith, chroma_length s q, type_length q.cb, rest_length (most s 1) q.cb, rest_of_cr_length (most s 2) q.cr) in
    omega (arith, full_parts s q, when_length s.luma (luma_bins s q), when_length s.chroma (chroma_bins s q))

not_taken_length : (n : Option CtuSet) → length (not_taken n) ≤ 1
not_taken_length none = omega arith
not_taken_length (some q) = omega arith

-- ---- no bins are more

pub no_longer : {s : Switches} {left up : Option CtuSet} {q : CtuSet} {bins : List Bool} → Means s left up q bins → length bins ≤ longest s
no_longer (no_bins on set is) = omega (arith, ap length is)
no_longer (merged_left on set is) = omega (arith, ap length is)
no_longer {left = left} (merged_up on set is) = omega (arith, ap length is ∙ length-append (not_taken left) (true ∷ []), not_taken_length left)
no_longer {s} {left = left} {up = up} {q = q} (in_full on valid is) =
    omega (arith, ap length is ∙ length-append (not_taken left) (not_taken up ++ full s q), length-append (not_taken up) (full s q), not_taken_length left, not_taken_length up, full_length s q)

-- ---- some are as many

abbrev pub loud_offsets : ℕ → Four ℤ
loud_offsets m = four (pos m) (pos m) (pos m) (pos m)

abbrev pub loud : ℕ → Offsets
loud m = Band 0 (loud_offsets m)

abbrev pub loudest : Switches → CtuSet
loudest s = record { luma = loud (most s 0); cb = loud (most s 1); cr = loud (most s 2) }

abbrev pub longest_bins : Switches → List Bool
longest_bins s = false ∷ false ∷ full s (loudest s)

loud_fits : (m : ℕ) → Fits m (loud m)
loud_fits m = (record { m1 = le_refl m; m2 = le_refl m; m3 = le_refl m; m4 = le_refl m }, lit< tt)

loud_sign : (m : ℕ) → 1 ≤ m → length (sign_bins (pos m)) ≡ 1
unfolding sign_bins
loud_sign zero h = absurd (omega arith)
loud_sign (suc m) h = refl

loud_length : (m : ℕ) → 1 ≤ m → length (magnitudes m (loud_offsets m) ++ (signs (loud_offsets m) ++ fixed_length 5 0)) ≡ 9 + 4 * m
loud_length m h =
    let parts = band_length m 0 (loud_offsets m) in
    let ones = magnitudes_length m (loud_offsets m) in
    omega (arith, signs_length (loud_offsets m), truncated_largest m, loud_sign m h)

loud_rest : (m : ℕ) → 1 ≤ m → length (rest m (loud m)) ≡ 9 + 4 * m
unfolding rest
loud_rest m h = loud_length m h

loud_rest_of_cr : (m : ℕ) → 1 ≤ m → length (rest_of_cr m (loud m)) ≡ 9 + 4 * m
unfolding rest_of_cr
loud_rest_of_cr m h = loud_length m h

loud_type : (m : ℕ) → length (type_bins (loud m)) ≡ 2
unfolding truncated
loud_type m = refl

when_on : (b : Bool) (bins : List Bool) → b ≡ true → when b bins ≡ bins
when_on b bins e = ap (λ (t : Bool). when t bins) e

module _ (s : Switches) (luma : s.luma ≡ true) (chroma : s.chroma ≡ true) where
  loudest_valid : Valid s (loudest s)
  loudest_valid = record {
    luma = rw luma (loud_fits (most s 0));
    chroma = rw chroma (loud_fits (most s 1), loud_fits (most s 2), tt);
  }

  pub loudest_means : (a b : CtuSet) → Means s (some a) (some b) (loudest s) (longest_bins s)
  loudest_means a b = in_full (ap (λ (t : Bool). either t s.chroma) luma) loudest_valid refl

  pub longest_length : 8 ≤ s.y → 8 ≤ s.cb → 8 ≤ s.cr → length (longest_bins s) ≡ longest s
  longest_length y cb cr =
      let m0 : 1 ≤ most s 0 = omega (arith, largest_at_least_7 y) in
      let m1 : 1 ≤ most s 1 = omega (arith, largest_at_least_7 cb) in
      let m2 : 1 ≤ most s 2 = omega (arith, largest_at_least_7 cr) in
      let l : length (when s.luma (luma_bins s (loudest s))) ≡ 11 + 4 * most s 0 =
      ap length (when_on s.luma _ luma) ∙ omega (arith, luma_length s (loudest s), loud_type (most s 0), loud_rest (most s 0) m0) in
      let c : length (when s.chroma (chroma_bins s (loudest s))) ≡ (11 + 4 * most s 1) + (9 + 4 * most s 2) =
      ap length (when_on s.chroma _ chroma) ∙ omega (arith, chroma_length s (loudest s), loud_type (most s 1), loud_rest (most s 1) m1, loud_rest_of_cr (most s 2) m2) in
      omega (arith, full_parts s (loudest s))

  pub reached : 8 ≤ s.y → 8 ≤ s.cb → 8 ≤ s.cr → (a b : CtuSet) → (q : CtuSet) × (bins : List Bool) × Means s (some a) (some b) q bins × (length bins ≡ longest s)
  reached y cb cr a b = (loudest s, longest_bins s, loudest_means a b, longest_length y cb cr)

-- ---- by the depths of luma and chroma

-- luma has a depth, and Cb and Cr another
pub record Deep (s : Switches) (y c : ℕ) : Type 0 where
  pub luma : s.y ≡ y
  pub cb : s.cb ≡ c
  pub cr : s.cr ≡ c

-- no bins are more than n, and of a CTU that may merge to both sides some are
pub record Longest (s : Switches) (n : ℕ) : Type 0 where
  pub none_longer : {left up : Option CtuSet} {q : CtuSet} {bins : List Bool} → Means s left up q bins → length bins ≤ n
  pub one_as_long : (a b : CtuSet) → (q : CtuSet) × (bins : List Bool) × Means s (some a) (some b) q bins × (length bins ≡ n)

pub in_picture_lem : (p : Picture) → Deep (switches_in p) p.depth.luma p.depth.chroma
unfolding switches_in
in_picture_lem p = record {
  luma = depth_of_luma p refl;
  cb = depth_of_chroma p (λ e. omega arith);
  cr = depth_of_chroma p (λ e. omega arith);
}

module _ {s : Switches} (luma : s.luma ≡ true) (chroma : s.chroma ≡ true) where
  -- ONE LAW over both depths
  pub longest_of : {y c : ℕ} → 8 ≤ y → 8 ≤ c → Deep s y c → Longest s (33 + 4 * largest y + 8 * largest c)
  longest_of {y} {c} hy hc d =
      let n : longest s ≡ 33 + 4 * largest y + 8 * largest c = omega (arith, ap largest d.luma, ap largest d.cb, ap largest d.cr) in
      subst (Longest s) n (record {
        none_longer = λ m. no_longer m;
        one_as_long = reached s luma chroma (omega (arith, d.luma)) (omega (arith, d.cb)) (omega (arith, d.cr));
      })

  -- and its numbers: both at 8, luma from 10 and chroma at 8, luma at 8 and chroma from 10, both from 10
  pub longest_8_8 : Deep s 8 8 → Longest s 117
  longest_8_8 d = subst (Longest s) (omega (arith, largest_8)) (longest_of (lit≤ tt) (lit≤ tt) d)

  pub longest_10_8 : {y : ℕ} → 10 ≤ y → Deep s y 8 → Longest s 213
  longest_10_8 h d = subst (Longest s) (omega (arith, largest_is_31 h, largest_8)) (longest_of (omega arith) (lit≤ tt) d)

  pub longest_8_10 : {c : ℕ} → 10 ≤ c → Deep s 8 c → Longest s 309
  longest_8_10 h d = subst (Longest s) (omega (arith, largest_is_31 h, largest_8)) (longest_of (lit≤ tt) (omega arith) d)

  pub longest_10_10 : {y c : ℕ} → 10 ≤ y → 10 ≤ c → Deep s y c → Longest s 405
  longest_10_10 hy hc d = subst (Longest s) (omega (arith, largest_is_31 hy, largest_is_31 hc)) (longest_of (omega arith) (omega arith) d)
