-- A sample with an offset added, clipped to the sample range: it stays in the range, and moves by no more than the offset's magnitude.
use mathlib.Core.Path.{◌≡◌, refl, ap, ◌∙◌}
use mathlib.Core.Bool.{Bool, true, false}
use mathlib.Core.List.{[], ◌∷◌}
use Prim.Native.Nat.{ℕ, zero, suc, ◌+◌, ◌*◌, ◌^◌, ◌≤◌, ◌<◌}
use native.Mathlib.Nat.{mul-le-mul_right}
use native.Mathlib.Omega.{arith}
use borrow.Author.Tests.{ltb-true, ltb-false}
use lib.Dec.{ltb}
use lib.IntN.{ℤ, pos, negsuc, nat_abs, neg_ℤ, ◌+ℤ◌, ◌*ℤ◌, zero-*ℤ}
use lib.ListN.{get_or}
use lib.Pow.{pow_pos}
use Rattle.standard.specs.declared.Four.{Four}
use Rattle.standard.specs.Sets.{Small}
use Rattle.standard.specs.Samples.{clip, offset_val}

-- t is s moved up or down by no more than by
pub record Near (s t by : ℕ) : Type 0 where
  pub above : t ≤ s + by
  pub below : s ≤ t + by

pub near_wider : {s t a b : ℕ} → a ≤ b → Near s t a → Near s t b
near_wider h n = record { above = omega arith; below = omega arith }

-- ---- the clip

pub clip_in_range : (depth : ℕ) (v : ℤ) → clip depth v < 2 ^ depth
unfolding clip
clip_in_range depth (pos n) = omega (arith, pow_pos depth)
clip_in_range depth (negsuc n) = pow_pos depth

pub clip_unmoved : (depth : ℕ) {s : ℕ} → s < 2 ^ depth → clip depth (pos s +ℤ pos 0) ≡ s
unfolding clip
clip_unmoved depth h = omega arith

pub clip_near : (depth : ℕ) {s : ℕ} → s < 2 ^ depth → (z : ℤ) → Near s (clip depth (pos s +ℤ z)) (nat_abs z)
unfolding clip
clip_near depth h (pos n) = record { above = omega arith; below = omega arith }
clip_near depth {s} h (negsuc n) = of (ltb s (suc n)) refl
  where
    of : (t : Bool) → ltb s (suc n) ≡ t → Near s (clip depth (pos s +ℤ negsuc n)) (suc n)
    of true e = let lt = ltb-true s (suc n) e in rw e (record { above = omega arith; below = omega arith })
    of false e = let le = ltb-false s (suc n) e in rw e (record { above = omega arith; below = omega arith })

-- ---- the offset of an index

nat_abs_negℤ : (n : ℕ) → nat_abs (neg_ℤ (pos n)) ≡ n
nat_abs_negℤ zero = refl
nat_abs_negℤ (suc n) = refl

pub nat_abs_scaled : (z : ℤ) (k : ℕ) → nat_abs (z *ℤ pos k) ≡ nat_abs z * k
nat_abs_scaled (pos n) k = refl
nat_abs_scaled (negsuc n) k = nat_abs_negℤ (suc n * k)

offset_small : {m : ℕ} {o : Four ℤ} → Small m o → (n : ℕ) → nat_abs (get_or (pos 0 ∷ o.o1 ∷ o.o2 ∷ o.o3 ∷ o.o4 ∷ []) n (pos 0)) ≤ m
offset_small small zero = omega arith
offset_small small (suc zero) = small.m1
offset_small small (suc (suc zero)) = small.m2
offset_small small (suc (suc (suc zero))) = small.m3
offset_small small (suc (suc (suc (suc zero)))) = small.m4
offset_small small (suc (suc (suc (suc (suc n))))) = omega arith

pub offset_val_small : {m : ℕ} {o : Four ℤ} (shift : ℕ) → Small m o → (n : ℕ) → nat_abs (offset_val shift o n) ≤ m * 2 ^ shift
unfolding offset_val
offset_val_small shift small n = rw nat_abs_scaled (mul-le-mul_right (2 ^ shift) (offset_small small n))

pub offset_val_zero : (shift : ℕ) (o : Four ℤ) → offset_val shift o 0 ≡ pos 0
unfolding offset_val
offset_val_zero shift o = zero-*ℤ (pos (2 ^ shift))

-- ---- both together

module _ (depth : ℕ) {s : ℕ} (fits : s < 2 ^ depth) (shift : ℕ) where
  pub offset_near : {m : ℕ} {o : Four ℤ} → Small m o → (n : ℕ) → Near s (clip depth (pos s +ℤ offset_val shift o n)) (m * 2 ^ shift)
  offset_near {o = o} small n = near_wider (offset_val_small shift small n) (clip_near depth fits (offset_val shift o n))

  pub index_zero : (o : Four ℤ) → clip depth (pos s +ℤ offset_val shift o 0) ≡ s
  index_zero o = ap (λ (z : ℤ). clip depth (pos s +ℤ z)) (offset_val_zero shift o) ∙ clip_unmoved depth fits
