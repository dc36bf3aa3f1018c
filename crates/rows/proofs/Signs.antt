-- The sign of a difference of two naturals, and the sum of two signs at 16 bits.
use mathlib.Core.Path.{◌≡◌, refl, sym, ap, ap₂, ◌∙◌}
use Prim.Native.Nat.{ℕ, zero, suc, ◌-◌, ◌≤◌, ◌<◌}
use native.Mathlib.Nat.{not-suc-le-zero, le_refl, sub_self, add-zero}
use native.Mathlib.Omega.{arith}
use native.Mathlib.Decide.{dec_lt}
use borrow.Author.Tests.{lt-ltb, le-ltb, eq-eqb, ne_eqb}
use denote.Enum.Declared.{tag_of}
use lib.Dec.{lit<}
use lib.IntN.{ℤ, pos, negsuc, ◌+ℤ◌, ◌-ℤ◌}
use mir.Syntax.{w16}
use mir.Val.{SFits, to_z, of_z}
use Rattle.std.specs.declared.cmp.Ordering.{Ordering}
use Rattle.std.specs.Ordering.{nat_cmp}
use Rattle.std.specs.contracts.cmp.Ordering.{the_type}
use Rattle.standard.specs.Samples.{sign}
use Rattle.rows.proofs.Widths.{back}

pub sign_lt : (s a : ℕ) → s < a → sign (pos s -ℤ pos a) ≡ negsuc 0
unfolding sign
sign_lt s zero h = absurd (not-suc-le-zero h)
sign_lt s (suc a) h = simp (lt-ltb s (suc a) h)

pub sign_eq : (a : ℕ) → sign (pos a -ℤ pos a) ≡ pos 0
unfolding sign
sign_eq zero = refl
sign_eq (suc a) = simp (le-ltb (suc a) (suc a) (le_refl (suc a)), sub_self)

pub sign_gt : (s a : ℕ) → a < s → sign (pos s -ℤ pos a) ≡ pos 1
unfolding sign
sign_gt zero a h = absurd (not-suc-le-zero h)
sign_gt (suc s) zero h = simp add-zero
sign_gt (suc s) (suc a) h =
    let le : suc a ≤ suc s = omega arith in
    let e : suc s - suc a ≡ suc (s - suc a) = omega arith in
    simp (le-ltb (suc s) (suc a) le, e)

pub sum_fits : (x y : ℤ) → SFits w16 (back (sign x) +ℤ back (sign y))
unfolding sign
sum_fits (pos zero) (pos zero) = record { sfits = lit< tt }
sum_fits (pos zero) (pos (suc n)) = record { sfits = lit< tt }
sum_fits (pos zero) (negsuc n) = record { sfits = lit< tt }
sum_fits (pos (suc m)) (pos zero) = record { sfits = lit< tt }
sum_fits (pos (suc m)) (pos (suc n)) = record { sfits = lit< tt }
sum_fits (pos (suc m)) (negsuc n) = record { sfits = lit< tt }
sum_fits (negsuc m) (pos zero) = record { sfits = lit< tt }
sum_fits (negsuc m) (pos (suc n)) = record { sfits = lit< tt }
sum_fits (negsuc m) (negsuc n) = record { sfits = lit< tt }

-- two more than what the machine has for the sum: as the standard adds
sum_is : (x y : ℤ) → pos 2 +ℤ back (back (sign x) +ℤ back (sign y)) ≡ pos 2 +ℤ sign x +ℤ sign y
unfolding sign
sum_is (pos zero) (pos zero) = refl
sum_is (pos zero) (pos (suc n)) = refl
sum_is (pos zero) (negsuc n) = refl
sum_is (pos (suc m)) (pos zero) = refl
sum_is (pos (suc m)) (pos (suc n)) = refl
sum_is (pos (suc m)) (negsuc n) = refl
sum_is (negsuc m) (pos zero) = refl
sum_is (negsuc m) (pos (suc n)) = refl
sum_is (negsuc m) (negsuc n) = refl

pub sum_of : (x y : ℤ) {S T : ℤ} → S ≡ sign x → T ≡ sign y → pos 2 +ℤ back (back S +ℤ back T) ≡ pos 2 +ℤ sign x +ℤ sign y
sum_of x y p q = ap₂ (λ (s t : ℤ). pos 2 +ℤ back (back s +ℤ back t)) p q ∙ sum_is x y

-- ---- an ordering as a number

abbrev number : Ordering → ℤ
number o = to_z w16 (of_z w16 (to_z w16 (tag_of the_type o) +ℤ negsuc 0))

pub sign_compare : (s a : ℕ) {o : Ordering} → o ≡ nat_cmp s a → number o ≡ sign (pos s -ℤ pos a)
sign_compare s a e = ap number e ∙ go (dec_lt s a) (dec_lt a s)
  where
    go : Dec (s < a) → Dec (a < s) → number (nat_cmp s a) ≡ sign (pos s -ℤ pos a)
    go (yes h) k = simp (lt-ltb s a h) (sym (sign_lt s a h))
    go (no h) (yes k) =
        let n : a ≤ s = omega arith in
        let m : s ≡ a → ⊥ = omega arith in
        simp (le-ltb s a n, ne_eqb s a m) (sym (sign_gt s a k))
    go (no h) (no k) =
        let e : s ≡ a = omega arith in
        let n : a ≤ s = omega arith in
        simp (le-ltb s a n, eq-eqb s a e) (sym (ap (λ (n : ℕ). sign (pos n -ℤ pos a)) e ∙ sign_eq a))
