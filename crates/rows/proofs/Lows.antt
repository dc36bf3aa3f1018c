-- A number of 16 bits less half of their range, which is a signed number in the same order; and the saturating sum of such a
-- number and an offset.
use mathlib.Core.Path.{◌≡◌, refl, sym, ap, ap₂, ◌∙◌, subst}
use mathlib.Core.Bool.{Bool, true, false}
use Prim.Native.Nat.{ℕ, ◌+◌, ◌-◌, ◌≤◌, ◌<◌, min}
use native.Mathlib.Decide.{dec_lt}
use native.Mathlib.Omega.{arith}
use borrow.Author.Tests.{ltb-true, ltb-false, lt-ltb, le-ltb}
use lib.Dec.{ltb}
use lib.IntN.{ℤ, pos, negsuc, ◌+ℤ◌, ◌-ℤ◌, +ℤ_assoc, +ℤ_comm}
use lib.Signed.{lt_z}
use mir.Syntax.{w16, w32}
use mir.Val.{SFits, to_z, of_z}
use mir.Facts.{to_z-of_z}
use Rattle.rows.specs.Moves.{held}
use Rattle.rows.specs.Sample.{low_of}
use Rattle.rows.proofs.Widths.{wide_is, mag_add}

-- ---- less half of the range

low_small : (n : ℕ) → n < 32768 → low_of n ≡ negsuc (32767 - n)
low_small n h = simp (lt-ltb n 32768 h) (ap negsuc (omega arith))

low_large : (n : ℕ) → 32768 ≤ n → low_of n ≡ pos (n - 32768)
low_large n h = simp (le-ltb n 32768 h)

pub low_fits : (n : ℕ) → n ≤ 65535 → SFits w16 (low_of n)
low_fits n h = go (dec_lt n 32768)
  where
    go : Dec (n < 32768) → SFits w16 (low_of n)
    go (yes l) = subst (λ (z : ℤ). SFits w16 z) (sym (low_small n l)) (record { sfits = omega arith })
    go (no m) = subst (λ (z : ℤ). SFits w16 z) (sym (low_large n (omega arith))) (record { sfits = omega arith })

low_lt : (a b : ℕ) → lt_z (low_of a) (low_of b) ≡ ltb a b
low_lt a b = go (dec_lt a 32768) (dec_lt b 32768) (dec_lt a b)
  where
    go : Dec (a < 32768) → Dec (b < 32768) → Dec (a < b) → lt_z (low_of a) (low_of b) ≡ ltb a b
    go (yes l) (yes k) (yes h) =
        ap₂ lt_z (low_small a l) (low_small b k) ∙ lt-ltb (32767 - b) (32767 - a) (omega arith) ∙ sym (lt-ltb a b h)
    go (yes l) (yes k) (no h) =
        ap₂ lt_z (low_small a l) (low_small b k) ∙ le-ltb (32767 - b) (32767 - a) (omega arith) ∙ sym (le-ltb a b (omega arith))
    go (yes l) (no k) h = ap₂ lt_z (low_small a l) (low_large b (omega arith)) ∙ sym (lt-ltb a b (omega arith))
    go (no l) (yes k) h = ap₂ lt_z (low_large a (omega arith)) (low_small b k) ∙ sym (le-ltb a b (omega arith))
    go (no l) (no k) (yes h) =
        ap₂ lt_z (low_large a (omega arith)) (low_large b (omega arith)) ∙ lt-ltb (a - 32768) (b - 32768) (omega arith) ∙ sym (lt-ltb a b h)
    go (no l) (no k) (no h) =
        ap₂ lt_z (low_large a (omega arith)) (low_large b (omega arith)) ∙ le-ltb (a - 32768) (b - 32768) (omega arith)
        ∙ sym (le-ltb a b (omega arith))

-- ---- a sample and an offset

-- the lowering stands at the end of the sum
low_sum : (s : ℕ) (o : ℤ) → low_of s +ℤ o ≡ pos s +ℤ o -ℤ pos 32768
low_sum s o =
    +ℤ_assoc (pos s) (negsuc 32767) o ∙ ap (λ (z : ℤ). pos s +ℤ z) (+ℤ_comm (negsuc 32767) o)
    ∙ sym (+ℤ_assoc (pos s) o (negsuc 32767))

under_negsuc : (n : ℕ) → negsuc n -ℤ pos 32768 ≡ negsuc (n + 32768)
under_negsuc n = ap negsuc (omega arith)

under : (z : ℤ) → lt_z (z -ℤ pos 32768) (negsuc 32767) ≡ true → negsuc 32767 ≡ low_of (held 65535 z)
under (pos n) e = let h : n < 0 = ltb-true n 0 (sym (low_lt n 0) ∙ e) in absurd (omega arith)
under (negsuc n) e = refl

-- a number that is not below the range is no negative one
no_under : (n : ℕ) → lt_z (negsuc n -ℤ pos 32768) (negsuc 32767) ≡ false → ⊥
no_under n e =
    let h : n + 32768 ≤ 32767 = ltb-false 32767 (n + 32768) (ap (λ (z : ℤ). lt_z z (negsuc 32767)) (sym (under_negsuc n)) ∙ e) in
    omega arith

over : (z : ℤ) → lt_z (z -ℤ pos 32768) (negsuc 32767) ≡ false → lt_z (pos 32767) (z -ℤ pos 32768) ≡ true → pos 32767 ≡ low_of (held 65535 z)
over (pos n) e f = let h : 65535 < n = ltb-true 65535 n (sym (low_lt 65535 n) ∙ f) in
    let m : 65535 ≡ min n 65535 = omega arith in
    ap low_of m
over (negsuc n) e f = absurd (no_under n e)

within : (z : ℤ) → lt_z (z -ℤ pos 32768) (negsuc 32767) ≡ false → lt_z (pos 32767) (z -ℤ pos 32768) ≡ false
    → (z -ℤ pos 32768 ≡ low_of (held 65535 z)) × SFits w16 (z -ℤ pos 32768)
within (pos n) e f =
    let h : n ≤ 65535 = ltb-false 65535 n (sym (low_lt 65535 n) ∙ f) in
    let m : n ≡ min n 65535 = omega arith in
    (ap low_of m, low_fits n h)
within (negsuc n) e f = absurd (no_under n e)

-- the sum as the machine has it, of l, the sample lowered, and o
module _ (s : ℕ) {l o : ℤ} (hs : s ≤ 65535) (el : l ≡ low_of s) (hl : SFits w16 l) (ho : SFits w16 o) where
  abbrev sum : ℤ
  sum = to_z w32 (of_z w32 (to_z w16 (of_z w16 l))) +ℤ to_z w32 (of_z w32 (to_z w16 (of_z w16 o)))

  sum_read : sum ≡ l +ℤ o
  sum_read = ap₂ (λ (x y : ℤ). x +ℤ y) (wide_is w32 tt hl) (wide_is w32 tt ho)

  pub sum_fits : SFits w32 sum
  sum_fits = subst (λ (z : ℤ). SFits w32 z) (sym sum_read) (record { sfits = omega (arith, mag_add l o, hl.sfits, ho.sfits) })

  sum_is : to_z w32 (of_z w32 sum) ≡ pos s +ℤ o -ℤ pos 32768
  sum_is = to_z-of_z sum_fits ∙ sum_read ∙ ap (λ (z : ℤ). z +ℤ o) el ∙ low_sum s o

  abbrev Low : Bool → Type 0
  Low b = lt_z (to_z w32 (of_z w32 sum)) (negsuc 32767) ≡ b

  abbrev High : Bool → Type 0
  High b = lt_z (pos 32767) (to_z w32 (of_z w32 sum)) ≡ b

  low_test : {b : Bool} → Low b → lt_z (pos s +ℤ o -ℤ pos 32768) (negsuc 32767) ≡ b
  low_test e = ap (λ (z : ℤ). lt_z z (negsuc 32767)) (sym sum_is) ∙ e

  high_test : {b : Bool} → High b → lt_z (pos 32767) (pos s +ℤ o -ℤ pos 32768) ≡ b
  high_test e = ap (λ (z : ℤ). lt_z (pos 32767) z) (sym sum_is) ∙ e

  pub sum_narrow : Low false → High false → SFits w16 (to_z w32 (of_z w32 sum))
  sum_narrow e f = subst (λ (z : ℤ). SFits w16 z) (sym sum_is) (within (pos s +ℤ o) (low_test e) (high_test f)).1

  pub sum_within : Low false → High false → to_z w16 (of_z w16 (to_z w32 (of_z w32 sum))) ≡ low_of (held 65535 (pos s +ℤ o))
  sum_within e f = to_z-of_z (sum_narrow e f) ∙ sum_is ∙ (within (pos s +ℤ o) (low_test e) (high_test f)).0
