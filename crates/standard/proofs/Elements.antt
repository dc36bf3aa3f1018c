-- The codes of the syntax elements: a number of fixed length, a magnitude, an offset by its magnitude and sign, and four of each.
use mathlib.Core.Path.{◌≡◌, refl, sym, ap, ap₂, ◌∙◌}
use mathlib.Core.Bool.{Bool, true, false, cond}
use mathlib.Core.List.{List, [], ◌∷◌, ◌++◌}
use Prim.Native.Nat.{ℕ, zero, suc, ◌+◌, ◌-◌, ◌*◌, ◌/◌, ◌%◌, ◌^◌, ◌≤◌, ◌<◌, suc-le-suc, zero-le}
use native.Mathlib.Nat.{le_of_suc-le-suc, add-mul-div_right, add-mul-mod_self_right, mul_assoc, mul_comm, pow-suc, one-mul, div-eq_of_lt}
use native.Mathlib.Decide.{dec_lt}
use native.Mathlib.Omega.{arith}
use lib.Dec.{eqb}
use lib.IntN.{ℤ, pos, negsuc, nat_abs}
use lib.Pow.{high, pow_pos}
use Rattle.standard.specs.declared.Four.{Four}
use Rattle.standard.specs.Sets.{four}
use Rattle.standard.specs.Bins.{truncated, fixed_length, sign_bins}
use Rattle.standard.proofs.Codes.{Code, Spelled, pure, bit, in_turn, said_of}

-- ---- fixed length

low_bits : (n k v : ℕ) → fixed_length n (v + k * 2 ^ n) ≡ fixed_length n v
unfolding fixed_length
low_bits zero k v = refl
low_bits (suc n) k v =
    let e : v + k * 2 ^ suc n ≡ v + k * 2 * 2 ^ n =
    ap (λ (y : ℕ). v + k * y) (pow-suc 2 n ∙ mul_comm (2 ^ n) 2) ∙ ap (λ (y : ℕ). v + y) (sym (mul_assoc k 2 (2 ^ n))) in
    ap (λ (y : ℕ). eqb (y / 2 ^ n % 2) 1 ∷ fixed_length n y) e
    ∙ ap₂ (λ (d : ℕ) (l : List Bool). eqb d 1 ∷ l)
    (ap (λ (y : ℕ). y % 2) (add-mul-div_right v (k * 2) (pow_pos n)) ∙ add-mul-mod_self_right (v / 2 ^ n) k 2)
    (low_bits n (k * 2) v)

-- the high bit, and the number of the bits below it
pub high_one : (n v : ℕ) → v < 2 ^ n → fixed_length (suc n) (2 ^ n + v) ≡ true ∷ fixed_length n v
unfolding fixed_length
high_one n v h =
    let top : (2 ^ n + v) / 2 ^ n ≡ 1 = ap (λ (x : ℕ). (x + v) / 2 ^ n) (sym (one-mul (2 ^ n))) ∙ high 1 n h in
    let low : 2 ^ n + v ≡ v + 1 * 2 ^ n = omega arith in
    ap₂ (λ (d : ℕ) (l : List Bool). eqb (d % 2) 1 ∷ l) top (ap (fixed_length n) low ∙ low_bits n 1 v)

pub high_zero : (n v : ℕ) → v < 2 ^ n → fixed_length (suc n) v ≡ false ∷ fixed_length n v
unfolding fixed_length
high_zero n v h = ap (λ (d : ℕ). eqb (d % 2) 1 ∷ fixed_length n v) (div-eq_of_lt h)

abbrev pub Below : ℕ → ℕ → Type 0
Below n v = v < 2 ^ n

abbrev pub with_high : ℕ → Bool × ℕ → ℕ
with_high n t = cond t.0 (2 ^ n + t.1) t.1

pub high_to : (n : ℕ) (t : Bool × ℕ) → Unit {0} × Below n t.1
    → Below (suc n) (with_high n t) × (t.0 ∷ fixed_length n t.1 ≡ fixed_length (suc n) (with_high n t))
high_to n (true, v) i = (omega (arith, i.1, pow-suc 2 n), sym (high_one n v i.1))
high_to n (false, v) i = (omega (arith, i.1, pow-suc 2 n), sym (high_zero n v i.1))

pub high_from : (n v : ℕ) → Below (suc n) v → (t : Bool × ℕ) × (with_high n t ≡ v) × (Unit {0} × Below n t.1)
high_from n v i = go (dec_lt v (2 ^ n))
  where
    go : Dec (v < 2 ^ n) → (t : Bool × ℕ) × (with_high n t ≡ v) × (Unit {0} × Below n t.1)
    go (yes h) = ((false, v), refl, (tt, h))
    go (no h) = ((true, v - 2 ^ n), omega arith, (tt, omega (arith, i, pow-suc 2 n)))

pub no_bits_to : (v : ℕ) → v ≡ 0 → Below 0 v × (◌≡◌ {A = List Bool} [] (fixed_length 0 v))
unfolding fixed_length
no_bits_to v e = (omega (arith, e), refl)

pub no_bits_from : (v : ℕ) → Below 0 v → (a : ℕ) × (a ≡ v) × (a ≡ 0)
no_bits_from v h = (0, omega (arith, h), refl)

unfoldable pub fixed_code : (n : ℕ) → Code (Spelled (Below n) (fixed_length n))
unfolding said_of in_turn bit pure
fixed_code zero = said_of (pure 0) (λ v. v) no_bits_to no_bits_from
fixed_code (suc n) = said_of (in_turn bit (λ b. fixed_code n)) (with_high n) (high_to n) (high_from n)

-- ---- a magnitude

abbrev pub AtMost : ℕ → ℕ → Type 0
AtMost m v = v ≤ m

-- how many more ones, after a one; after a zero none
abbrev pub Counted : ℕ → Bool → ℕ → Type 0
Counted m true v = v ≤ m
Counted m false v = v ≡ 0

abbrev pub count_bins : ℕ → Bool → ℕ → List Bool
count_bins m true v = truncated m v
count_bins m false v = []

abbrev pub count : Bool × ℕ → ℕ
count t = cond t.0 (suc t.1) 0

pub count_to : (m : ℕ) (t : Bool × ℕ) → Unit {0} × Counted m t.0 t.1
    → AtMost (suc m) (count t) × (t.0 ∷ count_bins m t.0 t.1 ≡ truncated (suc m) (count t))
unfolding truncated
count_to m (true, v) i = (suc-le-suc i.1, refl)
count_to m (false, v) i = (zero-le, refl)

pub count_from : (m v : ℕ) → AtMost (suc m) v → (t : Bool × ℕ) × (count t ≡ v) × (Unit {0} × Counted m t.0 t.1)
count_from m zero h = ((false, 0), refl, (tt, refl))
count_from m (suc v) h = ((true, v), refl, (tt, le_of_suc-le-suc h))

pub no_count_to : (v : ℕ) → v ≡ 0 → AtMost 0 v × (◌≡◌ {A = List Bool} [] (truncated 0 v))
unfolding truncated
no_count_to v e = (omega (arith, e), refl)

pub no_count_from : (v : ℕ) → AtMost 0 v → (a : ℕ) × (a ≡ v) × (a ≡ 0)
no_count_from v h = (0, omega (arith, h), refl)

unfoldable pub after_bit : (m : ℕ) → Code (Spelled (AtMost m) (truncated m)) → (b : Bool) → Code (Spelled (Counted m b) (count_bins m b))
unfolding pure
after_bit m c true = c
after_bit m c false = pure 0

unfoldable pub truncated_code : (m : ℕ) → Code (Spelled (AtMost m) (truncated m))
unfolding said_of in_turn bit pure after_bit
truncated_code zero = said_of (pure 0) (λ v. v) no_count_to no_count_from
truncated_code (suc m) = said_of (in_turn bit (after_bit m (truncated_code m))) count (count_to m) (count_from m)

-- ---- an offset, by its magnitude

abbrev pub Sized : ℕ → ℤ → Type 0
Sized a z = nat_abs z ≡ a

abbrev pub with_sign : ℕ → Bool → ℤ
with_sign n b = cond b (negsuc n) (pos (suc n))

pub sign_to : (n : ℕ) (b : Bool) → Unit {0} → Sized (suc n) (with_sign n b) × (b ∷ [] ≡ sign_bins (with_sign n b))
unfolding sign_bins
sign_to n true i = (refl, refl)
sign_to n false i = (refl, refl)

pub sign_from : (n : ℕ) (z : ℤ) → Sized (suc n) z → (b : Bool) × (with_sign n b ≡ z) × Unit {0}
sign_from n (pos zero) e = absurd (omega (arith, e))
sign_from n (pos (suc k)) e = (false, ap pos (sym e), tt)
sign_from n (negsuc k) e = let same : n ≡ k = omega (arith, e) in (true, ap negsuc same, tt)

pub no_sign_to : (z : ℤ) → z ≡ pos 0 → Sized 0 z × (◌≡◌ {A = List Bool} [] (sign_bins z))
unfolding sign_bins
no_sign_to z e = (ap nat_abs e, sym (ap sign_bins e))

pub no_sign_from : (z : ℤ) → Sized 0 z → (a : ℤ) × (a ≡ z) × (a ≡ pos 0)
no_sign_from (pos zero) e = (pos 0, refl, refl)
no_sign_from (pos (suc n)) e = absurd (omega (arith, e))
no_sign_from (negsuc n) e = absurd (omega (arith, e))

unfoldable pub sign_code : (a : ℕ) → Code (Spelled (Sized a) sign_bins)
unfolding said_of bit pure
sign_code zero = said_of (pure (pos 0)) (λ z. z) no_sign_to no_sign_from
sign_code (suc n) = said_of bit (with_sign n) (sign_to n) (sign_from n)

-- ---- one for each of the four offsets, in turn

abbrev pub four_bins : {A : Type 0} → (A → List Bool) → Four A → List Bool
four_bins f o = f o.o1 ++ (f o.o2 ++ (f o.o3 ++ f o.o4))

module _ {A : Type 0} {P1 P2 P3 P4 : A → Type 0} {f : A → List Bool}
    (c1 : Code (Spelled P1 f)) (c2 : Code (Spelled P2 f)) (c3 : Code (Spelled P3 f)) (c4 : Code (Spelled P4 f)) where
  unfoldable pub four_code : Code (Spelled (λ (o : Four A). P1 o.o1 × (P2 o.o2 × (P3 o.o3 × P4 o.o4))) (four_bins f))
  unfolding said_of in_turn
  four_code =
      said_of (in_turn c1 (λ a. in_turn c2 (λ b. in_turn c3 (λ d. c4)))) (λ t. four t.0 t.1.0 t.1.1.0 t.1.1.1)
      (λ t i. (i, refl)) (λ o i. ((o.o1, (o.o2, (o.o3, o.o4))), refl, i))

abbrev pub AllAtMost : ℕ → Four ℕ → Type 0
AllAtMost m t = (t.o1 ≤ m) × ((t.o2 ≤ m) × ((t.o3 ≤ m) × (t.o4 ≤ m)))

unfoldable pub magnitudes_code : (m : ℕ) → Code (Spelled (AllAtMost m) (four_bins (truncated m)))
unfolding four_code truncated_code
magnitudes_code m = let c = truncated_code m in four_code c c c c

abbrev pub AllSized : Four ℕ → Four ℤ → Type 0
AllSized t o = (nat_abs o.o1 ≡ t.o1) × ((nat_abs o.o2 ≡ t.o2) × ((nat_abs o.o3 ≡ t.o3) × (nat_abs o.o4 ≡ t.o4)))

unfoldable pub signs_code : (t : Four ℕ) → Code (Spelled (AllSized t) (four_bins sign_bins))
unfolding four_code sign_code
signs_code t = four_code (sign_code t.o1) (sign_code t.o2) (sign_code t.o3) (sign_code t.o4)
