-- Bits of fixed length: spelled from the number that bits spell, and put together; what is truncated is such bits too; and shifts.
use mathlib.Core.Path.{◌≡◌, refl, sym, ap, ap₂, ◌∙◌}
use mathlib.Core.Bool.{Bool, true, false}
use mathlib.Core.List.{List, [], ◌∷◌, ◌++◌}
use Prim.Native.Nat.{ℕ, zero, suc, ◌+◌, ◌-◌, ◌*◌, ◌/◌, ◌%◌, ◌^◌, ◌≤◌, ◌<◌}
use native.Mathlib.Nat.{add-zero, zero-add, suc-add, mul_assoc, two-pow-succ, le_of_suc-le-suc, not-suc-le-zero}
use native.Mathlib.Omega.{arith}
use lib.Dec.{eqb}
use lib.ListN.{length, take}
use lib.Pow.{pow_pos, pow-add, mod-pow-add, low, shl-shr, shr-shr}
use Rattle.standard.specs.Bins.{fixed_length, number, truncated}
use Rattle.standard.proofs.Bits.{number_lt}
use Rattle.standard.proofs.Elements.{high_one, high_zero}

-- ---- spelled bits

pub fixed_number : (n : ℕ) (l : List Bool) → n ≤ length l → fixed_length n (number n l) ≡ take n l
unfolding number fixed_length
fixed_number zero l h = refl
fixed_number (suc n) [] h = absurd (not-suc-le-zero h)
fixed_number (suc n) (true ∷ l) h = high_one n (number n l) (number_lt n l) ∙ ap (λ (r : List Bool). true ∷ r) (fixed_number n l (le_of_suc-le-suc h))
fixed_number (suc n) (false ∷ l) h = high_zero n (number n l) (number_lt n l) ∙ ap (λ (r : List Bool). false ∷ r) (fixed_number n l (le_of_suc-le-suc h))

-- j + k bits: the j high ones and then the k low ones
pub fixed_add : (j k x : ℕ) → fixed_length (j + k) x ≡ fixed_length j (x / 2 ^ k) ++ fixed_length k x
unfolding fixed_length
fixed_add zero k x = ap (λ (n : ℕ). fixed_length n x) (zero-add k)
fixed_add (suc j) k x =
    ap (λ (n : ℕ). fixed_length n x) (suc-add j k)
    ∙ ap₂ (λ (d : ℕ) (r : List Bool). eqb (d % 2) 1 ∷ r)
    (ap (λ (n : ℕ). x / 2 ^ n) (omega arith) ∙ sym (shr-shr x k j))
    (fixed_add j k x)

-- ---- truncated

pub truncated_length_part : (m v : ℕ) → v < m → length (truncated m v) ≡ v + 1
unfolding truncated
truncated_length_part zero v h = absurd (not-suc-le-zero h)
truncated_length_part (suc m) zero h = refl
truncated_length_part (suc m) (suc v) h = omega (arith, truncated_length_part m v (le_of_suc-le-suc h))

pub truncated_length_full : (m v : ℕ) → m ≤ v → length (truncated m v) ≡ m
unfolding truncated
truncated_length_full zero v h = refl
truncated_length_full (suc m) zero h = absurd (not-suc-le-zero h)
truncated_length_full (suc m) (suc v) h = ap suc (truncated_length_full m v (le_of_suc-le-suc h))

truncated_number_part : (m v : ℕ) → v < m → number (suc v) (truncated m v) + 2 ≡ 2 ^ suc v
unfolding truncated number
truncated_number_part zero v h = absurd (not-suc-le-zero h)
truncated_number_part (suc m) zero h = refl
truncated_number_part (suc m) (suc v) h = omega (arith, truncated_number_part m v (le_of_suc-le-suc h), two-pow-succ (suc v))

truncated_number_full : (m v : ℕ) → m ≤ v → number m (truncated m v) + 1 ≡ 2 ^ m
unfolding truncated number
truncated_number_full zero v h = refl
truncated_number_full (suc m) zero h = absurd (not-suc-le-zero h)
truncated_number_full (suc m) (suc v) h = omega (arith, truncated_number_full m v (le_of_suc-le-suc h), two-pow-succ m)

take_whole : (n : ℕ) (l : List Bool) → length l ≡ n → take n l ≡ l
take_whole zero [] e = refl
take_whole zero (x ∷ l) e = absurd (omega arith)
take_whole (suc n) [] e = absurd (omega arith)
take_whole (suc n) (x ∷ l) e = ap (λ (r : List Bool). x ∷ r) (take_whole n l (omega arith))

-- ones and a zero are a number, and so are ones only
pub truncated_part : (m v : ℕ) → v < m → truncated m v ≡ fixed_length (v + 1) (2 ^ suc v - 2)
truncated_part m v h =
    let o : suc v ≡ v + 1 = omega arith in
    let e : 2 ^ suc v - 2 ≡ number (v + 1) (truncated m v) = omega (arith, truncated_number_part m v h, ap (λ (k : ℕ). number k (truncated m v)) o) in
    let n = truncated_length_part m v h in
    sym (ap (fixed_length (v + 1)) e ∙ fixed_number (v + 1) (truncated m v) (omega arith) ∙ take_whole (v + 1) (truncated m v) n)

pub truncated_full : (m v : ℕ) → m ≤ v → truncated m v ≡ fixed_length m (2 ^ m - 1)
truncated_full m v h =
    let e : 2 ^ m - 1 ≡ number m (truncated m v) = omega (arith, truncated_number_full m v h) in
    let n = truncated_length_full m v h in
    sym (ap (fixed_length m) e ∙ fixed_number m (truncated m v) (omega arith) ∙ take_whole m (truncated m v) n)

-- ---- shifts

-- the w low bits of x, moved up: w + a is the width of the word
pub shl_wrap : (x w a : ℕ) → x * 2 ^ a % 2 ^ (w + a) ≡ x % 2 ^ w * 2 ^ a
shl_wrap x w a =
    mod-pow-add (x * 2 ^ a) w a
    ∙ ap₂ (λ (i j : ℕ). i % 2 ^ w * 2 ^ a + j) (shl-shr x a) (ap (λ (y : ℕ). y % 2 ^ a) (sym (add-zero (x * 2 ^ a))) ∙ low x a (pow_pos a))
    ∙ add-zero (x % 2 ^ w * 2 ^ a)

-- .. and down again, b fewer
pub shl_shr_part : (x w t b : ℕ) → x * 2 ^ (t + b) % 2 ^ (w + (t + b)) / 2 ^ b ≡ x % 2 ^ w * 2 ^ t
shl_shr_part x w t b =
    ap (λ (y : ℕ). y / 2 ^ b) (shl_wrap x w (t + b) ∙ ap (λ (y : ℕ). x % 2 ^ w * y) (pow-add 2 t b) ∙ sym (mul_assoc (x % 2 ^ w) (2 ^ t) (2 ^ b)))
    ∙ shl-shr (x % 2 ^ w * 2 ^ t) b
