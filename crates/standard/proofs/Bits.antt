-- The number that bits spell: taken apart, cut short, and read back from the bits of fixed length that spell it.
use mathlib.Core.Path.{◌≡◌, refl, sym, ap, ◌∙◌}
use mathlib.Core.Bool.{Bool, true, false}
use mathlib.Core.List.{List, [], ◌∷◌, ◌++◌}
use Prim.Native.Nat.{ℕ, zero, suc, ◌+◌, ◌*◌, ◌/◌, ◌%◌, ◌^◌, ◌≤◌, ◌<◌}
use native.Mathlib.Nat.{zero-add, suc-add, add-mul, one-mul, zero-mul, two-pow-succ, le_of_suc-le-suc, not-suc-le-zero, zero-lt-suc, mod-lt, mod-one}
use native.Mathlib.Numerals.{one-add}
use native.Mathlib.Omega.{arith}
use lib.Dec.{eqb}
use lib.ListN.{take, drop}
use lib.Pow.{pow_pos, pow-add, mod-pow-add, high}
use Rattle.standard.specs.Bins.{fixed_length, number}

pub number_nil : (n : ℕ) → number n [] ≡ 0
unfolding number
number_nil zero = refl
number_nil (suc n) = refl

pub number_lt : (n : ℕ) (l : List Bool) → number n l < 2 ^ n
unfolding number
number_lt zero l = zero-lt-suc zero
number_lt (suc n) [] = pow_pos (suc n)
number_lt (suc n) (true ∷ l) = omega (arith, number_lt n l, two-pow-succ n)
number_lt (suc n) (false ∷ l) = omega (arith, number_lt n l, two-pow-succ n)

-- j + k bits: the first j above the k after them
pub number_add : (j k : ℕ) (l : List Bool) → number (j + k) l ≡ number j l * 2 ^ k + number k (drop j l)
unfolding number
number_add zero k l = ap (λ (n : ℕ). number n l) (zero-add k) ∙ sym (ap (λ (x : ℕ). x + number k l) (zero-mul (2 ^ k)) ∙ zero-add (number k l))
number_add (suc j) k [] = rw (suc-add, zero-mul, zero-add) (sym (number_nil k))
number_add (suc j) k (true ∷ l) =
    rw suc-add (omega (arith, number_add j k l, pow-add 2 j k, add-mul (2 ^ j) (number j l) (2 ^ k)))
number_add (suc j) k (false ∷ l) = rw suc-add (number_add j k l)

-- the first j of j + k bits
pub number_high : (j k : ℕ) (l : List Bool) → number (j + k) l / 2 ^ k ≡ number j l
number_high j k l = ap (λ (x : ℕ). x / 2 ^ k) (number_add j k l) ∙ high (number j l) k (number_lt k (drop j l))

-- no bit after the first n counts
pub number_take : (n r : ℕ) (l : List Bool) → n ≤ r → number n (take r l) ≡ number n l
unfolding number
number_take zero r l h = refl
number_take (suc n) zero l h = absurd (not-suc-le-zero h)
number_take (suc n) (suc r) [] h = refl
number_take (suc n) (suc r) (true ∷ l) h = ap (λ (k : ℕ). 2 ^ n + k) (number_take n r l (le_of_suc-le-suc h))
number_take (suc n) (suc r) (false ∷ l) h = number_take n r l (le_of_suc-le-suc h)

digit : (d n : ℕ) (l : List Bool) → d < 2 → number (suc n) (eqb d 1 ∷ l) ≡ d * 2 ^ n + number n l
unfolding number
digit zero n l h = sym (ap (λ (x : ℕ). x + number n l) (zero-mul (2 ^ n)) ∙ zero-add (number n l))
digit (suc zero) n l h = sym (ap (λ (x : ℕ). x + number n l) (one-mul (2 ^ n)))
digit (suc (suc d)) n l h = absurd (not-suc-le-zero (le_of_suc-le-suc (le_of_suc-le-suc h)))

-- what n bits spell of x: its n low bits
pub number_fixed : (n x : ℕ) (l : List Bool) → number n (fixed_length n x ++ l) ≡ x % 2 ^ n
unfolding number fixed_length
number_fixed zero x l = sym (mod-one x)
number_fixed (suc n) x l =
    digit (x / 2 ^ n % 2) n (fixed_length n x ++ l) (mod-lt (x / 2 ^ n) (zero-lt-suc 1))
    ∙ ap (λ (r : ℕ). x / 2 ^ n % 2 * 2 ^ n + r) (number_fixed n x l)
    ∙ sym (mod-pow-add x 1 n)
    ∙ ap (λ (k : ℕ). x % 2 ^ k) (one-add n)
