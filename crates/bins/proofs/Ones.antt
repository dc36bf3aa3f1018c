-- The ones that bits begin with are the leading zeros of the complement of the number that the bits spell.
use mathlib.Core.Path.{◌≡◌, refl, sym, ap, ◌∙◌}
use mathlib.Core.Bool.{Bool, true, false}
use mathlib.Core.List.{List, [], ◌∷◌}
use Prim.Native.Nat.{ℕ, zero, suc, ◌+◌, ◌-◌, ◌*◌, ◌^◌, ◌≤◌, ◌<◌, zero-le, suc-le-suc}
use native.Mathlib.Nat.{zero-add, suc-add, two-pow-succ, zero-lt-suc}
use native.Mathlib.Omega.{arith}
use lib.Count.{count_leading_zeros, leading_unique}
use lib.ListN.{length}
use lib.Pow.{pow_pos}
use Rattle.standard.specs.Bins.{number}
use Rattle.standard.proofs.Bits.{number_lt}

-- the ones that the first n bits begin with
unfoldable pub ones : ℕ → List Bool → ℕ
ones zero l = 0
ones (suc n) [] = 0
ones (suc n) (true ∷ l) = suc (ones n l)
ones (suc n) (false ∷ l) = 0

pub ones_le : (k : ℕ) (l : List Bool) → ones k l ≤ length l
unfolding ones
ones_le zero l = zero-le
ones_le (suc k) [] = zero-le
ones_le (suc k) (true ∷ l) = suc-le-suc (ones_le k l)
ones_le (suc k) (false ∷ l) = zero-le

-- m bits are left after the ones, and the complement is a number of m bits, the first of them a one
below : (n : ℕ) (l : List Bool)
    → (m : ℕ) × (ones n l + m ≡ n) × ((2 ^ n - 1) - number n l < 2 ^ m) × (2 ^ m ≤ 2 * ((2 ^ n - 1) - number n l) + 1)
unfolding number ones
below zero l = (0, refl, zero-lt-suc zero, zero-lt-suc zero)
below (suc n) [] = (suc n, zero-add (suc n), omega (arith, pow_pos (suc n)), omega (arith, pow_pos (suc n), pow_pos n, two-pow-succ n))
below (suc n) (true ∷ l) =
    let h = below n l in
    let e : (2 ^ suc n - 1) - (2 ^ n + number n l) ≡ (2 ^ n - 1) - number n l = omega (arith, two-pow-succ n) in
    (h.0, suc-add (ones n l) h.0 ∙ ap suc h.1, rw e h.2, rw e h.3)
below (suc n) (false ∷ l) = (suc n, zero-add (suc n), omega (arith, pow_pos (suc n)), omega (arith, number_lt n l, two-pow-succ n))

pub leading_ones : (n : ℕ) (l : List Bool) → count_leading_zeros n ((2 ^ n - 1) - number n l) ≡ ones n l
leading_ones n l = let h = below n l in sym (leading_unique n ((2 ^ n - 1) - number n l) (ones n l) h.0 h.1 h.2 h.3)
