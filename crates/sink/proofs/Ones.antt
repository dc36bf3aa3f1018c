-- A truncated number is put as the bits of another, of 31 at most: 2^(v+1) - 2, or 2^m - 1.
use mathlib.Core.Path.{◌≡◌, sym, ap, ◌∙◌}
use Prim.Native.Nat.{ℕ, suc, ◌+◌, ◌-◌, ◌*◌, ◌%◌, ◌^◌, ◌<◌, ◌≤◌}
use native.Mathlib.Nat.{mod-eq_of_lt, two-pow-succ, one-mul}
use native.Mathlib.Omega.{arith}
use lib.Pow.{pow-lt, pow_pos}
use Rattle.standard.specs.Bins.{fixed_length, truncated}
use Rattle.sink.proofs.Bits.{truncated_part, truncated_full}

pub two_shl : (v : ℕ) → v < 31 → 2 * 2 ^ v % 2 ^ 32 ≡ 2 ^ suc v
two_shl v h = let lt : 2 ^ suc v < 2 ^ 32 = pow-lt {i = suc v} {j = 32} (omega arith) in mod-eq_of_lt (omega (arith, lt, two-pow-succ v)) ∙ omega (arith, two-pow-succ v)

pub one_shl : (m : ℕ) → m < 32 → 1 * 2 ^ m % 2 ^ 32 ≡ 2 ^ m
one_shl m h = let lt : 2 ^ m < 2 ^ 32 = pow-lt h in mod-eq_of_lt (omega arith) ∙ one-mul (2 ^ m)

pub two_le : (v : ℕ) → v < 31 → 2 ≤ 2 * 2 ^ v % 2 ^ 32
two_le v h = omega (arith, two_shl v h, two-pow-succ v, pow_pos v)

-- ones and a zero, or ones alone, are the bits of a number
module _ (m v : ℕ) (h : m < 32) where
  pub zero_bits : v < m → fixed_length (v + 1) (2 * 2 ^ v % 2 ^ 32 - 2) ≡ truncated m v
  zero_bits i = ap (λ (x : ℕ). fixed_length (v + 1) (x - 2)) (two_shl v (omega arith)) ∙ sym (truncated_part m v i)

  pub ones_bits : m ≤ v → fixed_length m (1 * 2 ^ m % 2 ^ 32 - 1) ≡ truncated m v
  ones_bits i = ap (λ (x : ℕ). fixed_length m (x - 1)) (one_shl m h) ∙ sym (truncated_full m v i)
