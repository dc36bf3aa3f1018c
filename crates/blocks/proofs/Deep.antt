-- What is not above the top of a depth is below 2 ^ depth, which is not 0.
use Rattle.std.proofs.Common.{◌≡◌, ℕ, ◌-◌, ◌^◌, ◌<◌, arith, pow_pos}

pub below_top : (depth : ℕ) {top v : ℕ} → top ≡ 2 ^ depth - 1 → ¬ (top < v) → v < 2 ^ depth
below_top depth e n = let p = pow_pos depth in omega arith
