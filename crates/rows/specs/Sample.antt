-- What the functions of one sample compute with.
use Rattle.std.specs.Prelude.{◌≡◌, ℕ, ◌+◌, ◌-◌, ◌/◌, ◌%◌, ◌^◌, ◌≤◌, ◌<◌, ℤ, pos, ◌-ℤ◌}

-- a number of 16 bits, less half of their range
abbrev pub low_of : ℕ → ℤ
low_of n = pos n -ℤ pos 32768

-- the band of a sample, less the position, of 32
abbrev pub place_of : ℕ → ℕ → ℕ → ℕ
place_of depth position s = (s / 2 ^ (depth - 5) + 32 - position) % 32

-- o where n is k, and 0 elsewhere
pub record Only (n k o r : ℤ) : Type 0 where
  pub same : n ≡ k → r ≡ o
  pub other : (n ≡ k → ⊥) → r ≡ pos 0

-- o where k is at least from and below to, and 0 elsewhere
pub record Within (k from to : ℕ) (o r : ℤ) : Type 0 where
  pub below : k < from → r ≡ pos 0
  pub inside : from ≤ k → k < to → r ≡ o
  pub above : to ≤ k → r ≡ pos 0
