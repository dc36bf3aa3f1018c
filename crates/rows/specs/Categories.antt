-- The table of category numbers that the code has, at the sum of two signs plus 2.
use Rattle.std.specs.Prelude.{◌≡◌, List, ℕ, ◌-◌, ◌%◌, ◌<◌, get_or}
use Rattle.standard.specs.Samples.{categories}

-- it is that of the definitions, and the sums around 0 mirror each other: 1 and 4, and 2 and 3, change places
pub record Numbers (table : List ℕ) : Type 0 where
  pub same : table ≡ categories
  pub mirrors : (n : ℕ) → n < 5 → get_or table (4 - n) 0 ≡ (5 - get_or table n 0) % 5
