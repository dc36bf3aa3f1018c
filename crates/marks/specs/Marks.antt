-- What a scan of marks looks for, and how far it comes.
use Rattle.std.specs.Prelude.{◌≡◌, List, ◌⊎◌, ℕ, ◌<◌, length, get_or}

-- a mark below low, or above high
abbrev pub Outside : ℕ → ℕ → ℕ → Type 0
Outside low high m = (m < low) ⊎ (high < m)

-- one of the marks
abbrev pub SomeOutside : ℕ → ℕ → List ℕ → Type 0
SomeOutside low high marks = (j : ℕ) × (j < length marks) × Outside low high (get_or marks j 0)

-- k marks stand before the first that is outside, or are all
pub record LeadingInside (low high : ℕ) (marks : List ℕ) (k : ℕ) : Type 0 where
  pub inside : (j : ℕ) → j < k → ¬ Outside low high (get_or marks j 0)
  pub ends : (k ≡ length marks) ⊎ ((k < length marks) × Outside low high (get_or marks k 0))
