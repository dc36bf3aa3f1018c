-- Entries that lie in the table.
use Rattle.std.specs.Prelude.{List, ℕ, ◌+◌, ◌*◌, ◌≤◌, length, Option, Some as some, None as none}
use Rattle.standard.specs.Table.{entry_size}

-- a neighbour's entry lies in the table
abbrev pub InTable : List ℕ → Option ℕ → Type 0
InTable table none = Unit {0}
InTable table (some k) = entry_size * k + entry_size ≤ length table
