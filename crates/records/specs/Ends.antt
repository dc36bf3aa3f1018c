-- An input that ends before a record does.
use Rattle.std.specs.Prelude.{ℕ, ◌<◌, List, length, Option}
use Rattle.std.specs.Io.KnownBytes.{Consumes, IsAtEnd}

-- fewer than n bytes were read, and no more are left
abbrev pub EndsBefore : ℕ → Option (List ℕ) → Option (List ℕ) → Type 0
EndsBefore n before after = (part : List ℕ) × (length part < n) × Consumes before after part × IsAtEnd after
