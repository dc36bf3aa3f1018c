-- What the code takes from the bins at a cursor.
use Rattle.std.specs.Prelude.{◌≡◌, Bool, List, ◌∷◌, ◌++◌, ℕ, ◌+◌, drop, Option, Some, None}
use Rattle.standard.specs.Bins.{bins_of}
use Rattle.bins.specs.declared.Cursor.{Cursor}

-- the bins from a cursor on: none at the count or past it
abbrev pub bins_at : Cursor → List Bool
bins_at c = drop c.at (bins_of c.bytes.now c.count)

-- two cursors among the same bins
pub record SameBins (c next : Cursor) : Type 0 where
  pub count : next.count ≡ c.count
  pub bytes : next.bytes ≡ c.bytes

-- the cursor n bins after c
pub record Past (c : Cursor) (n : ℕ) (next : Cursor) : Type 0 where
  pub at : next.at ≡ c.at + n
  pub among : SameBins c next

-- an answer of the code: a value and the cursor after it; or the bins end too early
abbrev pub Taken : Type 0 → Type 0
Taken A = Option (A × Cursor)

-- Of values that P allows, where f says the bins of each: the bins at the cursor are those of the value, and then those at the next
-- cursor, which is among the same bins; or they end too early, and with more of them they would be those of a value.
abbrev pub Spells : {A : Type 0} → (A → Type 0) → (A → List Bool) → Cursor → Taken A → Type 0
Spells P f c (Some (a, next)) = P a × (bins_at c ≡ f a ++ bins_at next) × SameBins c next
Spells {A} P f c None = (a : A) × (b : Bool) × (more : List Bool) × P a × (bins_at c ++ (b ∷ more) ≡ f a)

pub record Takes {A : Type 0} (P : A → Type 0) (f : A → List Bool) (c : Cursor) (r : Taken A) : Type 0 where
  pub spells : Spells P f c r
