-- What a function that puts bins does to the bytes.
use Rattle.std.specs.Prelude.{◌≡◌, Bool, List, [], ◌∷◌, ◌++◌, ℕ, ◌+◌, ◌*◌, ◌^◌, ◌≤◌, ◌<◌, length}
use Rattle.standard.specs.Bins.{bins_of, packed}

-- n more bins fit at the place `at`
pub record Room (at n : ℕ) (out : List ℕ) : Type 0 where
  pub fits : at + n ≤ 8 * length out
  pub small : at + n < 2 ^ 32

-- bytes with bins put at the place `at`: the bits before it are kept, those of their last byte that are left over become 0, and bytes beyond
-- are as they were. Where no bins are put, nothing changes.
unfoldable pub placed : ℕ → List Bool → List ℕ → List ℕ
placed at [] out = out
placed at (b ∷ new) out = packed (bins_of out at ++ (b ∷ new)) out

-- at the place `at` the bins `new` were put, for which there was room, and the place after them is `next`
pub record Puts (at : ℕ) (new : List Bool) (entry exit : List ℕ) (next : ℕ) : Type 0 where
  pub moved : next ≡ at + length new
  pub long : length exit ≡ length entry
  pub bytes : Room at (length new) entry → exit ≡ placed at new entry
