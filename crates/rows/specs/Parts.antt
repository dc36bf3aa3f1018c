-- What the rows make of equal parts of the deblocked plane, sample by sample.
use Rattle.std.specs.Prelude.{◌≡◌, List, ℕ, ◌≤◌, ◌<◌, length, get_or}
use Rattle.std.specs.Prelude.{Some as some}
use Rattle.standard.specs.Samples.{band_idx, edge_idx_of}
use Rattle.rows.specs.declared.Moves.{Moves}
use Rattle.rows.specs.Moves.{moved}

-- sample j of the part s, whose neighbours are those of the parts a and b
abbrev pub edge_row : Moves → List ℕ → List ℕ → List ℕ → ℕ → ℕ
edge_row m s a b j = moved m (edge_idx_of (get_or s j 0) (some (get_or a j 0)) (some (get_or b j 0))) (get_or s j 0)

abbrev pub band_row : Moves → ℕ → ℕ → List ℕ → ℕ → ℕ
band_row m depth position s j = moved m (band_idx depth position (get_or s j 0)) (get_or s j 0)

-- the parts of an edge row are as long as one another
pub record Equal (s a b out : List ℕ) : Type 0 where
  pub own : length s ≡ length out
  pub first : length a ≡ length out
  pub second : length b ≡ length out

-- a depth and a band position of the rules
pub record Banded (depth position : ℕ) : Type 0 where
  pub least : 8 ≤ depth
  pub most : depth ≤ 16
  pub place : position < 32
