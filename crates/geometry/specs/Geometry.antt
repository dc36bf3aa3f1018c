-- How the contracts of this crate state their results, over the definitions of the standard.
use Rattle.std.specs.Prelude.{◌≡◌, ◌⊎◌, ℕ, ◌+◌, ◌-◌, ◌/◌, ◌%◌, ◌≤◌, ◌<◌, min}
use Rattle.standard.specs.declared.Picture.{Picture}
use Rattle.standard.specs.declared.Rectangle.{Rectangle}
use Rattle.standard.specs.Picture.{columns, rows}

-- the rule of a CTB's size
abbrev pub CtbSize : ℕ → Type 0
CtbSize n = (n ≡ 16) ⊎ ((n ≡ 32) ⊎ (n ≡ 64))

-- r is n, with bounds for arithmetic over it
pub record Counted (n limit r : ℕ) : Type 0 where
  pub is : r ≡ n
  pub least : 0 < r
  pub most : r ≤ limit

-- the columns and rows of CTB k and its up to eight neighbours, in the grid of CTBs
unfoldable pub around : Picture → ℕ → Rectangle
around p k = record {
  x0 = k % columns p - 1;
  x1 = min (k % columns p + 2) (columns p);
  y0 = k / columns p - 1;
  y1 = min (k / columns p + 2) (rows p);
}
