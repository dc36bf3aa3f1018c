-- Places of a plane: an index, a rectangle that fits, a row of one, and the part of a row that a function is lent.
use Rattle.std.specs.Prelude.{◌≡◌, List, ℕ, ◌+◌, ◌*◌, ◌^◌, ◌≤◌, ◌<◌, length, get_or}
use Rattle.standard.specs.declared.Rectangle.{Rectangle}

-- i is the index of column x of row y in a plane of w by h
pub record Indexed (w h x y i : ℕ) : Type 0 where
  pub place : i ≡ y * w + x
  pub inside : i < w * h
  pub area : w * h ≤ 2 ^ 26

-- a rectangle of a plane of w by h
pub record Placed (w h : ℕ) (r : Rectangle) : Type 0 where
  pub wide : w ≤ 8192
  pub high : h ≤ 8192
  pub columns : r.x0 < r.x1
  pub right : r.x1 ≤ w
  pub rows : r.y0 ≤ r.y1
  pub bottom : r.y1 ≤ h

abbrev pub block : ℕ → ℕ → ℕ → ℕ → Rectangle
block x0 x1 y0 y1 = record { x0 = x0; x1 = x1; y0 = y0; y1 = y1 }

-- row y, from column x0 up to and without x1
abbrev pub row : ℕ → ℕ → ℕ → Rectangle
row x0 x1 y = block x0 x1 y (y + 1)

-- what a row function does with the part that it is lent: its first n samples are as f says
pub record Filled (n : ℕ) (f : ℕ → ℕ) (before after : List ℕ) : Type 0 where
  pub long : length after ≡ length before
  pub each : (j : ℕ) → j < n → get_or after j 0 ≡ f j
