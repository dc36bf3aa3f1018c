-- What the program tests of a record before it filters.
use Rattle.std.specs.Prelude.{◌<◌, ◌≤◌}
use Rattle.standard.specs.declared.Layout.{Layout}
use Rattle.standard.specs.declared.Offsets.{Offsets}
use Rattle.standard.specs.declared.Rectangle.{Rectangle}
use Rattle.samples.specs.Blocks.{Legal}

-- a plane of at most 255 by 255, a depth and a set that the filter takes, and a block that is not empty
pub record Sound (l : Layout) (set : Offsets) (r : Rectangle) : Type 0 where
  pub wide : l.width ≤ 255
  pub high : l.height ≤ 255
  pub least : 8 ≤ l.depth
  pub most : l.depth ≤ 16
  pub shift : l.shift ≤ 6
  pub columns : r.x0 < r.x1
  pub right : r.x1 ≤ l.width
  pub rows : r.y0 < r.y1
  pub bottom : r.y1 ≤ l.height
  pub legal : Legal set
