-- What writing bins into lent bytes answers and leaves.
use Rattle.std.specs.Prelude.{◌≡◌, Bool, List, ℕ, ◌*◌, ◌≤◌, ◌<◌, length}
use Rattle.std.specs.Prelude.{Option, Result, Ok, Err}
use Rattle.standard.specs.declared.CtuSet.{CtuSet}
use Rattle.standard.specs.declared.Switches.{Switches}
use Rattle.standard.specs.Bins.{packed}
use Rattle.writer.specs.declared.NoRoom.{NoRoom}
use Rattle.writer.specs.declared.Shape.{Shape}
use Rattle.writer.specs.Forms.{Choice, shape_bins}

-- they fit, are counted and are at the front; or they do not fit, and nothing has changed
abbrev pub Writes : List Bool → List ℕ → List ℕ → Result ℕ NoRoom → Type 0
Writes bins before after (Ok n) = (length bins ≤ 8 * length before) × (n ≡ length bins) × (after ≡ packed bins before)
Writes bins before after (Err e) = (8 * length before < length bins) × (after ≡ before)

-- a set's bins, in the shape that writing uses
pub record WritesSet (s : Switches) (left up : Option CtuSet) (q : CtuSet) (before after : List ℕ) (r : Result ℕ NoRoom) : Type 0 where
  pub shape : Shape
  pub choice : Choice s left up q shape
  pub writes : Writes (shape_bins s left up q shape) before after r
