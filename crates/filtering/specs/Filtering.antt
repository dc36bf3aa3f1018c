-- What the tests of this crate look for, the set that they choose, and what the filter of the block takes.
use Rattle.std.specs.Prelude.{◌≡◌, List, ℕ, ◌+◌, ◌*◌, ◌^◌, ◌≤◌, ◌<◌, length, get_or}
use Rattle.standard.specs.declared.Picture.{Picture}
use Rattle.standard.specs.declared.State.{State}
use Rattle.standard.specs.declared.Rectangle.{Rectangle}
use Rattle.standard.specs.declared.Offsets.{Offsets}
use Rattle.standard.specs.Picture.{depth_of, plane_width, plane_height, Inside, rectangle}
use Rattle.standard.specs.Samples.{at, Waits, Scans, layout_of, context_of, sample}
use Rattle.standard.specs.Table.{offsets_at, parameters_in}
use Rattle.standard.specs.Reasons.{mark_of, TooLarge, TableFits}
use Rattle.standard.specs.Calls.{Written}
use Rattle.geometry.specs.declared.block.Block.{Block}
use Rattle.marks.specs.Marks.{Outside}
use Rattle.samples.specs.Blocks.{Legal}

-- ---- marks

-- one of row y of a rectangle of marks, w to a row
abbrev pub RowOutside : ℕ → ℕ → List ℕ → ℕ → Rectangle → ℕ → Type 0
RowOutside low high marks w r y = (x : ℕ) × ((r.x0 ≤ x) × (x < r.x1)) × Outside low high (get_or marks (y * w + x) 0)

-- one of any row
abbrev pub MarkOutside : ℕ → ℕ → List ℕ → ℕ → Rectangle → Type 0
MarkOutside low high marks w r = (x : ℕ) × (y : ℕ) × Inside r x y × Outside low high (get_or marks (y * w + x) 0)

-- that of a CTB that the filter of CTB k by this set waits for
abbrev pub WaitedOutside : Picture → ℕ → Offsets → ℕ → List ℕ → ℕ → ℕ → Type 0
WaitedOutside p i set k marks low high = (j : ℕ) × Waits p set k j × Outside low high (mark_of p marks i j)

-- ---- samples

-- one that the filter of CTB k by this set looks at exceeds the depth
abbrev pub ScannedTooLarge : State → ℕ → Offsets → ℕ → List ℕ → Type 0
ScannedTooLarge s i set k plane = (x : ℕ) × (y : ℕ) × Scans s.picture i set k x y × TooLarge s i (at plane (plane_width s.picture i) x y)

-- ---- the answer

-- the set that CTB k of component i is filtered with
pub record Chosen (i k : ℕ) (table : List ℕ) (set : Offsets) : Type 0 where
  pub is : set ≡ offsets_at table i k
  pub legal : Legal set

-- ---- the block

-- no deblocked sample of CTB k is above the depth
abbrev pub Deep : Picture → ℕ → ℕ → List ℕ → Type 0
Deep p i k plane = (x y : ℕ) → Inside (rectangle p i k) x y → at plane (plane_width p i) x y < 2 ^ depth_of p i

-- what the filter of the block takes: a set that is legal, a table and two planes of their sizes, and no deblocked sample above the depth
pub record Takes (b : Block) (set : Offsets) (table plane out : List ℕ) : Type 0 where
  pub legal : Legal set
  pub table_fits : TableFits b.of.picture table
  pub deblocked : length plane ≡ plane_width b.of.picture b.component * plane_height b.of.picture b.component
  pub filtered : length out ≡ plane_width b.of.picture b.component * plane_height b.of.picture b.component
  pub deep : Deep b.of.picture b.component b.ctb plane

-- `after` is the filtered plane `before` with the block's samples by the set, from the deblocked plane
abbrev pub Sampled : Block → Offsets → List ℕ → List ℕ → List ℕ → List ℕ → Type 0
Sampled b set table plane before after =
    Written (plane_width b.of.picture b.component) (plane_height b.of.picture b.component) (rectangle b.of.picture b.component b.ctb)
    (sample (layout_of b.of.picture b.component) (context_of b.of.picture (parameters_in table) b.component) set plane) before after
