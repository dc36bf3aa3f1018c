-- What the block functions take and write. In each, the deblocked plane is read and the filtered plane is written.
use Rattle.std.specs.Prelude.{◌≡◌, Bool, true, false, List, ℕ, ◌*◌, ◌^◌, ◌≤◌, ◌<◌, pos, nat_abs, ◌+ℤ◌, length}
use Rattle.std.specs.Prelude.{Some as some}
use Rattle.standard.specs.declared.Layout.{Layout}
use Rattle.standard.specs.declared.Offsets.{Offsets}
use Rattle.standard.specs.declared.Offsets.TheVariants.{Off, Band, Edge}
use Rattle.standard.specs.declared.Rectangle.{Rectangle}
use Rattle.standard.specs.Picture.{Inside}
use Rattle.standard.specs.Samples.{Step, Context, at, band_idx, edge_idx_of, neighbour}
use Rattle.planes.specs.Places.{Placed}
use Rattle.rows.specs.declared.Moves.{Moves}
use Rattle.rows.specs.Moves.{moved}
use Rattle.samples.specs.declared.Around.{Around}
use Rattle.samples.specs.Around.{Reaches, ReachesBy}

-- two planes of a layout, and a rectangle in them
pub record Lent (l : Layout) (r : Rectangle) (plane out : List ℕ) : Type 0 where
  pub wide : l.width ≤ 8192
  pub high : l.height ≤ 8192
  pub columns : r.x0 ≤ r.x1
  pub right : r.x1 ≤ l.width
  pub rows : r.y0 ≤ r.y1
  pub bottom : r.y1 ≤ l.height
  pub deblocked : length plane ≡ l.width * l.height
  pub filtered : length out ≡ l.width * l.height

abbrev pub Legal : Offsets → Type 0
Legal Off = Unit {0}
Legal (Band position offsets) = position < 32
Legal (Edge class offsets) = class < 4

-- what a caller of the filter has tested: a block that is not empty, a depth and a set of the rules, no sample of the block above the depth, and answers
-- that bar what is outside the picture
pub record Ready (l : Layout) (set : Offsets) (o : Around) (r : Rectangle) (plane out : List ℕ) : Type 0 where
  pub lent : Lent l r plane out
  pub some_columns : r.x0 < r.x1
  pub some_rows : r.y0 < r.y1
  pub least : 8 ≤ l.depth
  pub most : l.depth ≤ 16
  pub shift : l.shift ≤ 6
  pub legal : Legal set
  pub deep : (x y : ℕ) → Inside r x y → at plane l.width x y < 2 ^ l.depth
  pub reaches : Reaches l r o

-- no sample of r is above the top
abbrev pub Under : Layout → Moves → Rectangle → List ℕ → Type 0
Under l m r plane = (x y : ℕ) → Inside r x y → at plane l.width x y ≤ m.top

-- ---- a sample by its band, and by its two neighbours, as the rows compute them

abbrev pub by_band : Layout → Moves → ℕ → List ℕ → ℕ → ℕ → ℕ
by_band l m position plane x y = moved m (band_idx l.depth position (at plane l.width x y)) (at plane l.width x y)

abbrev pub by_edge : Layout → Context → Moves → Step → Step → List ℕ → ℕ → ℕ → ℕ
by_edge l context m a b plane x y =
    moved m (edge_idx_of (at plane l.width x y) (neighbour l context plane x y a) (neighbour l context plane x y b)) (at plane l.width x y)

-- the sample a step away
abbrev pub beside : Layout → List ℕ → ℕ → ℕ → Step → ℕ
beside l plane x y step = at plane l.width (nat_abs (pos x +ℤ step.h)) (nat_abs (pos y +ℤ step.v))

-- by edge, where both neighbours count
abbrev pub compared : Layout → Moves → Step → Step → List ℕ → ℕ → ℕ → ℕ
compared l m a b plane x y = moved m (edge_idx_of (at plane l.width x y) (some (beside l plane x y a)) (some (beside l plane x y b))) (at plane l.width x y)

-- by edge, or as it is
abbrev pub edge_if : Bool → Layout → Moves → Step → Step → List ℕ → ℕ → ℕ → ℕ
edge_if true l m a b plane x y = compared l m a b plane x y
edge_if false l m a b plane x y = at plane l.width x y

-- what the filter of a block by edge takes, whose neighbours are the steps a and b away
pub record EdgeReady (l : Layout) (m : Moves) (a b : Step) (o : Around) (r : Rectangle) (plane : List ℕ) : Type 0 where
  pub placed : Placed l.width l.height r
  pub some_rows : r.y0 < r.y1
  pub deblocked : length plane ≡ l.width * l.height
  pub under : Under l m r plane
  pub first_reaches : ReachesBy l r o a
  pub second_reaches : ReachesBy l r o b
