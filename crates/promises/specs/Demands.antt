-- THE THREE DEMANDS of document 00, of any stage: in terms of document 01's reasons and the standard's definitions alone.
use Rattle.std.specs.Prelude.{◌≡◌, Bool, List, [], ◌∷◌, ◌⊎◌, ℕ, ◌+◌, ◌*◌, ◌≤◌, ◌<◌, length}
use Rattle.standard.specs.declared.Picture.{Picture}
use Rattle.standard.specs.declared.State.{State}
use Rattle.standard.specs.declared.CtuSet.{CtuSet}
use Rattle.standard.specs.Picture.{Rules, components, plane_width, ctu_count, Inside, rectangle, due, merge_left, merge_up}
use Rattle.standard.specs.Sets.{switches_of, Valid}
use Rattle.standard.specs.Bins.{bins_of, packed}
use Rattle.standard.specs.Samples.{Parameters, at, filtered_sample, filtered_plane}
use Rattle.standard.specs.Refusals.{First, Clear}
use Rattle.standard.specs.Reasons.{plane_of, PlanesFit, MarksFit, TableFits, UnitIsDue, MeansHere, ShortestHere, NeighbourOutsideTheRules}
use Rattle.standard.specs.Calls.{delivered, Filtered, FinishedRows, leading}
use Rattle.promises.specs.World.{World, picture_of, Call, Open, Read, Write, Deliver, Filter, Rows, Answer, refused, done, set_read, bins_written, rows, Accepted, Stage, reasons_of}
use Rattle.promises.specs.Contract.{appended, unchanged}

-- DEMAND 1. "A call is refused exactly when one of its reasons in document 01 holds, with the number of the first in the order given
-- there, and then the state and every buffer read as they did before the call."
pub record Demand1 (stage : Stage) : Type 0 where
  pub refuses : (c : Call) (w : World) (n : ℕ) → First (reasons_of c w) n → stage c w ≡ unchanged c w n
  pub only : (c : Call) (w : World) (n : ℕ) → (stage c w).answer ≡ refused n → First (reasons_of c w) n

-- ---- demand 2

-- every lent buffer has its right length
pub record Lengths (w : World) : Type 0 where
  pub deblocked : PlanesFit (picture_of w) w.deblocked
  pub filtered : PlanesFit (picture_of w) w.filtered
  pub marks : MarksFit (picture_of w) w.marks
  pub table : TableFits (picture_of w) w.table

-- a unit is due, with sound state and buffers: the sets that a merge may reach are within the rules
pub record Due (w : World) : Type 0 where
  pub rules : Rules (picture_of w)
  pub lengths : Lengths w
  pub unit : UnitIsDue w.state
  pub left : ¬ NeighbourOutsideTheRules w.state w.table (merge_left w.state)
  pub above : ¬ NeighbourOutsideTheRules w.state w.table (merge_up w.state)

-- DEMAND 2
pub record Demand2 (stage : Stage) : Type 0 where
  -- "Reading gives exactly the parameters of ITU-T H.265 (04/2013)": wherever no reason of document 01 holds, the answer is the set that the
  -- bins mean, also beside a neighbour outside the rules that no merge copies
  pub reads : (bytes : List ℕ) (count : ℕ) (w : World) → Clear (reasons_of (Read bytes count) w)
      → (q : CtuSet) × MeansHere w.state w.table q (bins_of bytes count)
      × (stage (Read bytes count) w ≡ record { answer = set_read q; out = []; world = appended w q })
  -- and nothing else is
  pub reads_only : (bytes : List ℕ) (count : ℕ) (w : World) (q : CtuSet) → (stage (Read bytes count) w).answer ≡ set_read q
      → MeansHere w.state w.table q (bins_of bytes count) × Valid (switches_of w.state) q
  -- "writing gives the shortest bins that read back as the same parameters"
  pub writes : (q : CtuSet) (out : List ℕ) (w : World) (n : ℕ) → (stage (Write q out) w).answer ≡ bins_written n
      → (bins : List Bool) × ShortestHere w.state w.table q bins × (n ≡ length bins) × ((stage (Write q out) w).out ≡ packed bins out)
      × (bins_of (packed bins out) n ≡ bins) × ((stage (Write q out) w).world ≡ appended w q)
  -- "While a unit is due, with sound state and buffers and room enough, writing refuses parameters only if no bins mean them"
  pub refuses_only : (q : CtuSet) (out : List ℕ) (w : World) → Due w
      → ((bins : List Bool) → ShortestHere w.state w.table q bins → length bins ≤ 8 * length out)
      → (n : ℕ) → (stage (Write q out) w).answer ≡ refused n → (bins : List Bool) → ¬ MeansHere w.state w.table q bins
  -- "a filtered block holds exactly the standard's samples", and no other sample of the planes changes
  pub filters : (i k : ℕ) (w : World) → Accepted (stage (Filter i k) w).answer
      → Filtered w.state i k w.table w.deblocked w.filtered (stage (Filter i k) w).world.filtered
      × ((stage (Filter i k) w).world.deblocked ≡ w.deblocked)
  -- finished rows: the number of document 01, and the leading part of the caller's own plane
  pub finishes : (i : ℕ) (w : World) (n : ℕ) (part : List ℕ) → (stage (Rows i) w).answer ≡ rows n part
      → FinishedRows w.state i w.marks n × (part ≡ leading w.state i n (plane_of w.filtered i))

-- ---- demand 3

-- the picture's own data: the set of each CTU, and of each component the whole deblocked plane
pub record Own : Type 0 where
  pub parameters : Parameters
  pub planes : ℕ → List ℕ

-- the samples, row after row, are CTB k of the plane
abbrev pub IsBlock : Picture → ℕ → ℕ → List ℕ → List ℕ → Type 0
IsBlock p i k plane samples = (x y : ℕ) → Inside (rectangle p i k) x y → delivered (rectangle p i k) samples x y ≡ at plane (plane_width p i) x y

-- the set is the picture's own of the CTU that is due
abbrev pub OwnSet : Parameters → State → CtuSet → Type 0
OwnSet own s q = q ≡ own.sets (due s)

-- what the call, answered so in the world w, accepted is the picture's own
abbrev pub OwnData : Own → Call → World → Answer → Type 0
OwnData own Open w a = Unit {0}
OwnData own (Read bytes count) w a = (q : CtuSet) → a ≡ set_read q → OwnSet own.parameters w.state q
OwnData own (Write q out) w a = Accepted a → OwnSet own.parameters w.state q
OwnData own (Deliver i k samples) w a = Accepted a → IsBlock (picture_of w) i k (own.planes i) samples
OwnData own (Filter i k) w a = Unit {0}
OwnData own (Rows i) w a = Unit {0}

abbrev pub NoOpening : Call → Type 0
NoOpening Open = ⊥
NoOpening (Read bytes count) = Unit {0}
NoOpening (Write q out) = Unit {0}
NoOpening (Deliver i k samples) = Unit {0}
NoOpening (Filter i k) = Unit {0}
NoOpening (Rows i) = Unit {0}

-- each call is handed what the last one left; none is an opening, and what is accepted is the picture's own
abbrev pub Honest : Stage → Own → List Call → World → Type 0
Honest stage own [] w = Unit {0}
Honest stage own (c ∷ cs) w = NoOpening c × OwnData own c w (stage c w).answer × Honest stage own cs (stage c w).world

-- the world that the calls leave
abbrev pub run : Stage → List Call → World → World
run stage [] w = w
run stage (c ∷ cs) w = run stage cs (stage c w).world

-- one of the calls, as Q says, was accepted
abbrev pub Happened : Stage → (Call → Type 0) → List Call → World → Type 0
Happened stage Q [] w = ⊥
Happened stage Q (c ∷ cs) w = (Q c × Accepted (stage c w).answer) ⊎ Happened stage Q cs (stage c w).world

-- it filters CTB k of component i; it delivers it; it is a read or a write
abbrev pub Filters : ℕ → ℕ → Call → Type 0
Filters i k Open = ⊥
Filters i k (Read bytes count) = ⊥
Filters i k (Write q out) = ⊥
Filters i k (Deliver j l samples) = ⊥
Filters i k (Filter j l) = (j ≡ i) × (l ≡ k)
Filters i k (Rows j) = ⊥

abbrev pub Delivers : ℕ → ℕ → Call → Type 0
Delivers i k Open = ⊥
Delivers i k (Read bytes count) = ⊥
Delivers i k (Write q out) = ⊥
Delivers i k (Deliver j l samples) = (j ≡ i) × (l ≡ k)
Delivers i k (Filter j l) = ⊥
Delivers i k (Rows j) = ⊥

-- how many sets were accepted
abbrev pub one_if : Answer → ℕ
one_if (refused n) = 0
one_if done = 1
one_if (set_read q) = 1
one_if (bins_written n) = 1
one_if (rows n part) = 1

abbrev pub sets_of : Call → Answer → ℕ
sets_of Open a = 0
sets_of (Read bytes count) a = one_if a
sets_of (Write q out) a = one_if a
sets_of (Deliver i k samples) a = 0
sets_of (Filter i k) a = 0
sets_of (Rows i) a = 0

abbrev pub sets_in : Stage → List Call → World → ℕ
sets_in stage [] w = 0
sets_in stage (c ∷ cs) w = sets_of c (stage c w).answer + sets_in stage cs (stage c w).world

-- "Take one picture from its opening, with every lent buffer of its right length and no second opening"
pub record Life (stage : Stage) (own : Own) (w : World) (cs : List Call) : Type 0 where
  pub lengths : Lengths w
  pub opened : Accepted (stage Open w).answer
  pub honest : Honest stage own cs (stage Open w).world

-- the world after the opening in w and the calls
abbrev pub after : Stage → World → List Call → World
after stage w cs = run stage cs (stage Open w).world

abbrev pub Done : Stage → World → List Call → (Call → Type 0) → Type 0
Done stage w cs Q = Happened stage Q cs (stage Open w).world

-- the sample that the standard makes of the whole deblocked picture
abbrev pub final : Own → Picture → ℕ → ℕ → ℕ → ℕ → ℕ
final own p i k x y = filtered_sample p own.parameters i k (own.planes i) x y

-- DEMAND 3. "for every order of calls, refused ones among them,"
pub record Demand3 (stage : Stage) : Type 0 where
  -- "each filtered block holds its final samples,"
  pub filtered : (own : Own) (w : World) (cs : List Call) → Life stage own w cs
      → (i k x y : ℕ) → i < components (picture_of w) → Inside (rectangle (picture_of w) i k) x y → Done stage w cs (Filters i k)
      → at (plane_of (after stage w cs).filtered i) (plane_width (picture_of w) i) x y ≡ final own (picture_of w) i k x y
  -- "every other output sample is as it was at opening,"
  pub others : (own : Own) (w : World) (cs : List Call) → Life stage own w cs
      → (i k x y : ℕ) → i < components (picture_of w) → Inside (rectangle (picture_of w) i k) x y → ¬ Done stage w cs (Filters i k)
      → at (plane_of (after stage w cs).filtered i) (plane_width (picture_of w) i) x y ≡ at (plane_of w.filtered i) (plane_width (picture_of w) i) x y
  -- "and once all blocks are filtered the output is what the standard makes of the whole deblocked picture."
  pub whole : (own : Own) (w : World) (cs : List Call) → Life stage own w cs
      → (i : ℕ) → i < components (picture_of w) → ((k : ℕ) → k < ctu_count (picture_of w) → Done stage w cs (Filters i k))
      → plane_of (after stage w cs).filtered i ≡ filtered_plane (picture_of w) own.parameters i (own.planes i)
  -- "Once all sets and blocks are in, any block still unfiltered is filtered at the first ask."
  pub ready : (own : Own) (w : World) (cs : List Call) → Life stage own w cs → sets_in stage cs (stage Open w).world ≡ ctu_count (picture_of w)
      → ((i k : ℕ) → i < components (picture_of w) → k < ctu_count (picture_of w) → Done stage w cs (Delivers i k))
      → (i k : ℕ) → i < components (picture_of w) → k < ctu_count (picture_of w) → ¬ Done stage w cs (Filters i k)
      → Accepted (stage (Filter i k) (after stage w cs)).answer
