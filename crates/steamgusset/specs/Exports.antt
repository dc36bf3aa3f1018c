-- What each exported function ensures of the number that it answers and of all that it is lent: 0, and the call has acted; or the number
-- of the first reason that holds, and all is as it was. The reasons are the call's own; before them stands that no state holds the numbers.
use Rattle.std.specs.Prelude.{◌≡◌, List, [], ◌∷◌, ◌++◌, ℕ, zero, suc, length}
use Rattle.standard.specs.declared.State.{State}
use Rattle.standard.specs.declared.CtuSet.{CtuSet}
use Rattle.standard.specs.Picture.{rectangle}
use Rattle.standard.specs.Bins.{bins_of}
use Rattle.standard.specs.Table.{encode}
use Rattle.standard.specs.Refusals.{Reason, ◌if◌, First, Clear}
use Rattle.standard.specs.Reasons.{Planes, plane_of, MeansHere, description_reasons, block_reasons, open_reasons, read_reasons, write_reasons, deliver_reasons, filter_reasons, rows_reasons}
use Rattle.standard.specs.Calls.{opened_marks, opened_state, table_with, state_after, marked, Delivered, Filtered, FinishedRows, leading}
use Rattle.standard.specs.Ensures.{Wrote}
use Rattle.sets.specs.Entries.{StandsFor}
use Rattle.steamgusset.specs.Boundary.{numbers_of, state_of, Held, sizes_of, place_of}

abbrev pub NoStateHoldsThem : List ℕ → Type 0
NoStateHoldsThem a = ¬ Held a

-- 0 and done, or the first reason's number and all as before
abbrev pub Answers : List ℕ → List Reason → ℕ → Type 0 → Type 0 → Type 0
Answers a reasons zero done before = Clear ((1 if NoStateHoldsThem a) ∷ reasons) × done
Answers a reasons (suc n) done before = First ((1 if NoStateHoldsThem a) ∷ reasons) (suc n) × before

abbrev pub OpenCrosses : List ℕ → List ℕ → ℕ → List ℕ → List ℕ → Type 0
OpenCrosses a marks r a' marks' =
    Answers a (open_reasons (state_of a) marks) r
    ((a' ≡ numbers_of (opened_state (state_of a))) × (marks' ≡ opened_marks (state_of a)))
    ((a' ≡ a) × (marks' ≡ marks))

-- the set that the bins mean, encoded
pub record ReadInto (s : State) (bytes : List ℕ) (count : ℕ) (table table' set' : List ℕ) : Type 0 where
  pub set : CtuSet
  pub means : MeansHere s table set (bins_of bytes count)
  pub stored : table' ≡ table_with s set table
  pub encoded : set' ≡ encode set

abbrev pub ReadCrosses : List ℕ → List ℕ → ℕ → List ℕ → List ℕ → ℕ → List ℕ → List ℕ → List ℕ → Type 0
ReadCrosses a bytes count table set r a' table' set' =
    Answers a (read_reasons (state_of a) bytes count table) r
    ((a' ≡ numbers_of (state_after (state_of a))) × ReadInto (state_of a) bytes count table table' set')
    ((a' ≡ a) × (table' ≡ table) × (set' ≡ set))

-- of the set that the bytes encode; bytes that encode none are a set that no bins mean
abbrev pub WriteCrosses : List ℕ → List ℕ → List ℕ → List ℕ → ℕ → ℕ → List ℕ → List ℕ → List ℕ → ℕ → Type 0
WriteCrosses a set out table n r a' out' table' n' =
    (q : CtuSet)
    × StandsFor set q
    × Answers a (write_reasons (state_of a) q out table) r
    ((a' ≡ numbers_of (state_after (state_of a))) × Wrote (state_of a) q out table n' out' × (table' ≡ table_with (state_of a) q table))
    ((a' ≡ a) × (out' ≡ out) × (table' ≡ table) × (n' ≡ n))

abbrev pub DeliverCrosses : List ℕ → ℕ → ℕ → List ℕ → Planes → List ℕ → ℕ → Planes → List ℕ → Type 0
DeliverCrosses a i k samples deblocked marks r deblocked' marks' =
    Answers a (deliver_reasons (state_of a) i k samples deblocked marks) r
    (Delivered (state_of a) i k samples deblocked deblocked' × (marks' ≡ marked (state_of a) i k 1 marks))
    ((deblocked' ≡ deblocked) × (marks' ≡ marks))

abbrev pub FilterCrosses : List ℕ → ℕ → ℕ → Planes → Planes → List ℕ → List ℕ → ℕ → Planes → List ℕ → Type 0
FilterCrosses a i k deblocked filtered marks table r filtered' marks' =
    Answers a (filter_reasons (state_of a) i k deblocked filtered marks table) r
    (Filtered (state_of a) i k table deblocked filtered filtered' × (marks' ≡ marked (state_of a) i k 2 marks))
    ((filtered' ≡ filtered) × (marks' ≡ marks))

-- how many rows are finished, and how many samples the part has that they are
pub record RowsInto (s : State) (i : ℕ) (filtered : Planes) (marks finished' : List ℕ) : Type 0 where
  pub rows : ℕ
  pub finished : FinishedRows s i marks rows
  pub numbers : finished' ≡ rows ∷ length (leading s i rows (plane_of filtered i)) ∷ []

abbrev pub RowsCrosses : List ℕ → ℕ → Planes → List ℕ → List ℕ → ℕ → List ℕ → Type 0
RowsCrosses a i filtered marks finished r finished' =
    Answers a (rows_reasons (state_of a) i filtered marks) r
    (RowsInto (state_of a) i filtered marks finished')
    (finished' ≡ finished)

-- ---- what a caller has to lend, and where a block lies

abbrev pub SizesCross : List ℕ → List ℕ → ℕ → List ℕ → Type 0
SizesCross a sizes r sizes' =
    Answers a (description_reasons (state_of a)) r (sizes' ≡ sizes_of (state_of a).picture) (sizes' ≡ sizes)

abbrev pub BlockCrosses : List ℕ → ℕ → ℕ → List ℕ → ℕ → List ℕ → Type 0
BlockCrosses a i k block r block' =
    Answers a (description_reasons (state_of a) ++ block_reasons (state_of a) i k) r
    (block' ≡ place_of (rectangle (state_of a).picture i k))
    (block' ≡ block)
