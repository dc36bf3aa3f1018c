-- The world of one picture, the state and all that is lent; the calls and their answers; and what a stage is.
use Rattle.std.specs.Prelude.{List, [], ℕ}
use Rattle.standard.specs.declared.State.{State}
use Rattle.standard.specs.declared.Picture.{Picture}
use Rattle.standard.specs.declared.CtuSet.{CtuSet}
use Rattle.standard.specs.Reasons.{Planes, open_reasons, read_reasons, write_reasons, deliver_reasons, filter_reasons, rows_reasons}
use Rattle.standard.specs.Refusals.{Reason}

pub record World : Type 0 where
  pub state : State
  pub deblocked : Planes
  pub filtered : Planes
  pub marks : List ℕ
  pub table : List ℕ

abbrev pub picture_of : World → Picture
picture_of w = w.state.picture

-- bytes and count; the set and the room for its bins; component, CTB and samples; component and CTB; component
pub data Call : Type 0 where
  Open : Call
  Read : List ℕ → ℕ → Call
  Write : CtuSet → List ℕ → Call
  Deliver : ℕ → ℕ → List ℕ → Call
  Filter : ℕ → ℕ → Call
  Rows : ℕ → Call

pub data Answer : Type 0 where
  refused : ℕ → Answer
  done : Answer
  set_read : CtuSet → Answer
  bins_written : ℕ → Answer
  -- how many sample rows, and the part of the filtered plane that is handed out
  rows : ℕ → List ℕ → Answer

abbrev pub Accepted : Answer → Type 0
Accepted (refused n) = ⊥
Accepted done = Unit {0}
Accepted (set_read q) = Unit {0}
Accepted (bins_written n) = Unit {0}
Accepted (rows n part) = Unit {0}

-- the room that a call is lent besides the world's buffers
abbrev pub room : Call → List ℕ
room Open = []
room (Read bytes count) = []
room (Write q out) = out
room (Deliver i k samples) = []
room (Filter i k) = []
room (Rows i) = []

-- an answer, that room afterwards, and the world afterwards
pub record Result : Type 0 where
  pub answer : Answer
  pub out : List ℕ
  pub world : World

abbrev pub Stage : Type 0
Stage = Call → World → Result

-- document 01's reasons to refuse a call
abbrev pub reasons_of : Call → World → List Reason
reasons_of Open w = open_reasons w.state w.marks
reasons_of (Read bytes count) w = read_reasons w.state bytes count w.table
reasons_of (Write q out) w = write_reasons w.state q out w.table
reasons_of (Deliver i k samples) w = deliver_reasons w.state i k samples w.deblocked w.marks
reasons_of (Filter i k) w = filter_reasons w.state i k w.deblocked w.filtered w.marks w.table
reasons_of (Rows i) w = rows_reasons w.state i w.filtered w.marks
