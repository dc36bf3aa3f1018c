-- What a call does to the world where no reason holds, and the contract of a stage: refused for the first reason, with all as before, or this.
use Rattle.std.specs.Prelude.{◌≡◌, List, [], ℕ}
use Rattle.standard.specs.declared.CtuSet.{CtuSet}
use Rattle.standard.specs.Bins.{bins_of}
use Rattle.standard.specs.Reasons.{Planes, plane_of, MeansHere}
use Rattle.standard.specs.Calls.{opened_marks, opened_state, table_with, state_after, marked, Delivered, Filtered, FinishedRows, leading}
use Rattle.standard.specs.Ensures.{Wrote}
use Rattle.standard.specs.Refusals.{First, Clear}
use Rattle.promises.specs.World.{World, Call, Open, Read, Write, Deliver, Filter, Rows, refused, done, set_read, bins_written, rows, room, Result, reasons_of}

-- marks and next CTU 0
abbrev pub opened : World → World
opened w = record { state = opened_state w.state; deblocked = w.deblocked; filtered = w.filtered; marks = opened_marks w.state; table = w.table }

-- a set stored, and on to the next CTU
abbrev pub appended : World → CtuSet → World
appended w q = record { state = state_after w.state; deblocked = w.deblocked; filtered = w.filtered; marks = w.marks; table = table_with w.state q w.table }

abbrev pub with_delivered : World → ℕ → ℕ → Planes → World
with_delivered w i k planes = record { state = w.state; deblocked = planes; filtered = w.filtered; marks = marked w.state i k 1 w.marks; table = w.table }

abbrev pub with_filtered : World → ℕ → ℕ → Planes → World
with_filtered w i k planes = record { state = w.state; deblocked = w.deblocked; filtered = planes; marks = marked w.state i k 2 w.marks; table = w.table }

abbrev pub Effect : Call → World → Result → Type 0
Effect Open w r = r ≡ record { answer = done; out = []; world = opened w }
Effect (Read bytes count) w r =
    (q : CtuSet) × MeansHere w.state w.table q (bins_of bytes count) × (r ≡ record { answer = set_read q; out = []; world = appended w q })
Effect (Write q out) w r =
    (n : ℕ) × (out' : List ℕ) × Wrote w.state q out w.table n out' × (r ≡ record { answer = bins_written n; out = out'; world = appended w q })
Effect (Deliver i k samples) w r =
    (planes : Planes) × Delivered w.state i k samples w.deblocked planes × (r ≡ record { answer = done; out = []; world = with_delivered w i k planes })
Effect (Filter i k) w r =
    (planes : Planes) × Filtered w.state i k w.table w.deblocked w.filtered planes × (r ≡ record { answer = done; out = []; world = with_filtered w i k planes })
Effect (Rows i) w r =
    (n : ℕ) × FinishedRows w.state i w.marks n × (r ≡ record { answer = rows n (leading w.state i n (plane_of w.filtered i)); out = []; world = w })

-- refused with this number, and all as before
abbrev pub unchanged : Call → World → ℕ → Result
unchanged c w n = record { answer = refused n; out = room c; world = w }

-- THE CONTRACT of call c, made in the world w, of its result r
pub record Contract (c : Call) (w : World) (r : Result) : Type 0 where
  pub refuses : (n : ℕ) → First (reasons_of c w) n → r ≡ unchanged c w n
  pub acts : Clear (reasons_of c w) → Effect c w r
