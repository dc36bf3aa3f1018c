-- The result of a call, by the contract: what holds of every refusal and of every effect holds of it, since the reasons are decidable.
use mathlib.Core.Path.{sym, subst}
use mathlib.Core.List.{List, []}
use Prim.Native.Nat.{ℕ}
use Rattle.standard.specs.declared.CtuSet.{CtuSet}
use Rattle.standard.specs.Bins.{bins_of}
use Rattle.standard.specs.Refusals.{Clear}
use Rattle.standard.specs.Reasons.{Planes, plane_of, MeansHere}
use Rattle.standard.specs.Calls.{Delivered, Filtered, FinishedRows, leading}
use Rattle.standard.specs.Ensures.{Wrote}
use Rattle.standard.proofs.Decisions.{Verdict, refusal, clear}
use Rattle.promises.specs.World.{World, Call, Open, Read, Write, Deliver, Filter, Rows, done, set_read, bins_written, rows, Result, reasons_of}
use Rattle.promises.specs.Contract.{opened, appended, with_delivered, with_filtered, Effect, unchanged, Contract}
use Rattle.promises.specs.Ours.{verdict_of}

-- P holds of all that the call may do
abbrev pub Acts : Call → World → (Result → Type 0) → Type 0
Acts Open w P = P (record { answer = done; out = []; world = opened w })
Acts (Read bytes count) w P =
    (q : CtuSet) → MeansHere w.state w.table q (bins_of bytes count) → P (record { answer = set_read q; out = []; world = appended w q })
Acts (Write q out) w P =
    (n : ℕ) (out' : List ℕ) → Wrote w.state q out w.table n out' → P (record { answer = bins_written n; out = out'; world = appended w q })
Acts (Deliver i k samples) w P =
    (planes : Planes) → Delivered w.state i k samples w.deblocked planes → P (record { answer = done; out = []; world = with_delivered w i k planes })
Acts (Filter i k) w P =
    (planes : Planes) → Filtered w.state i k w.table w.deblocked w.filtered planes
    → P (record { answer = done; out = []; world = with_filtered w i k planes })
Acts (Rows i) w P =
    (n : ℕ) → FinishedRows w.state i w.marks n
    → P (record { answer = rows n (leading w.state i n (plane_of w.filtered i)); out = []; world = w })

pub effect : (c : Call) (w : World) {r : Result} (P : Result → Type 0) → Effect c w r → Acts c w P → P r
effect Open w P e a = subst P (sym e) a
effect (Read bytes count) w P e a = subst P (sym e.2) (a e.0 e.1)
effect (Write q out) w P e a = subst P (sym e.3) (a e.0 e.1 e.2)
effect (Deliver i k samples) w P e a = subst P (sym e.2) (a e.0 e.1)
effect (Filter i k) w P e a = subst P (sym e.2) (a e.0 e.1)
effect (Rows i) w P e a = subst P (sym e.2) (a e.0 e.1)

pub turn : (c : Call) (w : World) {r : Result} → Contract c w r
    → (P : Result → Type 0) → ((n : ℕ) → P (unchanged c w n)) → (Clear (reasons_of c w) → Acts c w P) → P r
turn c w {r} k P refused acts = go (verdict_of c w)
  where
    go : Verdict (reasons_of c w) → P r
    go (refusal n f) = subst P (sym (k.refuses n f)) (refused n)
    go (clear free) = effect c w P (k.acts free) (acts free)
