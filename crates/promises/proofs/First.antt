-- DEMAND 1 of every stage that meets the contract, and what became of a call: it was refused, or it acted and its answer accepts.
use mathlib.Core.Path.{◌≡◌, sym, ap, ◌∙◌, subst}
use Prim.Native.Nat.{ℕ}
use Rattle.standard.specs.Refusals.{First, Clear}
use Rattle.standard.proofs.Decisions.{Verdict, refusal, clear}
use Rattle.promises.specs.World.{World, Call, Open, Read, Write, Deliver, Filter, Rows, Answer, refused, Accepted, Result, Stage, reasons_of}
use Rattle.promises.specs.Contract.{Effect, unchanged, Contract}
use Rattle.promises.specs.Demands.{Demand1}
use Rattle.promises.specs.Ours.{verdict_of}

pub data Became (c : Call) (w : World) (r : Result) : Type 0 where
  away : (n : ℕ) → First (reasons_of c w) n → r ≡ unchanged c w n → Became c w r
  through : Clear (reasons_of c w) → Effect c w r → Became c w r

pub became : {c : Call} {w : World} {r : Result} → Contract c w r → Became c w r
became {c} {w} {r} m = go (verdict_of c w)
  where
    go : Verdict (reasons_of c w) → Became c w r
    go (refusal n f) = away n f (m.refuses n f)
    go (clear k) = through k (m.acts k)

pub answers : {r t : Result} → r ≡ t → r.answer ≡ t.answer
answers e = ap (λ (r : Result). r.answer) e

accepting : {a b : Answer} → a ≡ b → Accepted b → Accepted a
accepting e h = subst Accepted (sym e) h

pub accepted : (c : Call) (w : World) (r : Result) → Effect c w r → Accepted r.answer
accepted Open w r e = accepting (answers e) tt
accepted (Read bytes count) w r (q, m, e) = accepting (answers e) tt
accepted (Write q out) w r (n, out', m, e) = accepting (answers e) tt
accepted (Deliver i k samples) w r (planes, m, e) = accepting (answers e) tt
accepted (Filter i k) w r (planes, m, e) = accepting (answers e) tt
accepted (Rows i) w r (n, m, e) = accepting (answers e) tt

pub only_refused : (c : Call) (w : World) {r : Result} (n : ℕ) → Became c w r → r.answer ≡ refused n → First (reasons_of c w) n
only_refused c w n (away m f g) e = let z : refused m ≡ refused n = sym (answers g) ∙ e in subst (First (reasons_of c w)) (cc) f
only_refused c w {r} n (through k t) e = absurd (subst Accepted e (accepted c w r t))

pub first : (stage : Stage) → ((c : Call) (w : World) → Contract c w (stage c w)) → Demand1 stage
first stage m = record {
  refuses = λ c w n f. (m c w).refuses n f;
  only = λ c w n e. only_refused c w n (became (m c w)) e;
}
