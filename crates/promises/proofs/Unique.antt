-- The contract has one result for every call in every world: so a stage that meets it is the executable one.
use mathlib.Core.Path.{◌≡◌, sym, ap, ap₂, ◌∙◌}
use mathlib.Core.Bool.{Bool}
use mathlib.Core.List.{List, []}
use Prim.Native.Nat.{ℕ}
use lib.ListN.{length}
use Rattle.standard.specs.declared.State.{State}
use Rattle.standard.specs.declared.CtuSet.{CtuSet}
use Rattle.standard.specs.Bins.{packed}
use Rattle.standard.specs.Refusals.{Clear}
use Rattle.standard.specs.Reasons.{Planes, plane_of}
use Rattle.standard.specs.Calls.{leading}
use Rattle.standard.specs.Ensures.{Wrote}
use Rattle.standard.proofs.Decisions.{Verdict, refusal, clear}
use Rattle.standard.proofs.Granted.{may_deliver, may_filter}
use Rattle.standard.proofs.Reader.{one_meaning}
use Rattle.standard.proofs.ShortestOne.{shortest_unique}
use Rattle.standard.proofs.Finished.{rows_unique}
use Rattle.promises.specs.World.{World, Call, Open, Read, Write, Deliver, Filter, Rows, done, set_read, bins_written, rows, Result, Stage, reasons_of}
use Rattle.promises.specs.Contract.{appended, with_delivered, with_filtered, Effect, Contract}
use Rattle.promises.specs.Ours.{verdict_of, ours}
use Rattle.promises.proofs.Painting.{block_unique}
use Rattle.promises.proofs.Meets.{meets}

pub wrote_unique : {s : State} {q : CtuSet} {out table : List ℕ} {m n : ℕ} {a b : List ℕ} → Wrote s q out table m a → Wrote s q out table n b → (m ≡ n) × (a ≡ b)
wrote_unique {out = out} f g =
    let e : f.bins ≡ g.bins = shortest_unique f.shortest g.shortest in
    (f.number ∙ ap length e ∙ sym g.number, f.bytes ∙ ap (λ (b : List Bool). packed b out) e ∙ sym g.bytes)

-- ---- one effect

effect_unique : (c : Call) (w : World) → Clear (reasons_of c w) → {r t : Result} → Effect c w r → Effect c w t → r ≡ t
effect_unique Open w free e f = e ∙ sym f
effect_unique (Read bytes count) w free (a, m, e) (b, n, f) =
    e ∙ ap (λ (q : CtuSet). record { answer = set_read q; out = []; world = appended w q }) (one_meaning m n) ∙ sym f
effect_unique (Write q out) w free (m, a, g, e) (n, b, h, f) =
    let u = wrote_unique g h in
    e ∙ ap₂ (λ (n : ℕ) (b : List ℕ). record { answer = bins_written n; out = b; world = appended w q }) u.0 u.1 ∙ sym f
effect_unique (Deliver i k samples) w free (a, m, e) (b, n, f) =
    let may = may_deliver w.state i k samples w.deblocked w.marks free in
    e ∙ ap (λ (p : Planes). record { answer = done; out = []; world = with_delivered w i k p })
    (block_unique m n may.block.component may.deblocked_fits) ∙ sym f
effect_unique (Filter i k) w free (a, m, e) (b, n, f) =
    let may = may_filter w.state i k w.deblocked w.filtered w.marks w.table free in
    e ∙ ap (λ (p : Planes). record { answer = done; out = []; world = with_filtered w i k p })
    (block_unique m n may.block.component may.filtered_fits) ∙ sym f
effect_unique (Rows i) w free (a, m, e) (b, n, f) =
    e ∙ ap (λ (n : ℕ). record { answer = rows n (leading w.state i n (plane_of w.filtered i)); out = []; world = w }) (rows_unique m n) ∙ sym f

-- ---- one result

pub unique : {c : Call} {w : World} {r t : Result} → Contract c w r → Contract c w t → r ≡ t
unique {c} {w} {r} {t} a b = go (verdict_of c w)
  where
    go : Verdict (reasons_of c w) → r ≡ t
    go (refusal n f) = a.refuses n f ∙ sym (b.refuses n f)
    go (clear k) = effect_unique c w k (a.acts k) (b.acts k)

-- the results that meet it are the executable stage's
pub is_ours : {c : Call} {w : World} {r : Result} → Contract c w r → r ≡ ours c w
is_ours {c} {w} a = unique a (meets c w)

pub only_ours : (stage : Stage) → ((c : Call) (w : World) → Contract c w (stage c w)) → (c : Call) (w : World) → stage c w ≡ ours c w
only_ours stage m c w = is_ours (m c w)
