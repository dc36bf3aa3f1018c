-- The reasons of a CTU that is due, then those of the neighbours and the set.
use mathlib.Core.List.{[]}
use mathlib.Core.Path.{◌≡◌, sym, subst, subst₂}
use Prim.Native.Nat.{ℕ}
use Rattle.std.specs.Prelude.{Result}
use Rattle.standard.specs.declared.Refusal.{Refusal}
use Rattle.standard.specs.declared.State.{State}
use Rattle.standard.specs.Reasons.{TableFits, write_reasons}
use Rattle.standard.specs.Ensures.{Decides, Wrote}
use Rattle.standard.proofs.Parts.{passed_on_with}
use Rattle.writing.specs.Writing.{HasWritten}
use Rattle.writing.proofs.Setting.{answered_after}
use Rattle.writing.proofs.write_answer.Goals as goal
use Rattle.writing.proofs.write_answer.Goals.{After-bins_written}

-- the table is that of the CTU's picture
fits : (c : After-bins_written) → TableFits c.in_ok-due.due.of.picture c.args.table.now
fits c =
    let due = c.in_ok-due.ensures in
    subst (λ (s : State). TableFits s.picture c.args.table.now) (sym due.of_call) due.fits.table

answered : (c : After-bins_written) {r : Result ℕ Refusal} → c.bins_written.result ≡ r
    → let a = c.args in
    Decides (write_reasons a.state a.q a.out.now a.table.now) r (λ n. Wrote a.state a.q a.out.now a.table.now n c.bins_written.new.out) (c.bins_written.new.out ≡ a.out.now)
answered c e =
    let a = c.args in
    let due = c.in_ok-due in
    let out' = c.bins_written.new.out in
    subst₂ (λ (s : State) (r : Result ℕ Refusal). Decides (write_reasons s a.q a.out.now a.table.now) r (λ n. Wrote s a.q a.out.now a.table.now n out') (out' ≡ a.out.now))
    due.ensures.of_call e
    (answered_after due.due a.q a.out.now a.table.now out' (fits c) c.bins_written.result c.bins_written.ensures)

pub returns-in_err-n : goal.returns-in_err-n
returns-in_err-n c =
    let a = c.args in
    let h = answered (goal.at.returns-in_err-n c).After-bins_written c.in_err-n.was in
    passed_on_with (write_reasons a.state a.q a.out.now a.table.now) [] _ c.from_residual-in_err-n.result
    (HasWritten a.state a.q a.out.now a.table.now c.bins_written.new.out) c.from_residual-in_err-n.ensures.1 h.0 h.1

pub returns : goal.returns
returns c =
    let h = answered (goal.at.returns c).After-bins_written c.in_ok-n.was in
    (h.0, record { due = c.in_ok-due.ensures.of_call; fits = fits (goal.at.returns c).After-bins_written; wrote = h.1 })
