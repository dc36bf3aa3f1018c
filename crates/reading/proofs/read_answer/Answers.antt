-- The reasons of a CTU that is due, then the count, then those of the bins.
use mathlib.Core.List.{[]}
use mathlib.Core.Path.{◌≡◌, sym, subst, subst₂}
use Rattle.std.specs.Prelude.{Result}
use Rattle.standard.specs.declared.CtuSet.{CtuSet}
use Rattle.standard.specs.declared.Refusal.{Refusal}
use Rattle.standard.specs.declared.State.{State}
use Rattle.standard.specs.Reasons.{TableFits, read_reasons}
use Rattle.standard.proofs.Answers.{told_not}
use Rattle.standard.proofs.Parts.{passed_on_with}
use Rattle.reading.specs.Reading.{Answered, HasRead}
use Rattle.reading.proofs.Answering.{answered_after}
use Rattle.reading.proofs.read_answer.Goals as goal
use Rattle.reading.proofs.read_answer.Goals.{After-bins_answer}

-- the table is that of the CTU's picture
fits : (c : After-bins_answer) → TableFits c.in_ok-due.due.of.picture c.args.table.now
fits c =
    let due = c.in_ok-due.ensures in
    subst (λ (s : State). TableFits s.picture c.args.table.now) (sym due.of_call) due.fits.table

answered : (c : After-bins_answer) {r : Result CtuSet Refusal} → c.bins_answer.result ≡ r
    → let a = c.args in Answered a.state a.bytes.now a.count a.table.now (read_reasons a.state a.bytes.now a.count a.table.now) r
answered c e =
    let a = c.args in
    let due = c.in_ok-due in
    subst₂ (λ (s : State) (r : Result CtuSet Refusal). Answered s a.bytes.now a.count a.table.now (read_reasons s a.bytes.now a.count a.table.now) r) due.ensures.of_call e
    (answered_after due.due a.bytes.now a.count a.table.now (fits c) (told_not c.count_too_large.ensures c.if-count_too_large.false)
    c.bins_answer.result c.bins_answer.ensures)

pub returns-in_err-set : goal.returns-in_err-set
returns-in_err-set c =
    let a = c.args in
    let h = answered (goal.at.returns-in_err-set c).After-bins_answer c.in_err-set.was in
    passed_on_with (read_reasons a.state a.bytes.now a.count a.table.now) [] _ c.from_residual-in_err-set.result
    (HasRead a.state a.bytes.now a.count a.table.now) c.from_residual-in_err-set.ensures.1 h.0 tt

pub returns : goal.returns
returns c =
    let h = answered (goal.at.returns c).After-bins_answer c.in_ok-set.was in
    (h.0, record { due = c.in_ok-due.ensures.of_call; fits = fits (goal.at.returns c).After-bins_answer; means = h.1 })
