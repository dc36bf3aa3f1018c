-- A refusal of what is lent is passed on.
use Rattle.standard.specs.Reasons.{lent_reasons, state_reasons}
use Rattle.standard.proofs.Parts.{passed_on}
use Rattle.lent.specs.Lengths.{LentRight}
use Rattle.lent.proofs.call_answer.Goals as goal

pub returns-in_err-of-clause-verdict : goal.returns-in_err-of-clause-verdict
returns-in_err-of-clause-verdict c =
    let a = c.args in
    passed_on (lent_reasons a.state (LentRight a.state.picture a.lent)) (state_reasons a.state) _ c.from_residual.result c.from_residual.ensures.1 c.in_err-of.ensures.verdict
