-- A refusal with one of the first reasons is passed on.
use Rattle.standard.specs.Reasons.{call_reasons, block_reasons}
use Rattle.standard.proofs.Parts.{passed_on}
use Rattle.lent.specs.Lengths.{LentRight}
use Rattle.lent.proofs.block_answer.Goals as goal

pub returns-in_err-of-clause-verdict : goal.returns-in_err-of-clause-verdict
returns-in_err-of-clause-verdict c =
    let a = c.args in
    passed_on (call_reasons a.state (LentRight a.state.picture a.lent)) (block_reasons a.state a.component a.ctb) _ c.from_residual.result c.from_residual.ensures.1 c.in_err-of.ensures.verdict
