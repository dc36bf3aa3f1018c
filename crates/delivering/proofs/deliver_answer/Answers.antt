-- A refusal with one of the reasons before those of the samples is passed on.
use mathlib.Core.List.{◌++◌}
use Rattle.std.proofs.Common.{rules}
use Rattle.std.specs.Prelude.{Err}
use Rattle.standard.specs.Reasons.{call_reasons, block_reasons, samples_reasons}
use Rattle.standard.proofs.Parts.{passed_on}
use Rattle.lent.specs.Lengths.{lists_of}
use Rattle.lent.proofs.Lengths.{PlanesAndMarks, planes_fit, planes_right, begun}
use Rattle.delivering.proofs.deliver_answer.Goals as goal

pub returns-in_err-block-clause-verdict : goal.returns-in_err-block-clause-verdict
returns-in_err-block-clause-verdict c =
    let a = c.args in
    let named = block_reasons a.state a.component a.ctb in
    let r = c.in_err-block.field-0.0 in
    let fit = planes_fit a.state.picture (lists_of a.planes) c.lengths.ensures in
    let right = planes_right a.state.picture (lists_of a.planes) c.lengths.ensures in
    passed_on (call_reasons a.state (PlanesAndMarks a.state (lists_of a.planes) a.marks.now) ++ named)
    (samples_reasons a.state a.component a.ctb a.samples.now a.marks.now) r c.from_residual.result c.from_residual.ensures.1
    (begun {T = Unit {0}} a.state (λ l. (fit l.deblocked, l.marks)) (λ f. record { deblocked = right f.0; filtered = search rules; marks = f.1; table = search rules })
    named (Err r) c.in_err-block.ensures.verdict)
