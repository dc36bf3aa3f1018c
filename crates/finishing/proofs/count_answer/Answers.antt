-- A refusal with one of the reasons before those of the marks is passed on; the picture is the state's.
use mathlib.Core.List.{[]}
use Rattle.std.proofs.Common.{rules}
use Rattle.std.specs.Prelude.{Err}
use Rattle.standard.specs.Reasons.{call_reasons, marks_reasons}
use Rattle.standard.proofs.Parts.{passed_on}
use Rattle.lent.specs.Lengths.{lists_of}
use Rattle.lent.proofs.Lengths.{PlanesAndMarks, planes_fit, planes_right, begun}
use Rattle.finishing.proofs.Finishing.{of_picture}
use Rattle.finishing.proofs.count_answer.Goals as goal

pub returns-in_err-of-clause-verdict : goal.returns-in_err-of-clause-verdict
returns-in_err-of-clause-verdict c =
    let a = c.args in
    let r = c.in_err-of.field-0.0 in
    let fit = planes_fit a.state.picture (lists_of a.filtered) c.lengths.ensures in
    let right = planes_right a.state.picture (lists_of a.filtered) c.lengths.ensures in
    passed_on (call_reasons a.state (PlanesAndMarks a.state (lists_of a.filtered) a.marks.now))
    (marks_reasons a.state a.component a.marks.now) r c.from_residual.result c.from_residual.ensures.1
    (begun {T = Unit {0}} a.state (λ l. (fit l.filtered, l.marks)) (λ f. record { deblocked = search rules; filtered = right f.0; marks = f.1; table = search rules })
    [] (Err r) c.in_err-of.ensures.verdict)

pub returns-clause-rows : goal.returns-clause-rows
returns-clause-rows c = of_picture c.in_ok-of.ensures.of_call c.in_ok-n.ensures.rows
