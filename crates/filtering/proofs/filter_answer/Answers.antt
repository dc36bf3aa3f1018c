-- A refusal of one of the three parts is passed on.
use Rattle.filtering.proofs.Judging.{first_passed, second_passed, third_passed, all_clear}
use Rattle.filtering.proofs.filter_answer.Goals as goal

pub returns-in_err-block-clause-verdict : goal.returns-in_err-block-clause-verdict
returns-in_err-block-clause-verdict c =
    let a = c.args in
    first_passed a.state a.component a.ctb a.deblocked a.filtered a.marks a.table c.lengths.ensures c.lengths-2.ensures c.in_err-block.field-0.0 c.from_residual.result c.from_residual.ensures.1 c.in_err-block.ensures.verdict

pub returns-in_err-marks_answer-clause-verdict : goal.returns-in_err-marks_answer-clause-verdict
returns-in_err-marks_answer-clause-verdict c =
    let a = c.args in
    second_passed a.state a.component a.ctb a.deblocked a.filtered a.marks a.table c.lengths.ensures c.lengths-2.ensures c.in_err-marks_answer.field-0.0 c.from_residual-in_err-marks_answer.result c.from_residual-in_err-marks_answer.ensures.1 c.in_ok-block.ensures.of_call c.in_ok-block.ensures.verdict c.in_err-marks_answer.ensures

pub returns-in_err-set-clause-verdict : goal.returns-in_err-set-clause-verdict
returns-in_err-set-clause-verdict c =
    let a = c.args in
    third_passed a.state a.component a.ctb a.deblocked a.filtered a.marks a.table c.lengths.ensures c.lengths-2.ensures c.in_err-set.field-0.0 c.from_residual-in_err-set.result c.from_residual-in_err-set.ensures.1 c.in_ok-block.ensures.of_call c.in_ok-block.ensures.verdict c.in_ok-marks_answer.ensures c.in_err-set.ensures.verdict

pub returns-clause-verdict : goal.returns-clause-verdict
returns-clause-verdict c =
    let a = c.args in
    all_clear a.state a.component a.ctb a.deblocked a.filtered a.marks a.table c.lengths.ensures c.lengths-2.ensures c.in_ok-block.ensures.of_call c.in_ok-block.ensures.verdict c.in_ok-marks_answer.ensures c.in_ok-set.ensures.verdict
