-- The component, then its marks: none above 2, and the CTB rows that the first of them fill.
use Rattle.std.proofs.lemmas.List.{take_rest}
use Rattle.standard.proofs.Answers.{told_not}
use Rattle.lent.specs.States.{state_at}
use Rattle.finishing.proofs.Finishing.{none_above, finished}
use Rattle.finishing.proofs.rows_answer.Goals as goal

pub returns-clause-verdict : goal.returns-clause-verdict
returns-clause-verdict c =
    let a = c.args in
    let own = c.own_marks-own in (
      told_not c.no_such_component.ensures c.if-no_such_component.false,
      (
        none_above (state_at a.of 0) a.component a.marks.now own.result.now own.ensures.len own.ensures.each c.leading_of_many-filtered.ensures
            (rw (← take_rest own.result.now c.leading_of_many-filtered.result) (told_not c.some_of_many.ensures c.if-some_of_many.false)),
        tt,
      ),
    )

pub returns-clause-rows : goal.returns-clause-rows
returns-clause-rows c =
    let a = c.args in
    let own = c.own_marks-own in
    finished (state_at a.of 0) a.component a.marks.now own.result.now own.ensures.len own.ensures.each c.leading_of_many-filtered.ensures a.of.rules c.sample_rows.ensures
