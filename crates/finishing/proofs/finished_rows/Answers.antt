-- The companion's answer: where it refuses the part is empty, and where it gives a number that many rows of the component's plane are handed out.
use Rattle.standard.specs.Reasons.{Planes}
use Rattle.standard.proofs.Granted.{may_count}
use Rattle.finishing.proofs.Finishing.{few, part, empty}
use Rattle.finishing.proofs.finished_rows.Goals as goal
use Rattle.finishing.proofs.finished_rows.Goals.{After-count_answer}

abbrev lent : After-count_answer → Planes
lent c = record { y = c.args.y.now; cb = c.args.cb.now; cr = c.args.cr.now }

pub leading_part-requires : goal.leading_part-requires
leading_part-requires c =
    let a = c.args in
    let ok = may_count a.state a.component (lent (goal.at.leading_part-requires c).After-count_answer) a.marks.now c.in-Ok.ensures.verdict in
    rw c.in-Ok.ensures.of_call (ok.filtered_fits, ok.countable.component, few c.in-Ok.ensures.rows)

pub returns-in-Err : goal.returns-in-Err
returns-in-Err c = empty c.args.state c.args.component (lent (goal.at.returns-in-Err c).After-count_answer) c.args.marks.now _ c.in-Err.ensures.verdict

pub returns-in-Ok : goal.returns-in-Ok
returns-in-Ok c =
    let a = c.args in
    part a.state a.component (lent (goal.at.returns-in-Ok c).After-count_answer) a.marks.now c.in-Ok.ensures.verdict c.in-Ok.ensures.rows (rw (← c.in-Ok.ensures.of_call) c.leading_part.ensures)
