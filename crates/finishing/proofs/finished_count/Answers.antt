-- The answer of `count_answer`, and the state as it was.
use Rattle.finishing.proofs.finished_count.Goals as goal

pub returns-in-Err : goal.returns-in-Err
returns-in-Err c = rw c.refused.ensures.answer (c.in-Err.ensures.verdict, c.refused.ensures.state)

pub returns-in-Ok : goal.returns-in-Ok
returns-in-Ok c = rw c.accepted.ensures.answer (c.in-Ok.ensures.verdict, (c.accepted.ensures.state, c.in-Ok.ensures.rows))
