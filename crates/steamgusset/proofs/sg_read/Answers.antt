-- The verdict of `read` on the state that the numbers are: its refusal crosses as its number; the state after it as its numbers, and the set
-- as its bytes, since what is lent for it has room for one entry.
use mathlib.Core.Path.{refl, ap, ◌∙◌}
use Rattle.standard.specs.Reasons.{read_reasons}
use Rattle.steamgusset.specs.Boundary.{numbers_of, state_of}
use Rattle.steamgusset.proofs.Crossing.{refused}
use Rattle.steamgusset.proofs.sg_read.Goals as goal

pub returns-in-Err : goal.returns-in-Err
returns-in-Err c =
    let a = c.args in
    let held = c.in-Some.ensures in
    let said = rw (held.1, c.in-Err.is) at c.read-o.ensures in
    refused held.0 (read_reasons (state_of a.state.now) a.bins.now a.count a.table.now) _ c.in-Err.r c.number.ensures said.0 (refl, said.1.1, refl)

pub returns-in-Ok : goal.returns-in-Ok
returns-in-Ok c =
    let held = c.in-Some.ensures in
    let said = rw (held.1, c.in-Ok.is) at c.read-o.ensures in (
      ((λ k. k held.0), said.0),
      (c.numbers_of.ensures ∙ ap numbers_of said.1.0, record { set = c.in-Ok.q; means = said.1.1; stored = said.1.2; encoded = c.say_set.ensures.e_after }),
    )
