-- The set that the bytes stand for is written, of the state that the numbers are. Numbers that no state holds are refused before.
use mathlib.Core.Logic.{inl}
use mathlib.Core.Path.{refl, ap, ◌∙◌}
use Rattle.standard.specs.Reasons.{write_reasons}
use Rattle.steamgusset.specs.Boundary.{numbers_of, state_of}
use Rattle.steamgusset.proofs.Crossing.{refused}
use Rattle.steamgusset.proofs.Standing.{stands_some}
use Rattle.steamgusset.proofs.sg_write.Goals as goal

pub returns-in_default : goal.returns-in_default
returns-in_default c =
    let some = stands_some c.args.set.now in
    (some.0, some.1, (inl (c.in_default.ensures, refl), (refl, refl, refl, refl)))

pub returns-in-Err : goal.returns-in-Err
returns-in-Err c =
    let a = c.args in
    let held = c.in-Some.ensures in
    let said = rw (held.1, c.in-Err.is) at c.write-o.ensures in
    (c.set_said.result, c.set_said.ensures, refused held.0 (write_reasons (state_of a.state.now) c.set_said.result a.out.now a.table.now) _ c.in-Err.r c.number.ensures said.0 (refl, said.1.1, said.1.2, refl))

pub returns-in-Ok : goal.returns-in-Ok
returns-in-Ok c =
    let held = c.in-Some.ensures in
    let said = rw (held.1, c.in-Ok.is) at c.write-o.ensures in
    (c.set_said.result, c.set_said.ensures, (((λ k. k held.0), said.0), (c.numbers_of.ensures ∙ ap numbers_of said.1.0, said.1.1, said.1.2)))
