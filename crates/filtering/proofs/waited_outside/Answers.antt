-- The rectangle around the CTB has exactly the CTBs that are waited for, and their marks stand in the component's part.
use native.Mathlib.Omega.{arith}
use Rattle.filtering.proofs.Marks.{around_placed, tells_waited}
use Rattle.filtering.proofs.waited_outside.Goals as goal

pub invariant_of-place : goal.invariant_of-place
invariant_of-place c =
    let b = c.args.block in
    record { placed = rw (c.columns.ensures.is, c.rows.ensures.is, c.around.ensures) (around_placed b.of.rules c.args.set b.ctb_in) }

pub returns : goal.returns
returns c =
    let a = c.args in
    let b = a.block in
    tells_waited b.of.rules a.set b.ctb_in b.component a.marks.now a.allowed.low a.allowed.high _ _ _ _ _ c.mark_outside.ensures c.mark_place-from.ensures (omega (arith, c.ctu_count.ensures.is)) c.columns.ensures.is c.around.ensures
