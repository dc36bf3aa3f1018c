-- What the companion ensures, of the state that the numbers are and the component's number in a byte, is what crosses: a refusal's number, or
-- 0 and the two numbers of the finished rows, the second of the part that has as many rows as the first says.
use mathlib.Core.List.{[], ◌∷◌}
use mathlib.Core.Path.{refl, ap, ◌∙◌}
use Prim.Native.Nat.{ℕ, ◌*◌}
use Rattle.standard.specs.Reasons.{Planes, rows_reasons}
use Rattle.standard.proofs.Granted.{may_count}
use Rattle.finishing.proofs.Finishing.{leading_long}
use Rattle.steamgusset.specs.Boundary.{state_of}
use Rattle.steamgusset.proofs.Crossing.{refused}
use Rattle.steamgusset.proofs.Components.{rows_crosses}
use Rattle.steamgusset.proofs.sg_finished_rows.Goals as goal

pub returns-in-Err : goal.returns-in-Err
returns-in-Err c =
    let a = c.args in
    let held = c.in-Some.ensures in
    let said = rw (c.in_byte-i.ensures, held.1, c.in-Err.is) at c.finished_count.ensures in
    let filtered : Planes = record { y = a.y.now; cb = a.cb.now; cr = a.cr.now } in
    let crosses = rows_crosses (state_of a.state.now) filtered a.marks.now in
    refused held.0 (rows_reasons (state_of a.state.now) a.component filtered a.marks.now) _ c.in-Err.r c.number.ensures (crosses.first a.component _ said.0) refl

pub returns-in-Ok : goal.returns-in-Ok
returns-in-Ok c =
    let a = c.args in
    let held = c.in-Some.ensures in
    let filtered : Planes = record { y = a.y.now; cb = a.cb.now; cr = a.cr.now } in
    let crosses = rows_crosses (state_of a.state.now) filtered a.marks.now in
    let byte = rw (c.in_byte-i.ensures, held.1, c.in-Ok.is) at c.finished_count.ensures in
    let same = crosses.clear a.component byte.0 in
    let said = rw same at byte in
    let width = rw (c.in-Some-of.ensures, held.1, c.in_byte-i.ensures, same) at c.plane_width.ensures.is in
    let long = leading_long (may_count (state_of a.state.now) a.component filtered a.marks.now said.0) said.1.1 in (
      ((λ k. k held.0), said.0),
      record { rows = c.in-Ok.n; finished = said.1.1; numbers = ap (λ (m : ℕ). c.in-Ok.n ∷ m ∷ []) (ap (λ (w : ℕ). c.in-Ok.n * w) width ∙ long) },
    )
