-- What `filter` ensures, of the state that the numbers are and the component's number in a byte, is what crosses: a refusal's number, or 0.
use Rattle.standard.specs.Reasons.{Planes}
use Rattle.steamgusset.specs.Boundary.{state_of}
use Rattle.steamgusset.proofs.Components.{filter_crosses}
use Rattle.steamgusset.proofs.Crossing.{crossed}
use Rattle.steamgusset.proofs.sg_filter.Goals as goal

pub returns : goal.returns
returns c =
    let a = c.args in
    let held = c.in-Some.ensures in
    let said = rw (c.in_byte-i.ensures, held.1) at c.filter-o.ensures in
    let deblocked : Planes = record { y = a.y.now; cb = a.cb.now; cr = a.cr.now } in
    let filtered : Planes = record { y = a.out_y.now; cb = a.out_cb.now; cr = a.out_cr.now } in
    crossed (filter_crosses (state_of a.state.now) a.ctb deblocked filtered a.marks.now a.table.now)
    held.0 a.component c.filter-o.result.answer _ c.code.ensures said
    (λ same v is d. let t = rw same at d in (t.1, t.2)) (λ b. (b.1, b.2))
