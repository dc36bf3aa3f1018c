-- What `deliver` ensures, of the state that the numbers are and the component's number in a byte, is what crosses: a refusal's number, or 0.
use Rattle.steamgusset.specs.Boundary.{state_of}
use Rattle.steamgusset.proofs.Components.{deliver_crosses}
use Rattle.steamgusset.proofs.Crossing.{crossed}
use Rattle.steamgusset.proofs.sg_deliver.Goals as goal

pub returns : goal.returns
returns c =
    let a = c.args in
    let held = c.in-Some.ensures in
    let said = rw (c.in_byte-i.ensures, held.1) at c.deliver-o.ensures in
    crossed (deliver_crosses (state_of a.state.now) a.ctb a.samples.now (record { y = a.y.now; cb = a.cb.now; cr = a.cr.now }) a.marks.now)
    held.0 a.component c.deliver-o.result.answer _ c.code.ensures said
    (λ same v is d. let t = rw same at d in (t.1, t.2)) (λ b. (b.1, b.2))
