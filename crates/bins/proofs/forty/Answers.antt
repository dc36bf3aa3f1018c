-- `forty` meets its contract: five bytes are forty bits.
use native.Mathlib.Omega.{arith}
use Rattle.bins.proofs.Fetch.{five_number}
use Rattle.bins.proofs.forty.Goals as goal

pub returns : goal.returns
returns c =
    let b0 = c.byte_at.ensures in
    let b1 = c.byte_at-2.ensures in
    let b2 = c.byte_at-3.ensures in
    let b3 = c.byte_at-4.ensures in
    let b4 = c.byte_at-5.ensures in
    rw (b0.value, b1.value, b2.value, b3.value, b4.value)
    (five_number c.args.bytes.now c.args.q (omega (arith, b0.value, b0.upper_bound)) (omega (arith, b1.value, b1.upper_bound))
    (omega (arith, b2.value, b2.upper_bound)) (omega (arith, b3.value, b3.upper_bound)) (omega (arith, b4.value, b4.upper_bound)))
