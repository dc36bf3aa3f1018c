-- The high bits of the number are put so far, and each round puts the next of them.
use Prim.Native.Nat.{◌/◌, ◌^◌}
use native.Mathlib.Omega.{arith}
use Rattle.sink.proofs.Loop.{none, one_part, room_part}
use Rattle.sink.proofs.Put.bits.Goals as goal

pub loop-left-init : goal.loop-left-init
loop-left-init c = (omega arith, none _ _ (omega arith))

pub loop-left-preserved : goal.loop-left-preserved
loop-left-preserved c =
    let l = c.loop-left in
    let a = c.args in
    let k = c.min-k.result in
    (omega arith, one_part a.width l.left k a.value (omega arith) l.invariant.0 l.invariant.1 c.part-c.ensures)

pub part-c-requires-clause-room : goal.part-c-requires-clause-room
part-c-requires-clause-room c =
    let l = c.loop-left in room_part c.args.width l.left c.min-k.result (c.args.value / 2 ^ l.left) (omega arith) l.invariant.0 c.requires.room l.invariant.1
