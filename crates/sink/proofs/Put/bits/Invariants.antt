-- The high bits of the number are put so far, and each round puts the next of them.
use Prim.Native.Nat.{◌-◌, ◌/◌, ◌^◌, ◌≤◌}
use Rattle.standard.specs.Bins.{fixed_length}
use Rattle.sink.specs.Puts.{Puts}
use Rattle.sink.proofs.Put.bits.Given as goal

abbrev pub invariant-loop-left : goal.invariant-loop-left
invariant-loop-left l =
    (l.left ≤ l.width) × Puts l.initial.c.at (fixed_length (l.width - l.left) (l.value / 2 ^ l.left)) l.initial.out l.out l.c.at

abbrev pub decreases-loop-left : goal.decreases-loop-left
decreases-loop-left l = l.left
