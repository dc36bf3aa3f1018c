-- The columns passed so far of two rows, ORed together.
use Rattle.std.proofs.Common.{◌≡◌, length, get_or}
use Rattle.std.specs.Int.Bits.{bit_or}
use Rattle.planes.specs.Scans.{together}
use Rattle.planes.proofs.or_rows.Given as goal

abbrev pub invariant-loop-s : goal.invariant-loop-s
invariant-loop-s l = l.v ≡ together (λ j. bit_or (get_or l.a j 0) (get_or l.b j 0)) (length l.yielded)
