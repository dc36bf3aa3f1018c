-- The samples before the one copied are the source's.
use Rattle.std.proofs.Common.{get_or}
use Rattle.planes.specs.Places.{Filled}
use Rattle.planes.proofs.copy_row.Given as goal

abbrev pub invariant-loop-i : goal.invariant-loop-i
invariant-loop-i l = Filled l.i (λ j. get_or l.samples j 0) l.initial.out l.out
