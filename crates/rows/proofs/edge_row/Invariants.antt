-- The samples before the one looked at are moved by their neighbours.
use Rattle.planes.specs.Places.{Filled}
use Rattle.rows.specs.Parts.{edge_row}
use Rattle.rows.proofs.edge_row.Given as goal

abbrev pub invariant-loop-i : goal.invariant-loop-i
invariant-loop-i l = Filled l.i (edge_row l.m l.cur l.a l.b) l.initial.out l.out
