-- The samples before the one looked at are moved by their bands.
use Rattle.planes.specs.Places.{Filled}
use Rattle.rows.specs.Parts.{band_row}
use Rattle.rows.proofs.band_row.Given as goal

abbrev pub invariant-loop-i : goal.invariant-loop-i
invariant-loop-i l = Filled l.i (band_row l.m l.bands.depth l.bands.position l.cur) l.initial.out l.out
