-- No sum wraps, since a band is far below 16 bits.
use native.Mathlib.Omega.{arith}
use Rattle.rows.proofs.Picks.{band_small}
use Rattle.rows.proofs.Bands.place.Goals as goal

pub overflow_add-result : goal.overflow_add-result
overflow_add-result c = record { fits = omega (arith, band_small c.args.self.depth c.args.s (omega arith) (omega arith)) }
