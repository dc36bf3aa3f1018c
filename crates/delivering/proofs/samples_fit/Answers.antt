-- The product is the rectangle's area, which no CTB has more than 64 * 64 of.
use native.Mathlib.Omega.{arith}
use Rattle.standard.proofs.Grid.{ends}
use Rattle.delivering.proofs.Blocks.{area_most}
use Rattle.delivering.proofs.samples_fit.Goals as goal

pub overflow_sub-result : goal.overflow_sub-result
overflow_sub-result c = let b = c.args.block in rw c.rectangle-r.ensures (omega (arith, (ends b.of.rules b.component b.ctb_in).some_columns))

pub overflow_sub-result-2 : goal.overflow_sub-result-2
overflow_sub-result-2 c = let b = c.args.block in rw c.rectangle-r.ensures (omega (arith, (ends b.of.rules b.component b.ctb_in).some_rows))

pub overflow_mul-result : goal.overflow_mul-result
overflow_mul-result c = rw c.rectangle-r.ensures (omega (arith, area_most c.args.block))
