-- The product fits 16 bits: an offset of 8 bits times at most 64.
use Rattle.rows.proofs.Scales.{product_fits, product_back}
use Rattle.rows.proofs.scale.Goals as goal

pub overflow_mul-result : goal.overflow_mul-result
overflow_mul-result c = product_fits _ _ c.ranges.o c.requires

pub returns : goal.returns
returns c = product_back _ _ c.ranges.o c.requires
