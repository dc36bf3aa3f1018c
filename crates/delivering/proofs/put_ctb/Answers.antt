-- Width, height and rectangle are those of the block, which lies in its plane.
use Rattle.delivering.proofs.Blocks.{placed}
use Rattle.delivering.proofs.put_ctb.Goals as goal

pub invariant_of-place : goal.invariant_of-place
invariant_of-place c = record { placed = rw (c.plane_width.ensures.is, c.plane_height.ensures.is, c.rectangle.ensures) (placed c.args.block) }
