-- Width, height, rectangle and depth are those of the block.
use Rattle.filtering.proofs.Planes.{grown_placed, tells_scanned}
use Rattle.filtering.proofs.scanned_too_large.Goals as goal

pub some_above-requires : goal.some_above-requires
some_above-requires c = rw (c.plane_width.ensures.is, c.plane_height.ensures.is, c.grown.ensures) (grown_placed c.args.block)

pub returns : goal.returns
returns c =
    tells_scanned c.args.block c.args.set c.args.samples.now c.some_above.result
    (rw (c.plane_width.ensures.is, c.grown.ensures, c.top_of-top.ensures, c.depth.ensures) at c.some_above.ensures)
