-- The rows before the one put are the delivered block's, and the rest is as it was.
use Rattle.standard.specs.Calls.{Written, delivered}
use Rattle.planes.specs.Places.{block}
use Rattle.planes.proofs.put_block.Given as goal

abbrev pub invariant-loop-y : goal.invariant-loop-y
invariant-loop-y l =
    let r = l.place.rectangle in
    Written l.place.width l.place.height (block r.x0 r.x1 r.y0 l.y) (delivered r l.samples) l.initial.plane l.plane
