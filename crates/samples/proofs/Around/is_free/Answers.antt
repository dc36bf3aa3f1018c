-- The side of the neighbour across and down decides which answer is asked for.
use lib.IntN.{pos, ◌+ℤ◌}
use Rattle.samples.specs.Steps.{by}
use Rattle.samples.proofs.Sides.{free_by}
use Rattle.samples.proofs.Around.is_free.Goals as goal

pub returns : goal.returns
returns c =
    let x = c.args in
    free_by x.self x.r (pos x.x +ℤ by x.s.dx) (pos x.y +ℤ by x.s.dy) c.answer.ensures c.side.ensures c.side-2.ensures
