-- The offsets, and the top of the depth.
use Rattle.rows.specs.Moves.{moves_of}
use Rattle.rows.proofs.moves_of.Goals as goal

pub returns : goal.returns
unfolding moves_of
returns c = let x = c.args in λ i. record { by = x.o; top = c.top_of.ensures i }
