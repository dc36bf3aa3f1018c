-- The picture's border bars what is outside it, and nothing else does.
use Rattle.standard.specs.Table.{parameters_in}
use Rattle.filtering.proofs.Filtering.{block_answers}
use Rattle.filtering.proofs.answers.Goals as goal

pub returns : goal.returns
returns c = rw (c.in_picture.ensures, c.layout.ensures, c.rectangle.ensures) (block_answers c.args.block (parameters_in c.args.table.now))
