-- Layout and rectangle are those of the CTB, and the answers agree with what the picture's parameters say.
use Rattle.standard.specs.Samples.{layout_of, context_of}
use Rattle.standard.specs.Table.{parameters_in}
use Rattle.filtering.proofs.Filtering.{block_ready}
use Rattle.filtering.proofs.filter_ctb.Goals as goal

pub filter_block-requires : goal.filter_block-requires
filter_block-requires c =
    rw (c.layout.ensures, c.rectangle.ensures)
    (block_ready c.args.block (parameters_in c.args.table.now) c.requires c.answers-o.ensures)

pub returns : goal.returns
unfolding layout_of
returns c =
    let b = c.args.block in
    rw (c.layout.ensures, c.rectangle.ensures) at (c.filter_block.ensures (context_of b.of.picture (parameters_in c.args.table.now) b.component) (rw c.rectangle.ensures c.answers-o.ensures))
