-- The part of the plane and that of the output are equally long, and a sample's place in them is its column's.
use Rattle.samples.proofs.Lines.{line_get, line_written}
use Rattle.samples.proofs.DeblockedRule.line.Goals as goal

pub returns : goal.returns
returns c =
    let k = c.requires.lent in
    let i = c.index-i.ensures.place in
    line_written k.0 k.1 i c.copy_row.ensures (line_get k.0 k.1 i)
