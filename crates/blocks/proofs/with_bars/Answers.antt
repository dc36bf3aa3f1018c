-- Each of the eight answers is open only where the one that it is made of is.
use Rattle.samples.proofs.Picture.{each_fewer}
use Rattle.blocks.proofs.with_bars.Goals as goal

pub returns : goal.returns
returns c =
    each_fewer _ c.args.o c.unless_barred.ensures c.unless_barred-2.ensures c.unless_barred-3.ensures c.unless_barred-4.ensures c.unless_barred-5.ensures
    c.unless_barred-6.ensures c.unless_barred-7.ensures c.unless_barred-8.ensures
