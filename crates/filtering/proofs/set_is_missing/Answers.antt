-- The sets of the CTUs below the next one are in.
use Rattle.lent.specs.States.{state_at}
use Rattle.filtering.proofs.Missing.{tells_missing}
use Rattle.filtering.proofs.set_is_missing.Goals as goal

pub returns : goal.returns
returns c = tells_missing (state_at c.args.block.of c.args.next) c.args.block.ctb
