-- Less, equal or greater is the sign of the difference.
use Rattle.rows.proofs.Signs.{sign_compare}
use Rattle.rows.proofs.sign_of.Goals as goal

pub returns : goal.returns
returns c = sign_compare c.args.s c.args.a c.cmp.ensures
