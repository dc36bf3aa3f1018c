-- `Cursor::fixed` meets its contract.
use Rattle.bins.proofs.Places.{fixed_none, fixed_value}
use Rattle.bins.proofs.Cursor.fixed.Goals as goal

pub returns-then-self-width : goal.returns-then-self-width
returns-then-self-width c = fixed_none c.args.self c.args.width c.if-self-width.true

pub returns : goal.returns
returns c = fixed_value c.args.self c.window.ensures c.args.width c.requires.1 c.if-self-width.false c.past.ensures
