-- `Cursor::magnitude` meets its contract: M ones, or fewer and a zero, or the bins end.
use native.Mathlib.Omega.{arith}
use Rattle.bins.proofs.Places.{whole_within, magnitude_whole, magnitude_part, magnitude_cut}
use Rattle.bins.proofs.Cursor.magnitude.Goals as goal

pub past-requires : goal.past-requires
past-requires c = let m = c.args.m in whole_within c.args.self c.window.ensures m.value (omega (arith, c.if-ones-m.true, m.below))

pub returns-then-ones-m : goal.returns-then-ones-m
returns-then-ones-m c =
    let m = c.args.m in
    magnitude_whole c.args.self c.window.ensures m.value (omega (arith, c.if-ones-m.true, m.below)) c.past.ensures

pub returns-then-ones-self : goal.returns-then-ones-self
returns-then-ones-self c =
    let m = c.args.m in
    magnitude_part c.args.self c.window.ensures m.value m.below (omega (arith, c.if-ones-m.false)) c.if-ones-self.true c.past-then-ones-self.ensures

pub returns : goal.returns
returns c =
    let m = c.args.m in
    magnitude_cut c.args.self c.window.ensures m.value m.below (omega (arith, c.if-ones-m.false)) c.if-ones-self.false
