-- The rows before the one looked at are by the rule, and the rest is as it was.
use Rattle.standard.specs.Calls.{Written}
use Rattle.planes.specs.Places.{block}
use Rattle.samples.proofs.rows.Given as goal

abbrev pub invariant-loop-y : goal.invariant-loop-y
invariant-loop-y g l =
    let from = g.R.Rule.from l.rule in
    Written from.layout.width from.layout.height (block l.r.x0 l.r.x1 l.r.y0 l.y) (g.R.Rule.sample l.rule) l.initial.out l.out
