-- Where nothing is barred every neighbour is reached; elsewhere the block goes band by band.
use mathlib.Core.Path.{refl}
use mathlib.Core.Bool.{true}
use Rattle.samples.specs.Steps.{step_to}
use Rattle.samples.proofs.Open.{all_open, part_reach, part_is}
use Rattle.samples.proofs.EdgeBlock.filter.Goals as goal

pub rows-requires-clause-fits : goal.rows-requires-clause-fits
rows-requires-clause-fits c =
    let s = c.args.self.now in
    part_reach s.rule.from.layout s.around s.r (step_to s.rule.a) (step_to s.rule.b) s.r true
    (all_open s.around s.r (step_to s.rule.a) (step_to s.rule.b) (c.all_open.ensures c.if-all_open.true)) s.ready.first_reaches s.ready.second_reaches refl

pub returns-then-all_open : goal.returns-then-all_open
returns-then-all_open c =
    let s = c.args.self.now in
    part_is s.rule.from.layout s.around s.r (step_to s.rule.a) (step_to s.rule.b) s.r true
    (all_open s.around s.r (step_to s.rule.a) (step_to s.rule.b) (c.all_open.ensures c.if-all_open.true)) s.rule.moves s.rule.from.samples.now s.ready.under c.rows.ensures
