-- Between the first column and the last all are open alike.
use Rattle.samples.specs.Steps.{step_to}
use Rattle.samples.specs.Rules.{open_in}
use Rattle.samples.proofs.Tables.{by_one}
use Rattle.samples.proofs.Sides.{open_columns}
use Rattle.samples.proofs.Parts.{parted}
use Rattle.samples.proofs.EdgeBlock.runs.Goals as goal

pub returns : goal.returns
returns c =
    let s = c.args.self.now in
    let y = c.args.y in
    parted (λ x. open_in s.rule s.around s.r x y) s.r.x0 s.r.x1 c.requires.0.1
    (λ u v. open_columns s.around s.r (step_to s.rule.a) (step_to s.rule.b) (by_one s.rule.a) (by_one s.rule.b) u v y)
    c.is_open-first.result c.is_open-middle.result c.is_open-last.result c.min-e.result c.from.result c.from-2.result
    c.min-e.ensures c.is_open-first.ensures c.is_open-middle.ensures c.is_open-last.ensures c.from.ensures c.from-2.ensures
