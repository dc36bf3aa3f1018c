-- Both neighbours.
use mathlib.Core.Path.{refl, ◌∙◌}
use Rattle.samples.specs.Steps.{step_to}
use Rattle.samples.proofs.Sides.{open_by, true_and, false_and}
use Rattle.samples.proofs.EdgeBlock.is_open.Goals as goal

pub returns-then-is_free : goal.returns-then-is_free
returns-then-is_free c =
    let s = c.args.self.now in
    true_and _ c.if-is_free.true
    ∙ open_by s.around s.r (step_to s.rule.a) (step_to s.rule.b) c.args.x c.args.y c.is_free.ensures c.is_free-then-is_free.ensures

pub returns-else-is_free : goal.returns-else-is_free
returns-else-is_free c =
    let s = c.args.self.now in
    false_and _ c.if-is_free.false ∙ open_by s.around s.r (step_to s.rule.a) (step_to s.rule.b) c.args.x c.args.y c.is_free.ensures refl
