-- The row of answers, and of it the one asked for.
use mathlib.Core.Path.{ap, ◌∙◌}
use Rattle.samples.specs.declared.Three.{Three}
use Rattle.samples.specs.Around.{pick_of, answer_of}
use Rattle.samples.proofs.Around.answer.Goals as goal

pub returns : goal.returns
unfolding answer_of
returns c = c.at.ensures ∙ ap (λ (t : Three). pick_of t c.args.across) c.row.ensures
