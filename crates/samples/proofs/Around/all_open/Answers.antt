-- Where the answer is yes, all nine are.
use mathlib.Core.Path.{sym, ◌∙◌, subst}
use Rattle.samples.specs.Around.{AllOf}
use Rattle.samples.proofs.Open.{rows_open}
use Rattle.samples.proofs.Around.all_open.Goals as goal
use Rattle.samples.proofs.Around.all_open.Goals.{then-all, else-all}

pub returns-then-all-2 : goal.returns-then-all-2
returns-then-all-2 c e =
    elim c.if-all.branch [
      | then-all w ↦
          rows_open _ (subst AllOf c.row.ensures (c.all.ensures w.if-all.true))
          (subst AllOf w.row-then-all.ensures (w.all-then-all.ensures (sym w.value-is ∙ c.if-all-2.true)))
          (subst AllOf c.row-then-all-2.ensures (c.all-then-all-2.ensures e))
      | else-all w ↦ cc (w.value-is, c.if-all-2.true, w.if-all.false)
    ]
