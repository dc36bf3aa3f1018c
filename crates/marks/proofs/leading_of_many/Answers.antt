-- The marks of the chunks, then those behind them.
use Rattle.std.proofs.Common.{subst}
use Rattle.std.proofs.lemmas.List.{take_rest}
use Rattle.marks.specs.Marks.{LeadingInside}
use Rattle.marks.proofs.Marks.{leading_next}
use Rattle.marks.proofs.leading_of_many.Goals as goal

pub returns : goal.returns
returns c =
    let a = c.args.allowed in
    let m = c.args.marks.now in
    let k = c.leading_chunks-k in
    leading_next a.low a.high m k.result c.leading_inside.result k.ensures.within k.ensures.inside
    (subst (λ l. LeadingInside a.low a.high l c.leading_inside.result) (take_rest m k.result) c.leading_inside.ensures)
