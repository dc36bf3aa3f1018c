-- Of the marks folded so far, one is outside or none is, as is noted.
use Rattle.std.proofs.Common.{rules, subst}
use Rattle.std.proofs.lemmas.Fn.{fold_over, slice_gives, fronts}
use Rattle.standard.specs.Refusals.{Tells}
use Rattle.marks.specs.Marks.{SomeOutside}
use Rattle.marks.proofs.Marks.{none_of_none, one_more}
use Rattle.marks.proofs.some_of_many.Goals as goal

pub returns : goal.returns
returns c =
    let low = c.args.allowed.low in
    let high = c.args.allowed.high in
    subst (λ l. Tells (SomeOutside low high l) c.fold.result) c.iter.ensures.rest
    (fold_over fronts (λ y. y.now) _ (λ ys some. Tells (SomeOutside low high ys) some) _ (λ ys a x b f' j k. search (rules, one_more))
    _ _ _ _ (slice_gives c.iter.result) (none_of_none low high) c.fold.ensures.ran)
