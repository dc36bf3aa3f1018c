-- The samples folded so far, ORed together.
use Rattle.std.proofs.Common.{◌≡◌, length, get_or, rules, subst}
use Rattle.std.proofs.lemmas.Fn.{fold_over, slice_gives, fronts}
use Rattle.planes.specs.Scans.{together}
use Rattle.planes.proofs.Scans.{none_together, more_together}
use Rattle.planes.proofs.or_row.Goals as goal

pub returns : goal.returns
returns c = subst (λ l. c.fold.result ≡ together (λ j. get_or l j 0) (length l)) c.iter.ensures.rest
    (fold_over fronts (λ y. y.now) _ (λ ys v. v ≡ together (λ j. get_or ys j 0) (length ys)) _ (λ ys a x b f' j k. search (rules, more_together))
    _ _ _ _ (slice_gives c.iter.result) (none_together _) c.fold.ensures.ran)
