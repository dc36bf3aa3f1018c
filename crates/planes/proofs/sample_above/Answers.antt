-- Where the OR is not above the top no sample is.
use Rattle.std.proofs.Common.{length, get_or, ltb, arith}
use borrow.Author.Tests.{ltb-true}
use Rattle.standard.proofs.Answers.{tell}
use Rattle.planes.proofs.Scans.{none_above}
use Rattle.planes.proofs.sample_above.Goals as goal

pub returns-else-top-or_row : goal.returns-else-top-or_row
returns-else-top-or_row c =
    let l = c.args.samples.now in
    tell (ltb c.args.top c.or_row.result) (λ e. absurd (omega (arith, ltb-true c.args.top c.or_row.result e)))
    (λ e p. omega (arith, c.or_row.ensures, none_above (λ j. get_or l j 0) (length l) p.0 p.1, p.2, c.if-top-or_row.false))
