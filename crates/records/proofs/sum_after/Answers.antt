-- The fold takes the sum along the whole run, since its closure acts as the step of the sum.
use Rattle.std.proofs.Common.{rules, bit_xor}
use Rattle.records.specs.Draws.{drawn_after}
use Rattle.records.proofs.sum_after.Goals as goal

pub returns : goal.returns
returns g c =
    let w = c.fold.ensures.runs in
    (w.0, w.1, w.2, w.3 (λ v n. drawn_after (bit_xor v n)) (search rules))
