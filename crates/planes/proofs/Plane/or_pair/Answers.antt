-- Both parts are rows of the rectangle, each as long as it is wide.
use Rattle.std.proofs.Common.{ap, ap₂, ◌∙◌, ℕ, ◌+◌, arith}
use Rattle.std.specs.Int.Bits.{bit_or}
use Rattle.standard.specs.Samples.{at}
use Rattle.planes.specs.Scans.{together}
use Rattle.planes.proofs.Scans.{together_as}
use Rattle.planes.proofs.Plane.or_pair.Goals as goal

pub returns : goal.returns
returns c =
    let s = c.args.self in
    let r = c.args.r in
    let upper = c.row-upper.ensures in
    let lower = c.row-lower.ensures in
    c.or_rows.ensures
    ∙ together_as _ _ _ (λ j q. ap₂ bit_or (upper.each j (omega (arith, q, upper.len))) (lower.each j (omega (arith, q, upper.len)) ∙ ap (λ (v : ℕ). at s.samples.now s.width (r.x0 + j) v) c.row_below.ensures))
    ∙ ap (together _) upper.len
