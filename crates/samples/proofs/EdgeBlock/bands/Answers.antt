-- The first row, those between and the last are each parted alike, and together they are the block.
use Prim.Native.Nat.{◌+◌}
use native.Mathlib.Omega.{arith}
use Rattle.samples.specs.Steps.{step_to}
use Rattle.samples.proofs.Tables.{by_one}
use Rattle.samples.proofs.Assembly.{below_one_another}
use Rattle.samples.proofs.Bands.{alike_between}
use Rattle.samples.proofs.EdgeBlock.bands.Goals as goal

pub band-requires-2-clause-alike : goal.band-requires-2-clause-alike
band-requires-2-clause-alike c =
    let s = c.args.self.now in
    let e = c.max-u.ensures in
    let r = s.ready.some_rows in
    (omega arith, omega (arith, e), omega (arith, e, r), alike_between s.around s.r (step_to s.rule.a) (step_to s.rule.b) _ e r (by_one s.rule.a) (by_one s.rule.b))

pub returns : goal.returns
returns c =
    let s = c.args.self.now in
    let e = c.max-u.ensures in
    let r = s.ready.some_rows in
    below_one_another s.r.x0 s.r.x1 s.r.y0 (s.r.y0 + 1) c.max-u.result s.r.y1 (omega arith) (omega (arith, e)) (omega (arith, e, r)) c.band.ensures c.band-2.ensures c.band-3.ensures
