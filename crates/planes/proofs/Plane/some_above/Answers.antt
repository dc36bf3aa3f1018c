-- No sample of the rows passed is above the top, nor one of this row before the column looked at: so the scan is left at the first that is.
use Rattle.std.proofs.Common.{◌≡◌, ℕ, ◌+◌, ◌-◌, ◌≤◌, ◌<◌, get_or, arith, subst, below_more}
use Rattle.standard.specs.Samples.{at}
use Rattle.planes.proofs.Scans.{pair_within, two_more}
use Rattle.planes.proofs.Plane.some_above.Goals as goal

pub scan-preserved-then-or_pair-top : goal.scan-preserved-then-or_pair-top
scan-preserved-then-or_pair-top c =
    let l = c.scan in
    let a = c.args in
    let Within : ℕ → Type 0 = λ v. (u : ℕ) → u < a.r.x1 → a.r.x0 ≤ u → at a.self.samples.now a.self.width u v ≤ a.top in
    let pair = pair_within a.self.samples.now a.self.width a.r l.y _ a.top c.or_pair.ensures c.if-or_pair-top.true in
    (omega arith, l.invariant.1, two_more a.r l.y Within l.invariant.2 (λ u p q. (pair u p q).0) (λ u p q. (pair u p q).1))

pub scan-preserved : goal.scan-preserved
scan-preserved c =
    let l = c.loop-s in
    let s = c.scan in
    let a = c.args in
    let Within : ℕ → Type 0 = λ v. (u : ℕ) → u < a.r.x1 → a.r.x0 ≤ u → at a.self.samples.now a.self.width u v ≤ a.top in
    let here : Within s.y = λ u h k.
    let row = c.row-s-items.ensures in
    let j = u - a.r.x0 in
    let e : a.r.x0 + j ≡ u = omega arith in
    let m : get_or c.row-s-items.result.now j 0 ≤ a.top = l.invariant.1 j (omega (arith, h, k, row.len, c.loop-s-test.false)) in
    subst (λ (v : ℕ). at a.self.samples.now a.self.width v s.y ≤ a.top) e (omega (arith, m, row.each j (omega arith)))
    in
    (omega arith, l.invariant.0, below_more (λ v. a.r.y0 ≤ v → v < a.r.y1 → Within v) s.y s.invariant.2 (λ p q. here))
