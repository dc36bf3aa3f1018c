-- No sample of the rows passed is above the top, nor one of this row before the column looked at: so the scan is left at the first that is.
use Rattle.std.proofs.Common.{◌≡◌, ℕ, ◌-◌, ◌≤◌, ◌<◌, false, get_or}
use Rattle.standard.specs.Samples.{at}
use Rattle.planes.proofs.Plane.some_above.Given as goal

abbrev pub invariant-loop-s : goal.invariant-loop-s
invariant-loop-s l = (l.found ≡ false) × ((j : ℕ) → j < l.s-index → get_or l.s-items j 0 ≤ l.top)

abbrev pub invariant-scan : goal.invariant-scan
invariant-scan l =
    (l.r.y0 ≤ l.y) × (l.found ≡ false)
    × ((v : ℕ) → v < l.y → l.r.y0 ≤ v → v < l.r.y1 → (u : ℕ) → u < l.r.x1 → l.r.x0 ≤ u → at l.self.samples.now l.self.width u v ≤ l.top)

abbrev pub decreases-scan : goal.decreases-scan
decreases-scan l = l.r.y1 - l.y
