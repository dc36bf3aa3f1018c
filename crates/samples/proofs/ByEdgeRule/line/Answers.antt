-- The parts of the neighbours are as long as the row's, a step away.
use mathlib.Core.Path.{◌≡◌}
use Rattle.std.specs.Prelude.{Option}
use Prim.Native.Nat.{ℕ, ◌+◌, ◌-◌, ◌≤◌}
use native.Mathlib.Omega.{arith}
use lib.ListN.{length}
use Rattle.standard.specs.Samples.{edge_idx_of}
use Rattle.planes.proofs.Raster.{area}
use Rattle.rows.specs.declared.Moves.{Moves}
use Rattle.rows.specs.Moves.{moved}
use Rattle.samples.specs.Steps.{step_to}
use Rattle.samples.proofs.Lines.{line_get, line_written}
use Rattle.samples.proofs.Reach.{part_inside, part_neighbour}
use Rattle.samples.proofs.ByEdgeRule.line.Goals as goal
use Rattle.samples.proofs.ByEdgeRule.line.Goals.{After-place-j, After-place-n, Start}

-- a sample and its neighbours, by other names
edge_at : (m : Moves) {s s' : ℕ} {a a' b b' : Option ℕ} → s ≡ s' → a ≡ a' → b ≡ b' → moved m (edge_idx_of s a b) s ≡ moved m (edge_idx_of s' a' b') s'
edge_at m p q r = λ i. moved m (edge_idx_of (p i) (q i) (r i)) (p i)

-- the neighbours' parts are within the plane
fit-a : (c : After-place-j) → let x = c.args in c.place-j.result + (x.x1 - x.x0) ≤ length x.self.from.samples.now
fit-a c =
    let x = c.args in
    let k = c.requires.lent in
    part_inside x.self.from.layout (step_to x.self.a) x.x0 x.x1 x.y k.1 c.requires.fits.0 x.self.from.samples.now k.0.deblocked _ c.place-j.ensures

fit-b : (c : After-place-n) → let x = c.args in c.place-n.result + (x.x1 - x.x0) ≤ length x.self.from.samples.now
fit-b c =
    let x = c.args in
    let k = c.requires.lent in
    part_inside x.self.from.layout (step_to x.self.b) x.x0 x.x1 x.y k.1 c.requires.fits.1 x.self.from.samples.now k.0.deblocked _ c.place-n.ensures

-- no index of the plane is beyond 2^26
small : (c : Start) → length c.args.self.from.samples.now ≤ 67108864
small c =
    let k = c.requires.lent.0 in
    let l = c.args.self.from.layout in
    omega (arith, k.deblocked, area l.width l.height k.wide k.high)

pub overflow_add-je : goal.overflow_add-je
overflow_add-je c = omega (arith, fit-a (goal.at.overflow_add-je c).After-place-j, small (goal.at.overflow_add-je c).Start)

pub offset_bounds-from-j : goal.offset_bounds-from-j
offset_bounds-from-j c = omega (arith, fit-a (goal.at.offset_bounds-from-j c).After-place-j, small (goal.at.offset_bounds-from-j c).Start)

pub slice_bounds-edge_row-end-2 : goal.slice_bounds-edge_row-end-2
slice_bounds-edge_row-end-2 c = fit-a (goal.at.slice_bounds-edge_row-end-2 c).After-place-j

pub slice_bounds-edge_row-end-3 : goal.slice_bounds-edge_row-end-3
slice_bounds-edge_row-end-3 c = fit-b (goal.at.slice_bounds-edge_row-end-3 c).After-place-n

pub returns : goal.returns
returns c =
    let x = c.args in
    let l = x.self.from.layout in
    let plane = x.self.from.samples.now in
    let k = c.requires.lent in
    let i = c.index-i.ensures.place in
    let n = x.x1 - x.x0 in
    let j = c.place-j.result in
    let m = c.place-n.result in
    line_written k.0 k.1 i c.edge_row.ensures
    (λ t h. edge_at x.self.moves (line_get k.0 k.1 i t h)
    (part_neighbour l (step_to x.self.a) x.x0 x.x1 x.y k.1 c.requires.fits.0 plane j (j + n - j) c.place-j.ensures (omega arith) t (omega arith))
    (part_neighbour l (step_to x.self.b) x.x0 x.x1 x.y k.1 c.requires.fits.1 plane m (m + n - m) c.place-n.ensures (omega arith) t (omega arith)))
