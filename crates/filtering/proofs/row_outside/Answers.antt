-- The row's marks stand side by side, as many as it has columns.
use Prim.Native.Nat.{◌+◌, ◌-◌, ◌*◌, ◌<◌}
use native.Mathlib.Omega.{arith}
use Rattle.standard.proofs.Rasters.{index_lt}
use Rattle.filtering.proofs.Marks.{tells_row}
use Rattle.filtering.proofs.row_outside.Goals as goal

pub returns : goal.returns
returns c =
    let a = c.args in
    let r = a.place.rectangle in
    let h = a.place.placed in
    let e = c.index-i.ensures.place in
    let last : a.y * a.place.width + (r.x1 - 1) < a.place.width * a.place.height = index_lt (omega (arith, h.columns, h.right)) (omega (arith, c.requires.2, h.bottom)) in
    tells_row a.allowed.low a.allowed.high a.marks.now a.place.width r a.y _ _ _ c.some_outside.ensures e (omega (arith, h.columns)) (omega (arith, e, last, h.columns, c.requires.0))
