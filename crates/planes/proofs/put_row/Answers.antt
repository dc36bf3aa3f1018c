-- A row of the delivered samples and its place in the plane are equally long parts.
use Rattle.std.proofs.Common.{ap, ◌∙◌, ℕ, ◌+◌, ◌-◌, arith, get_or}
use Rattle.planes.proofs.Blocks.{part_get, part_written}
use Rattle.planes.proofs.put_row.Goals as goal

pub returns : goal.returns
returns c =
    let a = c.args in
    let r = a.place.rectangle in
    let n = r.x1 - r.x0 in
    let i = c.index-i.result in
    let o = c.index-o.result in
    part_written a.place.width a.place.height r.x0 r.x1 a.y o (o + n - o) (omega arith) (omega arith) (omega arith) c.index-o.ensures.place (omega arith) a.plane.now _ c.requires.samples_len.1
    c.copy_row.ensures
    (λ j q. part_get n (r.y1 - r.y0) 0 n (a.y - r.y0) i (i + n - i) (omega arith) (omega arith) (omega arith) c.index-i.ensures.place (omega arith) a.samples.now j (omega arith)
    ∙ ap (λ (k : ℕ). get_or a.samples.now k 0) (omega arith))
