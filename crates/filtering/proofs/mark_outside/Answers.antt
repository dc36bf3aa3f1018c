-- One of a row, or of no row.
use Rattle.std.proofs.Common.{ℕ, rules, refl, ◌-◌}
use Rattle.std.proofs.lemmas.Iterator.{cases_from_any, YieldsList-from_range}
use Rattle.standard.proofs.Answers.{tell_same}
use Rattle.filtering.specs.Filtering.{RowOutside}
use Rattle.filtering.proofs.Marks.{tells_some}
use Rattle.filtering.proofs.mark_outside.Goals as goal

pub returns : goal.returns
returns c =
    let a = c.args in
    let r = a.place.rectangle in
    let At = RowOutside a.allowed.low a.allowed.high a.marks.now a.place.width r in
    let found = cases_from_any _ _ c.any.result At (λ (y : ℕ). ¬ At y) c.any.ensures.ran (YieldsList-from_range r.y0 r.y1 (r.y1 - r.y0) refl refl) (λ y q k. search rules) (λ y q k. search rules) in
    tell_same c.any.result (λ (y, l, (x, h, o)). (x, y, (h, l), o)) (λ (x, y, (h, l), o). (y, l, (x, h, o))) (tells_some r.y0 r.y1 At c.any.result found)
