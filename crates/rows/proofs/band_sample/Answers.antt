-- A sample is moved by the offset of its band's place.
use mathlib.Core.Path.{ap, ◌∙◌}
use mathlib.Core.Bool.{cond}
use Prim.Native.Nat.{ℕ, ◌+◌}
use lib.Dec.{ltb}
use lib.IntN.{ℤ, pos, ◌+ℤ◌}
use Rattle.standard.specs.Samples.{band_idx}
use Rattle.rows.specs.Moves.{value_of, held, moved}
use mir.Syntax.{w16}
use mir.Facts.{to_z-of_z}
use borrow.Author.Rules.{sfits_of}
use Rattle.rows.proofs.band_sample.Goals as goal

pub returns : goal.returns
unfolding band_idx moved
returns c =
    let x = c.args in
    c.moved_by.ensures
    ∙ ap (λ (z : ℤ). held x.m.top (pos x.s +ℤ z))
    (to_z-of_z {w = w16} (sfits_of c.band_offset.type_inv) ∙ c.band_offset.ensures ∙ ap (λ (k : ℕ). value_of x.m.by (cond (ltb k 4) (k + 1) 0)) c.place.ensures)
