-- A sample is moved by the offset of its category.
use mathlib.Core.Path.{ap, ◌∙◌}
use lib.IntN.{ℤ, pos, ◌+ℤ◌, ◌-ℤ◌}
use Rattle.standard.specs.Samples.{edge_idx, edge_idx_of}
use Rattle.rows.specs.Moves.{value_of, held, moved}
use Rattle.rows.proofs.Signs.{sum_fits, sum_of}
use mir.Syntax.{w16}
use mir.Facts.{to_z-of_z}
use borrow.Author.Rules.{sfits_of}
use Rattle.rows.proofs.edge_sample.Goals as goal

pub overflow_add-sign_of : goal.overflow_add-sign_of
overflow_add-sign_of c =
    let x = c.args in
    rw (c.sign_of.ensures, c.sign_of-2.ensures) (sum_fits (pos x.s -ℤ pos x.a) (pos x.s -ℤ pos x.b))

pub returns : goal.returns
unfolding edge_idx_of moved
returns c =
    let x = c.args in
    c.moved_by.ensures
    ∙ ap (λ (z : ℤ). held x.m.top (pos x.s +ℤ z))
    (to_z-of_z {w = w16} (sfits_of c.edge_offset.type_inv) ∙ c.edge_offset.ensures
    ∙ ap (λ (z : ℤ). value_of x.m.by (edge_idx z))
    (sum_of (pos x.s -ℤ pos x.a) (pos x.s -ℤ pos x.b) c.sign_of.ensures c.sign_of-2.ensures))
