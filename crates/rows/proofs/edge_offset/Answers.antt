-- One of the four is the offset of the category, and the others are 0.
use native.Mathlib.Omega.{arith}
use mir.Syntax.{w16}
use borrow.Author.Rules.{sfits_of}
use Rattle.rows.proofs.Picks.{Sole, only_back, fits3, fits4, sole_is, edge_sole}
use Rattle.rows.specs.Moves.{value_of}
use Rattle.standard.specs.Samples.{edge_idx}
use lib.IntN.{pos, ◌+ℤ◌}
use Rattle.rows.proofs.edge_offset.Goals as goal
use Rattle.rows.proofs.edge_offset.Goals.{After-only-d}

-- one of the four is the offset of the category
sole : (c : After-only-d) →
    let x = c.args in
    Sole (value_of x.o (edge_idx (pos 2 +ℤ x.n))) c.only-a.result c.only-b.result c.only-c.result c.only-d.result
sole c =
    let x = c.args in
    let f1 = sfits_of {w = w16} {z = x.o.o1} (omega arith) in
    let f2 = sfits_of {w = w16} {z = x.o.o2} (omega arith) in
    let f3 = sfits_of {w = w16} {z = x.o.o3} (omega arith) in
    let f4 = sfits_of {w = w16} {z = x.o.o4} (omega arith) in
    let h = c.ranges.n in
    edge_sole x.o f1 f2 f3 f4 x.n
    (only_back h f1 c.only-a.ensures) (only_back h f2 c.only-b.ensures) (only_back h f3 c.only-c.ensures) (only_back h f4 c.only-d.ensures)

pub overflow_add-result-2 : goal.overflow_add-result-2
overflow_add-result-2 c = fits3 (sole (goal.at.overflow_add-result-2 c).After-only-d)

pub overflow_add-result-3 : goal.overflow_add-result-3
overflow_add-result-3 c = fits4 (sole (goal.at.overflow_add-result-3 c).After-only-d)

pub returns : goal.returns
returns c = sole_is (sole (goal.at.returns c).After-only-d)
