-- One of the four is the offset of the place, and the others are 0.
use native.Mathlib.Omega.{arith}
use mir.Syntax.{w16}
use borrow.Author.Rules.{sfits_of}
use Rattle.rows.proofs.Picks.{Sole, within_back, fits3, fits4, sole_is, band_sole}
use Rattle.rows.specs.Moves.{value_of}
use mathlib.Core.Bool.{cond}
use Prim.Native.Nat.{◌+◌}
use lib.Dec.{ltb}
use Rattle.rows.proofs.band_offset.Goals as goal
use Rattle.rows.proofs.band_offset.Goals.{After-within-d}

-- one of the four is the place's offset
sole : (c : After-within-d) →
    let x = c.args in
    Sole (value_of x.o (cond (ltb x.k 4) (x.k + 1) 0)) c.within-a.result c.within-b.result c.within-c.result c.within-d.result
sole c =
    let x = c.args in
    let f1 = sfits_of {w = w16} {z = x.o.o1} (omega arith) in
    let f2 = sfits_of {w = w16} {z = x.o.o2} (omega arith) in
    let f3 = sfits_of {w = w16} {z = x.o.o3} (omega arith) in
    let f4 = sfits_of {w = w16} {z = x.o.o4} (omega arith) in
    band_sole x.o f1 f2 f3 f4 x.k
    (within_back f1 c.within-a.ensures) (within_back f2 c.within-b.ensures) (within_back f3 c.within-c.ensures) (within_back f4 c.within-d.ensures)

pub overflow_add-result-2 : goal.overflow_add-result-2
overflow_add-result-2 c = fits3 (sole (goal.at.overflow_add-result-2 c).After-within-d)

pub overflow_add-result-3 : goal.overflow_add-result-3
overflow_add-result-3 c = fits4 (sole (goal.at.overflow_add-result-3 c).After-within-d)

pub returns : goal.returns
returns c = sole_is (sole (goal.at.returns c).After-within-d)
