-- The byte that is stored has the bits before the place, the new ones, and zeros.
use borrow.Author.Rules.{rules}
use mathlib.Core.Path.{refl, ap}
use Prim.Native.Nat.{ℕ, ◌-◌, ◌/◌, ◌%◌, ◌<◌}
use native.Mathlib.Omega.{arith}
use lib.ListN.{get_or, set}
use Rattle.sink.proofs.Packed.{part_puts, part_value, part_value_lt}
use Rattle.sink.proofs.Put.part.Goals as goal

pub overflow_add-out : goal.overflow_add-out
overflow_add-out c =
    let a = c.args in
    let l = a.out.now in
    let byte : get_or l (a.self.at / 8) 0 < 256 = search rules in
    omega (arith, part_value_lt (get_or l (a.self.at / 8) 0) a.self.at a.width a.value byte c.requires.width_nonzero.1)

pub overflow_cast-out : goal.overflow_cast-out
overflow_cast-out c =
    let a = c.args in
    let l = a.out.now in
    let byte : get_or l (a.self.at / 8) 0 < 256 = search rules in
    record { fits = part_value_lt (get_or l (a.self.at / 8) 0) a.self.at a.width a.value byte c.requires.width_nonzero.1 }

pub returns : goal.returns
returns c =
    let a = c.args in
    let l = a.out.now in
    let i : ℕ = a.self.at / 8 in
    let bytes : (j : ℕ) → get_or l j 0 < 256 = λ j. search rules in
    let w = c.requires.width_nonzero in
    part_puts l a.self.at a.width a.value _ _ w.1 w.0 c.requires.room.fits bytes
    (ap (λ (n : ℕ). set l i n) (part_value (get_or l i 0) (8 - a.self.at % 8) a.width a.value (bytes i) (omega arith) (omega arith))) refl
