-- By what the offset is compared with.
use mathlib.Core.Path.{sym, ap, ◌∙◌}
use native.Mathlib.Omega.{arith}
use lib.ListN.{length}
use Rattle.std.proofs.lemmas.Int.{ints, to_z-of_z}
use Rattle.standard.proofs.Longest.{fixed_length_lem}
use Rattle.sink.proofs.Rows.{takes_as, room_as}
use Rattle.sink.proofs.Signed.{sign_none, sign_below, sign_above}
use Rattle.sink.proofs.sign.Goals as goal

pub returns-then-o-eq0 : goal.returns-then-o-eq0
returns-then-o-eq0 g c =
    let l = g.S.Sink.laws in
    let t = c.if-o-eq0.true in
    takes_as l (sym (sign_none c.args.o (omega (arith, ints)))) (l.nothing _)

pub returns-then-o-lt0 : goal.returns-then-o-lt0
returns-then-o-lt0 g c =
    let f = c.ranges.o in
    takes_as g.S.Sink.laws (sym (sign_below c.args.o (simp to_z-of_z at c.if-o-lt0.true))) c.bits.ensures

pub returns : goal.returns
returns g c =
    let f = c.ranges.o in
    let d = c.if-o-eq0.false in
    takes_as g.S.Sink.laws (sym (sign_above c.args.o (λ e. d (omega (arith, ints))) (simp to_z-of_z at c.if-o-lt0.false))) c.bits-2.ensures

pub bits-requires-clause-room : goal.bits-requires-clause-room
bits-requires-clause-room g c =
    let f = c.ranges.o in
    room_as g.S.Sink.laws (sym (fixed_length_lem 1 1) ∙ ap length (sym (sign_below c.args.o (simp to_z-of_z at c.if-o-lt0.true)))) c.requires

pub bits-requires-2-clause-room : goal.bits-requires-2-clause-room
bits-requires-2-clause-room g c =
    let f = c.ranges.o in
    let d = c.if-o-eq0.false in
    room_as g.S.Sink.laws (sym (fixed_length_lem 1 0) ∙ ap length (sym (sign_above c.args.o (λ e. d (omega (arith, ints))) (simp to_z-of_z at c.if-o-lt0.false)))) c.requires
