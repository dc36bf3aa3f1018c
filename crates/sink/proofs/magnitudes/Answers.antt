-- The room after the first, and all four in a row.
use borrow.Author.Rules.{rules}
use mathlib.Core.Path.{ap, ◌∙◌}
use lib.ListN.{length}
use lib.IntN.{nat_abs}
use mir.Syntax.{w8}
use Rattle.standard.specs.Bins.{truncated, magnitudes}
use Rattle.standard.proofs.Signed.{backed}
use Rattle.sink.proofs.Rows.{takes_as, room_as, room_2, room_3, room_4}
use Rattle.sink.proofs.magnitudes.Goals as goal

pub truncated-requires-2 : goal.truncated-requires-2
unfolding magnitudes
truncated-requires-2 g c =
    let l = g.S.Sink.laws in
    let o = c.args.o in
    let m = c.args.m.value in
    let e1 = ap (truncated m) (c.magnitude.ensures ∙ ap nat_abs (backed w8 o.o1 (search rules))) in
    let p1 = takes_as l e1 c.truncated.ensures in
    let e2 = ap (truncated m) (c.magnitude-2.ensures ∙ ap nat_abs (backed w8 o.o2 (search rules))) in
    room_as l (ap length e2) (room_2 l (truncated m (nat_abs o.o1)) (truncated m (nat_abs o.o2)) (truncated m (nat_abs o.o3)) (truncated m (nat_abs o.o4)) c.requires p1)

pub truncated-requires-3 : goal.truncated-requires-3
unfolding magnitudes
truncated-requires-3 g c =
    let l = g.S.Sink.laws in
    let o = c.args.o in
    let m = c.args.m.value in
    let e1 = ap (truncated m) (c.magnitude.ensures ∙ ap nat_abs (backed w8 o.o1 (search rules))) in
    let p1 = takes_as l e1 c.truncated.ensures in
    let e2 = ap (truncated m) (c.magnitude-2.ensures ∙ ap nat_abs (backed w8 o.o2 (search rules))) in
    let p2 = takes_as l e2 c.truncated-2.ensures in
    let e3 = ap (truncated m) (c.magnitude-3.ensures ∙ ap nat_abs (backed w8 o.o3 (search rules))) in
    room_as l (ap length e3) (room_3 l (truncated m (nat_abs o.o1)) (truncated m (nat_abs o.o2)) (truncated m (nat_abs o.o3)) (truncated m (nat_abs o.o4)) c.requires p1 p2)

pub truncated-requires-4 : goal.truncated-requires-4
unfolding magnitudes
truncated-requires-4 g c =
    let l = g.S.Sink.laws in
    let o = c.args.o in
    let m = c.args.m.value in
    let e1 = ap (truncated m) (c.magnitude.ensures ∙ ap nat_abs (backed w8 o.o1 (search rules))) in
    let p1 = takes_as l e1 c.truncated.ensures in
    let e2 = ap (truncated m) (c.magnitude-2.ensures ∙ ap nat_abs (backed w8 o.o2 (search rules))) in
    let p2 = takes_as l e2 c.truncated-2.ensures in
    let e3 = ap (truncated m) (c.magnitude-3.ensures ∙ ap nat_abs (backed w8 o.o3 (search rules))) in
    let p3 = takes_as l e3 c.truncated-3.ensures in
    let e4 = ap (truncated m) (c.magnitude-4.ensures ∙ ap nat_abs (backed w8 o.o4 (search rules))) in
    room_as l (ap length e4) (room_4 l (truncated m (nat_abs o.o1)) (truncated m (nat_abs o.o2)) (truncated m (nat_abs o.o3)) (truncated m (nat_abs o.o4)) c.requires p1 p2 p3)

pub returns : goal.returns
unfolding magnitudes
returns g c =
    let l = g.S.Sink.laws in
    let o = c.args.o in
    let m = c.args.m.value in
    let e1 = ap (truncated m) (c.magnitude.ensures ∙ ap nat_abs (backed w8 o.o1 (search rules))) in
    let p1 = takes_as l e1 c.truncated.ensures in
    let e2 = ap (truncated m) (c.magnitude-2.ensures ∙ ap nat_abs (backed w8 o.o2 (search rules))) in
    let p2 = takes_as l e2 c.truncated-2.ensures in
    let e3 = ap (truncated m) (c.magnitude-3.ensures ∙ ap nat_abs (backed w8 o.o3 (search rules))) in
    let p3 = takes_as l e3 c.truncated-3.ensures in
    let e4 = ap (truncated m) (c.magnitude-4.ensures ∙ ap nat_abs (backed w8 o.o4 (search rules))) in
    let p4 = takes_as l e4 c.truncated-4.ensures in
    l.both p1 (l.both p2 (l.both p3 p4))
