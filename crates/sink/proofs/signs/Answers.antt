-- The room for each, after those before it, and all four in a row.
use borrow.Author.Rules.{rules}
use mathlib.Core.Path.{ap}
use lib.ListN.{length}
use mir.Syntax.{w8}
use Rattle.standard.specs.Bins.{sign_bins, signs}
use Rattle.standard.proofs.Signed.{backed}
use Rattle.sink.proofs.Rows.{takes_as, room_as, room_1, room_2, room_3, room_4}
use Rattle.sink.proofs.signs.Goals as goal

pub sign-requires : goal.sign-requires
unfolding signs
sign-requires g c =
    let l = g.S.Sink.laws in
    let o = c.args.o in
    room_as l (ap length (ap sign_bins (backed w8 o.o1 (search rules))))
    (room_1 l (sign_bins o.o1) (sign_bins o.o2) (sign_bins o.o3) (sign_bins o.o4) c.requires)

pub sign-requires-2 : goal.sign-requires-2
unfolding signs
sign-requires-2 g c =
    let l = g.S.Sink.laws in
    let o = c.args.o in
    let p1 = takes_as l (ap sign_bins (backed w8 o.o1 (search rules))) c.sign.ensures in
    room_as l (ap length (ap sign_bins (backed w8 o.o2 (search rules))))
    (room_2 l (sign_bins o.o1) (sign_bins o.o2) (sign_bins o.o3) (sign_bins o.o4) c.requires p1)

pub sign-requires-3 : goal.sign-requires-3
unfolding signs
sign-requires-3 g c =
    let l = g.S.Sink.laws in
    let o = c.args.o in
    let p1 = takes_as l (ap sign_bins (backed w8 o.o1 (search rules))) c.sign.ensures in
    let p2 = takes_as l (ap sign_bins (backed w8 o.o2 (search rules))) c.sign-2.ensures in
    room_as l (ap length (ap sign_bins (backed w8 o.o3 (search rules))))
    (room_3 l (sign_bins o.o1) (sign_bins o.o2) (sign_bins o.o3) (sign_bins o.o4) c.requires p1 p2)

pub sign-requires-4 : goal.sign-requires-4
unfolding signs
sign-requires-4 g c =
    let l = g.S.Sink.laws in
    let o = c.args.o in
    let p1 = takes_as l (ap sign_bins (backed w8 o.o1 (search rules))) c.sign.ensures in
    let p2 = takes_as l (ap sign_bins (backed w8 o.o2 (search rules))) c.sign-2.ensures in
    let p3 = takes_as l (ap sign_bins (backed w8 o.o3 (search rules))) c.sign-3.ensures in
    room_as l (ap length (ap sign_bins (backed w8 o.o4 (search rules))))
    (room_4 l (sign_bins o.o1) (sign_bins o.o2) (sign_bins o.o3) (sign_bins o.o4) c.requires p1 p2 p3)

pub returns : goal.returns
unfolding signs
returns g c =
    let l = g.S.Sink.laws in
    let o = c.args.o in
    let e1 = ap sign_bins (backed w8 o.o1 (search rules)) in
    let p1 = takes_as l e1 c.sign.ensures in
    let e2 = ap sign_bins (backed w8 o.o2 (search rules)) in
    let p2 = takes_as l e2 c.sign-2.ensures in
    let e3 = ap sign_bins (backed w8 o.o3 (search rules)) in
    let p3 = takes_as l e3 c.sign-3.ensures in
    let e4 = ap sign_bins (backed w8 o.o4 (search rules)) in
    let p4 = takes_as l e4 c.sign-4.ensures in
    l.both p1 (l.both p2 (l.both p3 p4))
