-- The room for a band's signs and position, after its magnitudes.
use mathlib.Core.Path.{sym, ap}
use mathlib.Core.List.{◌++◌}
use lib.ListN.{length}
use Rattle.standard.specs.declared.Offsets.{Offsets}
use Rattle.standard.specs.Bins.{fixed_length, magnitudes, signs, rest_of_cr}
use Rattle.standard.proofs.Longest.{fixed_length_lem}
use Rattle.sink.proofs.Rows.{room_as, room_first, room_rest}
use Rattle.sink.proofs.rest_of_cr.Goals as goal

pub signs-requires : goal.signs-requires
unfolding rest_of_cr
signs-requires g c =
    let l = g.S.Sink.laws in
    let m = c.args.m.value in
    let b = c.in-Band in
    let r = room_as l (sym (ap (λ (o : Offsets). length (rest_of_cr m o)) b.is)) c.requires in
    room_first l (signs b.offsets) (fixed_length 5 b.position)
    (room_rest l (magnitudes m b.offsets) (signs b.offsets ++ fixed_length 5 b.position) r c.magnitudes.ensures)

pub bits-requires-clause-room : goal.bits-requires-clause-room
unfolding rest_of_cr
bits-requires-clause-room g c =
    let l = g.S.Sink.laws in
    let m = c.args.m.value in
    let b = c.in-Band in
    let r = room_as l (sym (ap (λ (o : Offsets). length (rest_of_cr m o)) b.is)) c.requires in
    room_as l (sym (fixed_length_lem 5 b.position))
    (room_rest l (signs b.offsets) (fixed_length 5 b.position)
    (room_rest l (magnitudes m b.offsets) (signs b.offsets ++ fixed_length 5 b.position) r c.magnitudes.ensures) c.signs.ensures)
