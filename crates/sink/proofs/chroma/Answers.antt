-- After Cb's type and what follows it, what Cr has.
use mathlib.Core.Path.{sym, ap}
use mathlib.Core.Bool.{Bool}
use mathlib.Core.List.{◌++◌}
use lib.ListN.{length}
use Rattle.standard.specs.Bins.{type_bins, rest, rest_of_cr, when}
use Rattle.sink.proofs.Rows.{room_as, room_rest}
use Rattle.sink.proofs.chroma.Goals as goal

pub rest_of_cr-requires : goal.rest_of_cr-requires
rest_of_cr-requires g c =
    let l = g.S.Sink.laws in
    let a = c.args in
    let cb = rest a.m.value a.cb in
    let cr = rest_of_cr a.n.value a.cr in
    let r = room_as l (sym (ap (λ (b : Bool). length (when b (type_bins a.cb ++ (cb ++ cr)))) c.if-on.true)) c.requires in
    room_rest l cb cr (room_rest l (type_bins a.cb) (cb ++ cr) r c.kind.ensures) c.rest.ensures
