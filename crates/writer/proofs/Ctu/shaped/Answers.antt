-- The room for the full form, after two merges that are not taken.
use mathlib.Core.Path.{sym, ap}
use mathlib.Core.List.{◌++◌}
use lib.ListN.{length}
use Rattle.standard.specs.Bins.{full}
use Rattle.standard.specs.Means.{not_taken}
use Rattle.sink.proofs.Rows.{room_as, room_first, room_rest}
use Rattle.writer.specs.declared.Shape.{Shape}
use Rattle.writer.specs.Forms.{shape_bins}
use Rattle.writer.proofs.Ctu.shaped.Goals as goal

pub not_taken-requires-in-Full-2 : goal.not_taken-requires-in-Full-2
unfolding shape_bins
not_taken-requires-in-Full-2 g c =
    let l = g.S.Sink.laws in
    let a = c.args in
    let r = room_as l (sym (ap (λ (f : Shape). length (shape_bins a.self.switches a.self.left a.self.up a.q f)) c.in-Full.is)) c.requires in
    room_first l (not_taken a.self.up) (full a.self.switches a.q) (room_rest l (not_taken a.self.left) (not_taken a.self.up ++ full a.self.switches a.q) r c.not_taken-in-Full.ensures)

pub full-requires : goal.full-requires
unfolding shape_bins
full-requires g c =
    let l = g.S.Sink.laws in
    let a = c.args in
    let r = room_as l (sym (ap (λ (f : Shape). length (shape_bins a.self.switches a.self.left a.self.up a.q f)) c.in-Full.is)) c.requires in
    room_rest l (not_taken a.self.up) (full a.self.switches a.q)
    (room_rest l (not_taken a.self.left) (not_taken a.self.up ++ full a.self.switches a.q) r c.not_taken-in-Full.ensures) c.not_taken-in-Full-2.ensures
