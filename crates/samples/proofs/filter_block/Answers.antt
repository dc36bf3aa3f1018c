-- Each arm of the match writes the samples of its rule: as they are, by band, or by the two steps of its class. Under every context that the answers agree with these are the standard's.
use mathlib.Core.Path.{◌≡◌, ap, ◌∙◌, subst}
use Prim.Native.Nat.{ℕ}
use lib.IntN.{ℤ}
use Rattle.standard.specs.declared.Four.{Four}
use Rattle.standard.specs.declared.Layout.{Layout}
use Rattle.standard.specs.Calls.{Written}
use Rattle.rows.specs.declared.Moves.{Moves}
use Rattle.rows.specs.Moves.{scaled_by, moves_of}
use Rattle.samples.specs.Blocks.{Legal, by_band}
use Rattle.samples.proofs.Standard.{off_block, band_block, edge_block, edge_ready}
use Rattle.samples.proofs.filter_block.Goals as goal

-- the moves are those of the offsets
moved : (l : Layout) (o : Four ℤ) {s : Four ℤ} {m : Moves} → m ≡ moves_of l.depth s → s ≡ scaled_by l.shift o → m ≡ moves_of l.depth (scaled_by l.shift o)
moved l o e f = e ∙ ap (moves_of l.depth) f

-- the class is one of four, and the steps are its own
pub steps_of-requires : goal.steps_of-requires
steps_of-requires c = subst Legal c.in-Edge.is c.requires.legal

pub invariant_of-block : goal.invariant_of-block
invariant_of-block c =
    let s = c.steps_of.ensures in
    record {
      ready = edge_ready c.requires _ (moved c.args.l c.in-Edge.offsets c.moves_of-moves-in-Edge.ensures c.scaled_by-in-Edge.ensures) (subst Legal c.in-Edge.is c.requires.legal) s.first s.second;
    }

pub returns-in-Off : goal.returns-in-Off
returns-in-Off c context g = off_block c.requires g c.in-Off.is c.rows.ensures

pub returns-in-Band : goal.returns-in-Band
returns-in-Band c context g =
    let x = c.args in
    band_block c.requires g c.in-Band.is (moved x.l c.in-Band.offsets c.moves_of-moves.ensures c.scaled_by.ensures)
    (subst (λ (p : ℕ). Written x.l.width x.l.height x.r (by_band x.l c.moves_of-moves.result p x.plane.now) x.out.now c.rows-in-Band.new.out) c.from.ensures
    c.rows-in-Band.ensures)

pub returns-in-Edge : goal.returns-in-Edge
returns-in-Edge c context g =
    let s = c.steps_of.ensures in
    edge_block c.requires g (subst Legal c.in-Edge.is c.requires.legal) s.first s.second c.in-Edge.is
    (moved c.args.l c.in-Edge.offsets c.moves_of-moves-in-Edge.ensures c.scaled_by-in-Edge.ensures) c.filter.ensures
