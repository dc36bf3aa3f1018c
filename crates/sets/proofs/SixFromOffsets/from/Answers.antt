-- The six bytes of a component, by its type; each offset fits a signed byte, so that the bytes say it.
use mathlib.Core.Path.{refl}
use borrow.Author.Rules.{rules}
use Rattle.standard.specs.declared.Offsets.TheVariants.{Off, Band, Edge}
use Rattle.standard.specs.Table.{encode_offsets}
use Rattle.sets.proofs.Bytes.{coded, four_small}
use Rattle.sets.proofs.SixFromOffsets.from.Goals as goal

pub returns-in-Off : goal.returns-in-Off
unfolding encode_offsets
returns-in-Off c = rw c.in-Off.is (coded Off _ tt refl)

pub returns-in-Band : goal.returns-in-Band
unfolding encode_offsets
returns-in-Band c =
    rw (c.in-Band.is, c.bytes_of.ensures)
    (coded (Band c.in-Band.position c.in-Band.offsets) _ (four_small (search rules) (search rules) (search rules) (search rules)) refl)

pub returns-in-Edge : goal.returns-in-Edge
unfolding encode_offsets
returns-in-Edge c =
    rw (c.in-Edge.is, c.bytes_of-in-Edge.ensures)
    (coded (Edge c.in-Edge.class c.in-Edge.offsets) _ (four_small (search rules) (search rules) (search rules) (search rules)) refl)
