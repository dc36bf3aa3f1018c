-- The neighbour is in the picture, so its column and row have a place there.
use native.Mathlib.Omega.{arith}
use Rattle.standard.proofs.Counting.{in_place}
use Rattle.samples.proofs.Reach.{place_across, place_down}
use Rattle.samples.proofs.Deblocked.place.Goals as goal

pub from_place-u-requires : goal.from_place-u-requires
from_place-u-requires c = (c.requires.bound.2, place_across (in_place _ _ _ _ c.requires.inside))

pub from_place-v-requires : goal.from_place-v-requires
from_place-v-requires c = (c.requires.bound.3, place_down (in_place _ _ _ _ c.requires.inside))

pub index-requires : goal.index-requires
index-requires c =
    let p = in_place _ _ _ _ c.requires.inside in
    (c.requires.bound.0, c.requires.bound.1, omega (arith, p.0, c.from_place-u.ensures), omega (arith, p.1, c.from_place-v.ensures))
