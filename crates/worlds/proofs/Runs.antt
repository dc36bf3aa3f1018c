-- The executable stage computes: a picture of one CTU, from its opening to its finished rows.
use mathlib.Core.Path.{◌≡◌, refl}
use mathlib.Core.Bool.{true, false}
use mathlib.Core.List.{List, [], ◌∷◌, ◌++◌}
use Prim.Native.Nat.{ℕ}
use lib.IntN.{pos, negsuc}
use lib.ListN.{replicate}
use Rattle.standard.specs.declared.CtuSet.{CtuSet}
use Rattle.standard.specs.declared.Offsets.TheVariants.{Off, Edge}
use Rattle.standard.specs.Sets.{four}
use Rattle.standard.specs.Table.{entry_size}
use Rattle.standard.proofs.Computing.{definitions}
use Rattle.standard.proofs.Depths.{alike}
use Rattle.promises.specs.World.{World, Open, Read, Write, Deliver, Filter, Rows, refused, done, set_read, rows}
use Rattle.promises.specs.Demands.{run}
use Rattle.promises.specs.Ours.{ours, act}

-- monochrome, 8 by 8, depth 8, luma on; as it is lent, with nothing in it right but its lengths
abbrev lent : World
lent = record {
  state = record { picture = record { width = 8; height = 8; ctb = 16; format = 0; depth = alike 8; luma = true; chroma = false }; next = 7 };
  deblocked = record { y = replicate 64 9; cb = []; cr = [] };
  filtered = record { y = replicate 64 9; cb = []; cr = [] };
  marks = 3 ∷ [];
  table = replicate entry_size 5;
}

-- document 01's case 3: edge, class 2, offsets 1, 0, 0, -2
abbrev edge : CtuSet
edge = record { luma = Edge 2 (four (pos 1) (pos 0) (pos 0) (negsuc 1)); cb = Off; cr = Off }

-- a block of zeros but for one sample in its middle
abbrev block : ℕ → List ℕ
block s = replicate 27 0 ++ (s ∷ replicate 36 0)

-- before the opening neither state nor marks are sound
pub unsound : (ours (Rows 0) lent).answer ≡ refused 14
unfolding ours act definitions
unsound = refl

abbrev opened : World
opened = (ours Open lent).world

pub opens : (ours Open lent).answer ≡ done
unfolding ours act definitions
opens = refl

-- one bin is missing; none is; and they are written as they were read
pub early : (ours (Read (227 ∷ 64 ∷ []) 10) opened).answer ≡ refused 5
unfolding ours act definitions
early = refl

pub reads : (ours (Read (227 ∷ 64 ∷ []) 11) opened).answer ≡ set_read edge
unfolding ours act definitions
reads = refl

pub writes : (ours (Write edge (85 ∷ 85 ∷ 85 ∷ [])) opened).out ≡ 227 ∷ 64 ∷ 85 ∷ []
unfolding ours act definitions
writes = refl

-- the sample in the middle is a local maximum
pub finishes : (ours (Rows 0) (run ours (Open ∷ Read (227 ∷ 64 ∷ []) 11 ∷ Deliver 0 0 (block 5) ∷ Filter 0 0 ∷ []) lent)).answer ≡ rows 8 (block 3)
unfolding ours act definitions
finishes = refl
