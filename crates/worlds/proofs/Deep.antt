-- CTB SIZE 64 at depth 16: 72x8 in monochrome, two CTUs, of which the second is 8 wide. No premise that a depth is below 16, or a CTB size 16 or 32,
-- holds here.
use mathlib.Core.Path.{◌≡◌, refl, ap, ◌∙◌}
use mathlib.Core.Bool.{true, false, cond}
use mathlib.Core.List.{List, [], ◌∷◌, ◌++◌}
use Prim.Native.Nat.{ℕ, zero, suc}
use lib.Dec.{ltb}
use lib.IntN.{pos, negsuc}
use lib.ListN.{replicate}
use Rattle.standard.specs.declared.Offsets.TheVariants.{Band, Edge}
use Rattle.standard.specs.declared.CtuSet.{CtuSet}
use Rattle.standard.specs.Sets.{four}
use Rattle.standard.proofs.Cases.{of_luma}
use Rattle.standard.proofs.Depths.{alike}
use Rattle.promises.specs.World.{World, Filter, Deliver}
use Rattle.promises.specs.Demands.{after}
use Rattle.promises.specs.Ours.{ours}
use Rattle.worlds.proofs.Small.{deciding, luma_only}
use Rattle.worlds.proofs.Events.{Setup, in_rows, world_at, lent, delivers, filters, writes, counts, refuses, Happen, until, known?}
use Rattle.worlds.proofs.Lives.{Story, start, in_time, events_in, calls_all, events_all, ComputedDue, ComputedLife, Promised, promised, ends}

-- offsets act times 64
abbrev pub edged : CtuSet
edged = of_luma (Edge 3 (four (pos 31) (pos 1) (negsuc 0) (negsuc 30)))

abbrev pub banded : CtuSet
banded = of_luma (Band 31 (four (pos 31) (negsuc 30) (pos 0) (pos 0)))

-- eight columns, which come nine times
abbrev pub eight : List ℕ
eight = 64000 ∷ 1000 ∷ 64000 ∷ 64000 ∷ 65500 ∷ 65500 ∷ 40000 ∷ 40000 ∷ []

abbrev pub times : ℕ → List ℕ → List ℕ
times zero row = []
times (suc n) row = row ++ times n row

-- by edges: the first eight of a row, whose first sample has no neighbour, and the next ones
abbrev pub first_edged : List ℕ
first_edged = 64000 ∷ 2984 ∷ 63936 ∷ 64064 ∷ 65436 ∷ 65436 ∷ 40064 ∷ 40064 ∷ []

abbrev pub next_edged : List ℕ
next_edged = 62016 ∷ 2984 ∷ 63936 ∷ 64064 ∷ 65436 ∷ 65436 ∷ 40064 ∷ 40064 ∷ []

-- the first and the last row have no neighbours above or below; and the last eight columns are by bands
abbrev pub filtered_row : ℕ → ℕ → List ℕ
filtered_row i y =
    cond (ltb y 1) (times 8 eight) (cond (ltb y 7) (first_edged ++ times 7 next_edged) (times 8 eight))
    ++ (65535 ∷ 0 ∷ 65535 ∷ 65535 ∷ 65535 ∷ 65535 ∷ 40000 ∷ 40000 ∷ [])

abbrev pub deep : Setup
deep = record {
  picture = record { width = 72; height = 8; ctb = 64; format = 0; depth = alike 16; luma = true; chroma = false };
  sets = edged ∷ banded ∷ [];
  deblocked = λ i y. times 9 eight;
  filtered = filtered_row;
}

abbrev pub story : Story
story = record {
  setup = deep;
  signalling =
      delivers 0 1
      ∷ writes (replicate 9 7) 70 (255 ∷ 255 ∷ 255 ∷ 255 ∷ 215 ∷ 255 ∷ 255 ∷ 255 ∷ 252 ∷ [])
      ∷ refuses (Filter 0 0) 10
      ∷ [];
  bytes = 95 ∷ 255 ∷ 255 ∷ 255 ∷ 255 ∷ 255 ∷ 255 ∷ 255 ∷ 143 ∷ 192 ∷ [];
  count = 74;
  arriving = refuses (Deliver 0 0 (replicate 512 65536)) 8 ∷ delivers 0 0 ∷ counts 0 0 ∷ filters 0 0 ∷ refuses (Filter 0 2) 3 ∷ [];
  filtered = (0, 0);
  rows = 0;
  unfiltered = (0, 1);
  finishing = filters 0 1 ∷ counts 0 8 ∷ [];
  strange = of_luma (Edge 4 (four (pos 0) (pos 0) (pos 0) (pos 0)));
}

happens : Happen deep (start story) (events_in story)
unfolding deciding
happens = ((refl, tt), ((refl, tt), ((refl, tt), ((refl, tt), ((refl, tt), ((refl, tt), ((refl, tt), ((refl, tt), ((refl, tt), tt)))))))))

finishes : Happen deep (in_time story) story.finishing
unfolding deciding
finishes = ((refl, tt), ((refl, tt), tt))

computed_due : ComputedDue story
unfolding deciding
computed_due = record {
  waits = tt;
  waits_with = refl;
  waits_answer = refl;
  read = λ h. h;
  read_answer = refl;
  written = λ h. h;
  written_answer = refl;
  lengths = tt;
  strange = tt;
  strange_answer = refl;
}

computed_life : ComputedLife story
unfolding deciding known?
computed_life = record {
  opens = tt;
  opened = refl;
  happens = happens;
  happens_then = finishes;
  rows_answer = refl;
  sets_in_lem = refl;
  blocks_in = tt;
  filtered_there = tt;
  filtered_then = tt;
  unfiltered_there = tt;
  unfiltered_in = tt;
  unfiltered_then = tt;
  all_filtered = tt;
}

pub promised_deep : Promised story
promised_deep = promised story computed_due computed_life

in_the_end : (world_at deep (until deep (start story) (events_all story))).filtered ≡ luma_only (in_rows 8 (filtered_row 0))
unfolding deciding
in_the_end = refl

pub deep_output : (after ours (lent deep.picture) (calls_all story)).filtered ≡ luma_only (in_rows 8 (filtered_row 0))
deep_output = ap (λ (w : World). w.filtered) (ends story computed_due computed_life) ∙ in_the_end
