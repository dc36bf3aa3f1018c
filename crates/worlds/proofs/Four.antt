-- FOUR CTUs in two rows, with luma at depth 12 and chroma at depth 8: 24x24 with CTB size 16 and chroma 12x12, so that the second column is 8 wide
-- and the second row 8 high, or 4 in chroma; both switches are on. No premise that a picture has two CTUs at most, or one row or one column of them,
-- or whole CTBs, or no chroma, or one depth for luma and chroma, or that a read is of CTU 0, holds here.
use mathlib.Core.Path.{◌≡◌, refl, ap, ◌∙◌}
use mathlib.Core.Bool.{true, cond}
use mathlib.Core.List.{List, [], ◌∷◌, ◌++◌}
use Prim.Native.Nat.{ℕ, zero, suc}
use lib.Dec.{ltb}
use lib.IntN.{pos, negsuc}
use lib.ListN.{get_or, drop, replicate}
use Rattle.standard.specs.declared.Offsets.TheVariants.{Off, Band, Edge}
use Rattle.standard.specs.declared.CtuSet.{CtuSet}
use Rattle.standard.specs.Sets.{four as offsets}
use Rattle.standard.specs.Reasons.{Planes}
use Rattle.standard.proofs.Depths.{depths}
use Rattle.promises.specs.World.{World, Deliver, Filter, Rows}
use Rattle.promises.specs.Demands.{after}
use Rattle.promises.specs.Ours.{ours}
use Rattle.worlds.proofs.Small.{deciding}
use Rattle.worlds.proofs.Events.{Setup, in_rows, world_at, lent, delivers, filters, reads, writes, counts, refuses, Happen, until, happen_on, known?}
use Rattle.worlds.proofs.Lives.{Story, start, due_time, in_time, calls_all, events_all, ComputedDue, ComputedLife, Promised, promised, ends}

-- luma's offsets act times 4, and chroma's as coded
abbrev pub edged : CtuSet
edged = record {
  luma = Edge 2 (offsets (pos 2) (pos 1) (negsuc 0) (negsuc 1));
  cb = Edge 1 (offsets (pos 2) (pos 1) (negsuc 0) (negsuc 1));
  cr = Edge 1 (offsets (pos 7) (pos 0) (pos 0) (negsuc 6));
}

abbrev pub banded : CtuSet
banded = record {
  luma = Band 3 (offsets (pos 1) (negsuc 1) (pos 0) (pos 0));
  cb = Band 31 (offsets (pos 7) (negsuc 6) (pos 0) (pos 0));
  cr = Band 31 (offsets (pos 0) (negsuc 0) (pos 0) (pos 0));
}

-- a row of luma: case 7's a hundredfold, three times; and a column of Cb and of Cr
abbrev pub eight : List ℕ
eight = 500 ∷ 300 ∷ 500 ∷ 500 ∷ 600 ∷ 600 ∷ 400 ∷ 400 ∷ []

abbrev pub luma_row : List ℕ
luma_row = eight ++ (eight ++ eight)

abbrev pub cb_column : List ℕ
cb_column = 250 ∷ 6 ∷ 250 ∷ 250 ∷ 125 ∷ 125 ∷ 6 ∷ 6 ∷ 250 ∷ 6 ∷ 250 ∷ 250 ∷ []

abbrev pub cr_column : List ℕ
cr_column = 252 ∷ 250 ∷ 252 ∷ 252 ∷ 255 ∷ 255 ∷ 3 ∷ 3 ∷ 250 ∷ 3 ∷ 250 ∷ 250 ∷ []

-- each row of luma is the same, and a row of chroma is one sample all along
abbrev pub deblocked_row : ℕ → ℕ → List ℕ
deblocked_row zero y = luma_row
deblocked_row (suc zero) y = replicate 12 (get_or cb_column y 0)
deblocked_row (suc (suc i)) y = replicate 12 (get_or cr_column y 0)

-- a row of luma by edges, and its first sixteen samples by bands
abbrev pub edged_row : List ℕ
edged_row = 500 ∷ 308 ∷ 496 ∷ 504 ∷ 596 ∷ 596 ∷ 404 ∷ 404 ∷ 492 ∷ 308 ∷ 496 ∷ 504 ∷ 596 ∷ 596 ∷ 404 ∷ 404 ∷ 492 ∷ 308 ∷ 496 ∷ 504 ∷ 596 ∷ 596 ∷ 404 ∷ 400 ∷ []

abbrev pub banded_part : List ℕ
banded_part = 504 ∷ 300 ∷ 504 ∷ 504 ∷ 592 ∷ 592 ∷ 404 ∷ 404 ∷ 504 ∷ 300 ∷ 504 ∷ 504 ∷ 592 ∷ 592 ∷ 404 ∷ 404 ∷ []

-- luma's first and last row have no neighbours above or below
abbrev pub by_edges : ℕ → List ℕ
by_edges y = cond (ltb y 1) luma_row (cond (ltb y 23) edged_row luma_row)

-- the first columns of chroma end in four samples by bands
abbrev pub filtered_row : ℕ → ℕ → List ℕ
filtered_row zero y = cond (ltb y 16) (by_edges y) (banded_part ++ drop 16 (by_edges y))
filtered_row (suc zero) y =
    replicate 8 (get_or (250 ∷ 8 ∷ 249 ∷ 249 ∷ 126 ∷ 124 ∷ 7 ∷ 7 ∷ 255 ∷ 0 ∷ 255 ∷ 255 ∷ []) y 0)
    ++ replicate 4 (get_or (250 ∷ 8 ∷ 249 ∷ 249 ∷ 126 ∷ 124 ∷ 7 ∷ 7 ∷ 248 ∷ 8 ∷ 249 ∷ 250 ∷ []) y 0)
filtered_row (suc (suc i)) y =
    replicate 8 (get_or (252 ∷ 255 ∷ 252 ∷ 252 ∷ 255 ∷ 255 ∷ 3 ∷ 3 ∷ 250 ∷ 2 ∷ 250 ∷ 250 ∷ []) y 0)
    ++ replicate 4 (get_or (252 ∷ 255 ∷ 252 ∷ 252 ∷ 255 ∷ 255 ∷ 3 ∷ 3 ∷ 243 ∷ 10 ∷ 250 ∷ 250 ∷ []) y 0)

abbrev pub four : Setup
four = record {
  picture = record { width = 24; height = 24; ctb = 16; format = 1; depth = depths 12 8; luma = true; chroma = true };
  sets = edged ∷ edged ∷ banded ∷ edged ∷ [];
  deblocked = deblocked_row;
  filtered = filtered_row;
}

abbrev pub story : Story
story = record {
  setup = four;
  -- the sets in full by a write, by a merge to the left, and in full by a read; filters are refused until their sets and neighbours are in
  signalling =
      delivers 0 3
      ∷ refuses (Filter 0 0) 10
      ∷ writes (replicate 7 9) 44 (245 ∷ 107 ∷ 213 ∷ 159 ∷ 231 ∷ 240 ∷ 9 ∷ [])
      ∷ reads (128 ∷ []) 1
      ∷ delivers 0 0
      ∷ delivers 0 1
      ∷ refuses (Filter 0 1) 10
      ∷ reads (86 ∷ 17 ∷ 223 ∷ 255 ∷ 143 ∷ 209 ∷ 248 ∷ []) 53
      ∷ counts 0 0
      ∷ delivers 0 2
      ∷ filters 0 0
      ∷ filters 0 1
      ∷ refuses (Filter 0 3) 10
      ∷ [];
  -- the last by a merge upwards
  bytes = 64 ∷ [];
  count = 2;
  arriving =
      counts 0 16
      ∷ delivers 2 3
      ∷ delivers 1 0
      ∷ delivers 1 1
      ∷ delivers 1 2
      ∷ refuses (Filter 1 0) 10
      ∷ delivers 1 3
      ∷ refuses (Deliver 2 1 (replicate 32 256)) 8
      ∷ delivers 2 1
      ∷ delivers 2 2
      ∷ delivers 2 0
      ∷ refuses (Rows 3) 3
      ∷ [];
  filtered = (0, 1);
  rows = 16;
  unfiltered = (2, 3);
  finishing =
      filters 0 3
      ∷ filters 0 2
      ∷ counts 0 24
      ∷ filters 2 3
      ∷ filters 2 2
      ∷ counts 2 0
      ∷ filters 2 1
      ∷ filters 2 0
      ∷ filters 1 0
      ∷ filters 1 1
      ∷ counts 1 8
      ∷ filters 1 2
      ∷ filters 1 3
      ∷ refuses (Filter 1 3) 11
      ∷ counts 1 12
      ∷ [];
  -- a magnitude that is within luma's depth and beyond chroma's
  strange = record { luma = Off; cb = Band 0 (offsets (pos 8) (pos 0) (pos 0) (pos 0)); cr = Band 0 (offsets (pos 0) (pos 0) (pos 0) (pos 0)) };
}

computed_due : ComputedDue story
unfolding deciding
computed_due = record {
  waits = tt;
  waits_with = refl;
  waits_answer = refl;
  read = λ h. h;
  read_answer = refl;
  written = λ h. h;
  written_answer = refl;
  lengths = tt;
  strange = tt;
  strange_answer = refl;
}

signals : Happen four (start story) story.signalling
unfolding deciding
signals = ((refl, tt), ((refl, tt), ((refl, tt), ((refl, tt), ((refl, tt), ((refl, tt), ((refl, tt), ((refl, tt), ((refl, tt), ((refl, tt), ((refl, tt), ((refl, tt), ((refl, tt), tt)))))))))))))

arrives : Happen four (due_time story) (reads (64 ∷ []) 2 ∷ story.arriving)
unfolding deciding
arrives = ((refl, tt), ((refl, tt), ((refl, tt), ((refl, tt), ((refl, tt), ((refl, tt), ((refl, tt), ((refl, tt), ((refl, tt), ((refl, tt), ((refl, tt), ((refl, tt), ((refl, tt), tt)))))))))))))

finishes : Happen four (in_time story) story.finishing
unfolding deciding
finishes = ((refl, tt), ((refl, tt), ((refl, tt), ((refl, tt), ((refl, tt), ((refl, tt), ((refl, tt), ((refl, tt), ((refl, tt), ((refl, tt), ((refl, tt), ((refl, tt), ((refl, tt), ((refl, tt), ((refl, tt), tt)))))))))))))))

computed_life : ComputedLife story
unfolding deciding known?
computed_life = record {
  opens = tt;
  opened = refl;
  happens = happen_on four (start story) story.signalling (reads (64 ∷ []) 2 ∷ story.arriving) signals arrives;
  happens_then = finishes;
  rows_answer = refl;
  sets_in_lem = refl;
  blocks_in = tt;
  filtered_there = tt;
  filtered_then = tt;
  unfiltered_there = tt;
  unfiltered_in = tt;
  unfiltered_then = tt;
  all_filtered = tt;
}

pub promised_four : Promised story
promised_four = promised story computed_due computed_life

-- the output, component by component
abbrev pub output_four : Planes
output_four = record { y = in_rows 24 (filtered_row 0); cb = in_rows 12 (filtered_row 1); cr = in_rows 12 (filtered_row 2) }

in_the_end : (world_at four (until four (start story) (events_all story))).filtered ≡ output_four
unfolding deciding
in_the_end = refl

pub four_output : (after ours (lent four.picture) (calls_all story)).filtered ≡ output_four
four_output = ap (λ (w : World). w.filtered) (ends story computed_due computed_life) ∙ in_the_end
