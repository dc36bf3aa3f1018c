-- COLOUR AT FULL HEIGHT: 24x24 with CTB size 16, once in 4:2:2, where chroma is 12x24 and its CTBs are 8x16, 4x16, 8x8 and 4x8, and once in 4:4:4,
-- where all three components are alike. No premise that chroma has half of luma's rows, or half of its columns, holds here. The first row of chroma
-- CTBs ends with row 16 in both, and the same calls are told of both.
use mathlib.Core.Path.{◌≡◌, refl, ap, ◌∙◌}
use mathlib.Core.Bool.{true, cond}
use mathlib.Core.List.{List, [], ◌∷◌, ◌++◌}
use Prim.Native.Nat.{ℕ, zero, suc, ◌+◌, ◌/◌}
use lib.Dec.{ltb}
use lib.IntN.{pos, negsuc}
use lib.ListN.{get_or, replicate}
use Rattle.standard.specs.declared.Offsets.TheVariants.{Off, Band, Edge}
use Rattle.standard.specs.declared.CtuSet.{CtuSet}
use Rattle.standard.specs.Sets.{four}
use Rattle.standard.specs.Reasons.{Planes}
use Rattle.standard.proofs.Depths.{alike}
use Rattle.promises.specs.World.{World, Deliver, Filter}
use Rattle.promises.specs.Demands.{after}
use Rattle.promises.specs.Ours.{ours}
use Rattle.worlds.proofs.Small.{deciding}
use Rattle.worlds.proofs.Events.{Setup, in_rows, world_at, lent, delivers, filters, reads, writes, counts, refuses, Happen, until, known?}
use Rattle.worlds.proofs.Lives.{Story, start, in_time, events_in, calls_all, events_all, ComputedDue, ComputedLife, Promised, promised, ends}

abbrev pub edged : CtuSet
edged = record { luma = Off; cb = Edge 1 (four (pos 2) (pos 1) (negsuc 0) (negsuc 1)); cr = Edge 1 (four (pos 7) (pos 0) (pos 0) (negsuc 6)) }

abbrev pub banded : CtuSet
banded = record { luma = Off; cb = Band 31 (four (pos 7) (negsuc 6) (pos 0) (pos 0)); cr = Band 30 (four (pos 0) (negsuc 0) (pos 0) (pos 0)) }

-- a column of Cb and of Cr: eight samples, three times
abbrev thrice : List ℕ → List ℕ
thrice part = part ++ (part ++ part)

abbrev pub cb_column : List ℕ
cb_column = thrice (250 ∷ 6 ∷ 250 ∷ 250 ∷ 125 ∷ 125 ∷ 6 ∷ 6 ∷ [])

abbrev pub cr_column : List ℕ
cr_column = thrice (255 ∷ 250 ∷ 255 ∷ 255 ∷ 250 ∷ 250 ∷ 3 ∷ 3 ∷ [])

-- and the same by edges
abbrev pub cb_edged : List ℕ
cb_edged = 250 ∷ 8 ∷ 249 ∷ 249 ∷ 126 ∷ 124 ∷ 7 ∷ 7 ∷ 248 ∷ 8 ∷ 249 ∷ 249 ∷ 126 ∷ 124 ∷ 7 ∷ 7 ∷ 248 ∷ 8 ∷ 249 ∷ 249 ∷ 126 ∷ 124 ∷ 7 ∷ 6 ∷ []

abbrev pub cr_edged : List ℕ
cr_edged = 255 ∷ 255 ∷ 255 ∷ 255 ∷ 250 ∷ 250 ∷ 3 ∷ 3 ∷ 248 ∷ 255 ∷ 255 ∷ 255 ∷ 250 ∷ 250 ∷ 3 ∷ 3 ∷ 248 ∷ 255 ∷ 255 ∷ 255 ∷ 250 ∷ 250 ∷ 3 ∷ 3 ∷ []

-- and by bands
abbrev pub cb_banded : List ℕ
cb_banded = thrice (255 ∷ 0 ∷ 255 ∷ 255 ∷ 125 ∷ 125 ∷ 0 ∷ 0 ∷ [])

abbrev pub cr_banded : List ℕ
cr_banded = thrice (254 ∷ 249 ∷ 254 ∷ 254 ∷ 249 ∷ 249 ∷ 3 ∷ 3 ∷ [])

-- w is the width of a whole chroma CTB; the second column of CTBs is cut to half of it. A row of any component is one sample all along
abbrev pub deblocked_row : ℕ → ℕ → ℕ → List ℕ
deblocked_row w zero y = replicate 24 100
deblocked_row w (suc zero) y = replicate (w + w / 2) (get_or cb_column y 0)
deblocked_row w (suc (suc i)) y = replicate (w + w / 2) (get_or cr_column y 0)

-- the CTB of the first column and second row goes by bands
abbrev pub parted_row : ℕ → ℕ → List ℕ → List ℕ → List ℕ
parted_row w y edges bands = replicate w (cond (ltb y 16) (get_or edges y 0) (get_or bands y 0)) ++ replicate (w / 2) (get_or edges y 0)

abbrev pub filtered_row : ℕ → ℕ → ℕ → List ℕ
filtered_row w zero y = replicate 24 100
filtered_row w (suc zero) y = parted_row w y cb_edged cb_banded
filtered_row w (suc (suc i)) y = parted_row w y cr_edged cr_banded

-- by the format, and how wide it makes a whole chroma CTB
abbrev pub wide : ℕ → ℕ → Setup
wide format w = record {
  picture = record { width = 24; height = 24; ctb = 16; format = format; depth = alike 8; luma = true; chroma = true };
  sets = edged ∷ edged ∷ banded ∷ edged ∷ [];
  deblocked = deblocked_row w;
  filtered = filtered_row w;
}

abbrev pub story : ℕ → ℕ → Story
story format w = record {
  setup = wide format w;
  -- a block of 8x8, as 4:2:0 would have it, is refused, and so are filters until their sets and neighbours are in
  signalling =
      refuses (Deliver 1 0 (replicate 64 0)) 2
      ∷ delivers 1 0
      ∷ delivers 1 1
      ∷ writes (replicate 5 9) 31 (122 ∷ 179 ∷ 252 ∷ 254 ∷ 9 ∷ [])
      ∷ refuses (Filter 1 0) 10
      ∷ reads (128 ∷ []) 1
      ∷ reads (47 ∷ 255 ∷ 199 ∷ 232 ∷ 248 ∷ []) 38
      ∷ delivers 1 3
      ∷ delivers 1 2
      ∷ filters 1 0
      ∷ filters 1 1
      ∷ [];
  -- the last by a merge upwards
  bytes = 64 ∷ [];
  count = 2;
  -- the first row of CTBs is filtered: as many rows of Cb are finished as of luma would be
  arriving =
      counts 1 16
      ∷ delivers 2 0
      ∷ delivers 2 1
      ∷ delivers 2 2
      ∷ delivers 2 3
      ∷ delivers 0 0
      ∷ delivers 0 1
      ∷ delivers 0 2
      ∷ delivers 0 3
      ∷ [];
  filtered = (1, 1);
  rows = 16;
  unfiltered = (2, 3);
  finishing =
      filters 1 3
      ∷ filters 1 2
      ∷ counts 1 24
      ∷ filters 2 3
      ∷ filters 2 2
      ∷ filters 2 1
      ∷ filters 2 0
      ∷ counts 2 24
      ∷ filters 0 0
      ∷ filters 0 1
      ∷ filters 0 2
      ∷ filters 0 3
      ∷ refuses (Filter 1 3) 11
      ∷ [];
  strange = record { luma = Off; cb = Band 0 (four (pos 8) (pos 0) (pos 0) (pos 0)); cr = Off };
}

-- the output, component by component
abbrev pub output_wide : ℕ → Planes
output_wide w = record { y = in_rows 24 (filtered_row w 0); cb = in_rows 24 (filtered_row w 1); cr = in_rows 24 (filtered_row w 2) }

-- ---- 4:2:2

happens_422 : Happen (wide 2 8) (start (story 2 8)) (events_in (story 2 8))
unfolding deciding
happens_422 = ((refl, tt), ((refl, tt), ((refl, tt), ((refl, tt), ((refl, tt), ((refl, tt), ((refl, tt), ((refl, tt), ((refl, tt), ((refl, tt), ((refl, tt), ((refl, tt), ((refl, tt), ((refl, tt), ((refl, tt), ((refl, tt), ((refl, tt), ((refl, tt), ((refl, tt), ((refl, tt), ((refl, tt), tt)))))))))))))))))))))

finishes_422 : Happen (wide 2 8) (in_time (story 2 8)) (story 2 8).finishing
unfolding deciding
finishes_422 = ((refl, tt), ((refl, tt), ((refl, tt), ((refl, tt), ((refl, tt), ((refl, tt), ((refl, tt), ((refl, tt), ((refl, tt), ((refl, tt), ((refl, tt), ((refl, tt), ((refl, tt), tt)))))))))))))

computed_due_422 : ComputedDue (story 2 8)
unfolding deciding
computed_due_422 = record {
  waits = tt;
  waits_with = refl;
  waits_answer = refl;
  read = λ h. h;
  read_answer = refl;
  written = λ h. h;
  written_answer = refl;
  lengths = tt;
  strange = tt;
  strange_answer = refl;
}

computed_life_422 : ComputedLife (story 2 8)
unfolding deciding known?
computed_life_422 = record {
  opens = tt;
  opened = refl;
  happens = happens_422;
  happens_then = finishes_422;
  rows_answer = refl;
  sets_in_lem = refl;
  blocks_in = tt;
  filtered_there = tt;
  filtered_then = tt;
  unfiltered_there = tt;
  unfiltered_in = tt;
  unfiltered_then = tt;
  all_filtered = tt;
}

pub promised_422 : Promised (story 2 8)
promised_422 = promised (story 2 8) computed_due_422 computed_life_422

in_the_end_422 : (world_at (wide 2 8) (until (wide 2 8) (start (story 2 8)) (events_all (story 2 8)))).filtered ≡ output_wide 8
unfolding deciding
in_the_end_422 = refl

pub output_422 : (after ours (lent (wide 2 8).picture) (calls_all (story 2 8))).filtered ≡ output_wide 8
output_422 = ap (λ (w : World). w.filtered) (ends (story 2 8) computed_due_422 computed_life_422) ∙ in_the_end_422

-- ---- 4:4:4

happens_444 : Happen (wide 3 16) (start (story 3 16)) (events_in (story 3 16))
unfolding deciding
happens_444 = ((refl, tt), ((refl, tt), ((refl, tt), ((refl, tt), ((refl, tt), ((refl, tt), ((refl, tt), ((refl, tt), ((refl, tt), ((refl, tt), ((refl, tt), ((refl, tt), ((refl, tt), ((refl, tt), ((refl, tt), ((refl, tt), ((refl, tt), ((refl, tt), ((refl, tt), ((refl, tt), ((refl, tt), tt)))))))))))))))))))))

finishes_444 : Happen (wide 3 16) (in_time (story 3 16)) (story 3 16).finishing
unfolding deciding
finishes_444 = ((refl, tt), ((refl, tt), ((refl, tt), ((refl, tt), ((refl, tt), ((refl, tt), ((refl, tt), ((refl, tt), ((refl, tt), ((refl, tt), ((refl, tt), ((refl, tt), ((refl, tt), tt)))))))))))))

computed_due_444 : ComputedDue (story 3 16)
unfolding deciding
computed_due_444 = record {
  waits = tt;
  waits_with = refl;
  waits_answer = refl;
  read = λ h. h;
  read_answer = refl;
  written = λ h. h;
  written_answer = refl;
  lengths = tt;
  strange = tt;
  strange_answer = refl;
}

computed_life_444 : ComputedLife (story 3 16)
unfolding deciding known?
computed_life_444 = record {
  opens = tt;
  opened = refl;
  happens = happens_444;
  happens_then = finishes_444;
  rows_answer = refl;
  sets_in_lem = refl;
  blocks_in = tt;
  filtered_there = tt;
  filtered_then = tt;
  unfiltered_there = tt;
  unfiltered_in = tt;
  unfiltered_then = tt;
  all_filtered = tt;
}

pub promised_444 : Promised (story 3 16)
promised_444 = promised (story 3 16) computed_due_444 computed_life_444

in_the_end_444 : (world_at (wide 3 16) (until (wide 3 16) (start (story 3 16)) (events_all (story 3 16)))).filtered ≡ output_wide 16
unfolding deciding
in_the_end_444 = refl

pub output_444 : (after ours (lent (wide 3 16).picture) (calls_all (story 3 16))).filtered ≡ output_wide 16
output_444 = ap (λ (w : World). w.filtered) (ends (story 3 16) computed_due_444 computed_life_444) ∙ in_the_end_444
