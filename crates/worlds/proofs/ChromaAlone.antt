-- LUMA OFF, in colour at depth 10: 40x8 with CTB size 32 and chroma 20x4, two CTUs, of which the second is 8 wide, or 4 in chroma. No premise that
-- luma's switch is on, or that a merge has luma to copy, holds here.
use mathlib.Core.Path.{◌≡◌, refl, ap, ◌∙◌}
use mathlib.Core.Bool.{true, false}
use mathlib.Core.List.{List, [], ◌∷◌}
use Prim.Native.Nat.{ℕ, zero, suc}
use lib.IntN.{pos, negsuc}
use lib.ListN.{replicate}
use Rattle.standard.specs.declared.Offsets.TheVariants.{Off, Edge}
use Rattle.standard.specs.declared.CtuSet.{CtuSet}
use Rattle.standard.specs.Sets.{four}
use Rattle.standard.specs.Reasons.{Planes}
use Rattle.standard.proofs.Depths.{alike}
use Rattle.promises.specs.World.{World}
use Rattle.promises.specs.Demands.{after}
use Rattle.promises.specs.Ours.{ours}
use Rattle.worlds.proofs.Small.{deciding}
use Rattle.worlds.proofs.Events.{Setup, in_rows, world_at, lent, delivers, filters, reads, counts, Happen, until, known?}
use Rattle.worlds.proofs.Lives.{Story, start, in_time, events_in, calls_all, events_all, ComputedDue, ComputedLife, Promised, promised, ends}

-- offsets act as coded
abbrev pub tinted : CtuSet
tinted = record { luma = Off; cb = Edge 0 (four (pos 3) (pos 2) (negsuc 0) (negsuc 2)); cr = Edge 0 (four (pos 31) (pos 0) (pos 0) (negsuc 30)) }

-- every row of a component is the same
abbrev pub deblocked_row : ℕ → ℕ → List ℕ
deblocked_row zero y = replicate 40 512
deblocked_row (suc zero) y =
    500 ∷ 300 ∷ 500 ∷ 500 ∷ 600 ∷ 500 ∷ 300 ∷ 500 ∷ 500 ∷ 600 ∷ 500 ∷ 300 ∷ 500 ∷ 500 ∷ 600 ∷ 500 ∷ 300 ∷ 500 ∷ 500 ∷ 600 ∷ []
deblocked_row (suc (suc i)) y =
    5 ∷ 1000 ∷ 5 ∷ 5 ∷ 1023 ∷ 5 ∷ 1000 ∷ 5 ∷ 5 ∷ 1023 ∷ 5 ∷ 1000 ∷ 5 ∷ 5 ∷ 1023 ∷ 5 ∷ 1000 ∷ 5 ∷ 5 ∷ 1023 ∷ []

-- luma is copied
abbrev pub filtered_row : ℕ → ℕ → List ℕ
filtered_row zero y = replicate 40 512
filtered_row (suc zero) y =
    500 ∷ 303 ∷ 499 ∷ 502 ∷ 597 ∷ 500 ∷ 303 ∷ 499 ∷ 502 ∷ 597 ∷ 500 ∷ 303 ∷ 499 ∷ 502 ∷ 597 ∷ 500 ∷ 303 ∷ 499 ∷ 502 ∷ 600 ∷ []
filtered_row (suc (suc i)) y =
    5 ∷ 969 ∷ 5 ∷ 5 ∷ 992 ∷ 36 ∷ 969 ∷ 5 ∷ 5 ∷ 992 ∷ 36 ∷ 969 ∷ 5 ∷ 5 ∷ 992 ∷ 36 ∷ 969 ∷ 5 ∷ 5 ∷ 1023 ∷ []

abbrev pub chroma : Setup
chroma = record {
  picture = record { width = 40; height = 8; ctb = 32; format = 1; depth = alike 10; luma = false; chroma = true };
  sets = tinted ∷ tinted ∷ [];
  deblocked = deblocked_row;
  filtered = filtered_row;
}

abbrev pub story : Story
story = record {
  setup = chroma;
  signalling = reads (251 ∷ 92 ∷ 127 ∷ 255 ∷ 255 ∷ 255 ∷ 63 ∷ 255 ∷ 255 ∷ 255 ∷ 128 ∷ []) 81 ∷ delivers 2 0 ∷ delivers 2 1 ∷ filters 2 0 ∷ [];
  bytes = 128 ∷ [];
  count = 1;
  arriving = delivers 1 1 ∷ delivers 0 0 ∷ delivers 0 1 ∷ filters 0 1 ∷ delivers 1 0 ∷ filters 2 1 ∷ counts 2 4 ∷ [];
  filtered = (2, 0);
  rows = 4;
  unfiltered = (1, 1);
  finishing = filters 1 1 ∷ filters 1 0 ∷ filters 0 0 ∷ counts 0 8 ∷ [];
  -- luma's switch is off
  strange = record { luma = Edge 0 (four (pos 1) (pos 0) (pos 0) (pos 0)); cb = Off; cr = Off };
}

happens : Happen chroma (start story) (events_in story)
unfolding deciding
happens = ((refl, tt), ((refl, tt), ((refl, tt), ((refl, tt), ((refl, tt), ((refl, tt), ((refl, tt), ((refl, tt), ((refl, tt), ((refl, tt), ((refl, tt), ((refl, tt), tt))))))))))))

finishes : Happen chroma (in_time story) story.finishing
unfolding deciding
finishes = ((refl, tt), ((refl, tt), ((refl, tt), ((refl, tt), tt))))

computed_due : ComputedDue story
unfolding deciding
computed_due = record {
  waits = tt;
  waits_with = refl;
  waits_answer = refl;
  read = λ h. h;
  read_answer = refl;
  written = λ h. h;
  written_answer = refl;
  lengths = tt;
  strange = tt;
  strange_answer = refl;
}

computed_life : ComputedLife story
unfolding deciding known?
computed_life = record {
  opens = tt;
  opened = refl;
  happens = happens;
  happens_then = finishes;
  rows_answer = refl;
  sets_in_lem = refl;
  blocks_in = tt;
  filtered_there = tt;
  filtered_then = tt;
  unfiltered_there = tt;
  unfiltered_in = tt;
  unfiltered_then = tt;
  all_filtered = tt;
}

pub promised_chroma : Promised story
promised_chroma = promised story computed_due computed_life

abbrev pub output_chroma : Planes
output_chroma = record { y = in_rows 8 (filtered_row 0); cb = in_rows 4 (filtered_row 1); cr = in_rows 4 (filtered_row 2) }

in_the_end : (world_at chroma (until chroma (start story) (events_all story))).filtered ≡ output_chroma
unfolding deciding
in_the_end = refl

pub chroma_output : (after ours (lent chroma.picture) (calls_all story)).filtered ≡ output_chroma
chroma_output = ap (λ (w : World). w.filtered) (ends story computed_due computed_life) ∙ in_the_end
