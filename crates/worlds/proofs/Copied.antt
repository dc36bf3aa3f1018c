-- BOTH SWITCHES OFF, in colour at depth 9: 8x8 with CTB size 64, one CTU, which has no bins. No premise that a switch is on, or that a CTU has bins,
-- holds here.
use mathlib.Core.Path.{◌≡◌, refl, ap, ◌∙◌}
use mathlib.Core.Bool.{false, cond}
use mathlib.Core.List.{[], ◌∷◌}
use lib.Dec.{ltb}
use lib.IntN.{pos}
use lib.ListN.{replicate}
use Rattle.standard.specs.declared.Offsets.TheVariants.{Band}
use Rattle.standard.specs.Sets.{four, all_off}
use Rattle.standard.proofs.Cases.{of_luma}
use Rattle.standard.proofs.Depths.{alike}
use Rattle.promises.specs.World.{World}
use Rattle.promises.specs.Demands.{after}
use Rattle.promises.specs.Ours.{ours}
use Rattle.worlds.proofs.Small.{deciding}
use Rattle.worlds.proofs.Events.{Setup, world_at, lent, delivers, filters, counts, Happen, until, known?}
use Rattle.worlds.proofs.Lives.{Story, start, in_time, events_in, calls_all, events_all, ComputedDue, ComputedLife, Promised, promised, ends}

abbrev pub copied : Setup
copied = record {
  picture = record { width = 8; height = 8; ctb = 64; format = 1; depth = alike 9; luma = false; chroma = false };
  sets = all_off ∷ [];
  deblocked = λ i y. cond (ltb i 1) (replicate 8 511) (replicate 4 300);
  filtered = λ i y. cond (ltb i 1) (replicate 8 511) (replicate 4 300);
}

abbrev pub story : Story
story = record {
  setup = copied;
  signalling = delivers 0 0 ∷ [];
  bytes = [];
  count = 0;
  arriving = delivers 2 0 ∷ filters 0 0 ∷ delivers 1 0 ∷ filters 2 0 ∷ [];
  filtered = (0, 0);
  rows = 8;
  unfiltered = (1, 0);
  finishing = filters 1 0 ∷ counts 1 4 ∷ [];
  strange = of_luma (Band 0 (four (pos 0) (pos 0) (pos 0) (pos 0)));
}

happens : Happen copied (start story) (events_in story)
unfolding deciding
happens = ((refl, tt), ((refl, tt), ((refl, tt), ((refl, tt), ((refl, tt), ((refl, tt), tt))))))

finishes : Happen copied (in_time story) story.finishing
unfolding deciding
finishes = ((refl, tt), ((refl, tt), tt))

computed_due : ComputedDue story
unfolding deciding
computed_due = record {
  waits = tt;
  waits_with = refl;
  waits_answer = refl;
  read = λ h. h;
  read_answer = refl;
  written = λ h. h;
  written_answer = refl;
  lengths = tt;
  strange = tt;
  strange_answer = refl;
}

computed_life : ComputedLife story
unfolding deciding known?
computed_life = record {
  opens = tt;
  opened = refl;
  happens = happens;
  happens_then = finishes;
  rows_answer = refl;
  sets_in_lem = refl;
  blocks_in = tt;
  filtered_there = tt;
  filtered_then = tt;
  unfiltered_there = tt;
  unfiltered_in = tt;
  unfiltered_then = tt;
  all_filtered = tt;
}

pub promised_copied : Promised story
promised_copied = promised story computed_due computed_life

in_the_end : (world_at copied (until copied (start story) (events_all story))).filtered ≡ record { y = replicate 64 511; cb = replicate 16 300; cr = replicate 16 300 }
unfolding deciding
in_the_end = refl

pub copied_output : (after ours (lent copied.picture) (calls_all story)).filtered ≡ record { y = replicate 64 511; cb = replicate 16 300; cr = replicate 16 300 }
copied_output = ap (λ (w : World). w.filtered) (ends story computed_due computed_life) ∙ in_the_end
