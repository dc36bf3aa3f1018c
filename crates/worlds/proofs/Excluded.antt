-- None of the wrong stages meets the contract, since a stage that does meets the demands.
use mathlib.Core.List.{[], ◌∷◌}
use Rattle.promises.specs.World.{World, Call, Stage}
use Rattle.promises.specs.Contract.{Contract}
use Rattle.worlds.specs.Wrong.{refuses_everything, reads_as_off, only_marks, never_writes, first_block_only, invented_count, invented_rows, trusts_the_count, reads_past_the_count, filters_in_place, waits_for_own_only, every_format_is420, chroma_in_lumas_depth}
use Rattle.promises.proofs.First.{first}
use Rattle.promises.proofs.Second.{second}
use Rattle.promises.proofs.Third.{third}
use Rattle.worlds.proofs.Refuted.{refuses_everything_refuted, reads_as_off_refuted, only_marks_refuted, never_writes_refuted, first_block_only_refuted, invented_count_refuted, invented_rows_refuted, trusts_the_count_refuted, reads_past_the_count_refuted, filters_in_place_refuted, waits_for_own_only_refuted, every_format_is_420_refuted, chroma_in_lumas_depth_refuted}

abbrev pub Meets : Stage → Type 0
Meets stage = (c : Call) (w : World) → Contract c w (stage c w)

pub record Excluded : Type 0 where
  pub refuses_everything_refuted : ¬ Meets refuses_everything
  pub reads_as_off_refuted : ¬ Meets reads_as_off
  pub only_marks_refuted : ¬ Meets only_marks
  pub never_writes_refuted : ¬ Meets never_writes
  pub first_block_only_refuted : ¬ Meets first_block_only
  pub invented_count_refuted : ¬ Meets invented_count
  pub invented_rows_refuted : ¬ Meets invented_rows
  pub trusts_the_count_refuted : ¬ Meets (trusts_the_count (175 ∷ 0 ∷ []))
  pub reads_past_the_count_refuted : ¬ Meets reads_past_the_count
  pub filters_in_place_refuted : ¬ Meets filters_in_place
  pub waits_for_own_only_refuted : ¬ Meets waits_for_own_only
  pub every_format_is_420_refuted : ¬ Meets every_format_is420
  pub chroma_in_lumas_depth_refuted : ¬ Meets chroma_in_lumas_depth

pub excluded : Excluded
excluded = record {
  refuses_everything_refuted = λ m. refuses_everything_refuted (second refuses_everything m);
  reads_as_off_refuted = λ m. reads_as_off_refuted (second reads_as_off m);
  only_marks_refuted = λ m. only_marks_refuted (second only_marks m);
  never_writes_refuted = λ m. never_writes_refuted (second never_writes m);
  first_block_only_refuted = λ m. first_block_only_refuted (third first_block_only m);
  invented_count_refuted = λ m. invented_count_refuted (second invented_count m);
  invented_rows_refuted = λ m. invented_rows_refuted (second invented_rows m);
  trusts_the_count_refuted = λ m. trusts_the_count_refuted (first (trusts_the_count (175 ∷ 0 ∷ [])) m);
  reads_past_the_count_refuted = λ m. reads_past_the_count_refuted (first reads_past_the_count m);
  filters_in_place_refuted = λ m. filters_in_place_refuted (second filters_in_place m);
  waits_for_own_only_refuted = λ m. waits_for_own_only_refuted (first waits_for_own_only m);
  every_format_is_420_refuted = λ m. every_format_is_420_refuted (first every_format_is420 m);
  chroma_in_lumas_depth_refuted = λ m. chroma_in_lumas_depth_refuted (second chroma_in_lumas_depth m);
}
