-- Stages that look right and are not, each the stage with one thing wrong: those that document 01 names ("How tight the promises are"), the
-- three versions that document 00 tells of, and wrong readings of document 02.
use Rattle.std.specs.Prelude.{cond, List, [], ◌++◌, map, ℕ, zero, suc, ◌*◌, ◌/◌, ◌%◌, min, max, ltb, set}
use Rattle.std.proofs.Math.Decide.{ℕ_discrete}
use Rattle.standard.specs.declared.Picture.{Picture}
use Rattle.standard.specs.declared.CtuSet.{CtuSet}
use Rattle.standard.specs.Picture.{plane_width, plane_height, rectangle}
use Rattle.standard.specs.Sets.{switches_of, all_off}
use Rattle.standard.specs.Bins.{bits_of}
use Rattle.standard.specs.Samples.{Parameters, at, filtered_sample}
use Rattle.standard.specs.Table.{parameters_in}
use Rattle.standard.specs.Reasons.{plane_of, mark_of, left_set, upper_set}
use Rattle.standard.proofs.Codes.{Got, got, short}
use Rattle.standard.proofs.Depths.{alike}
use Rattle.standard.proofs.Formats.{in_format}
use Rattle.standard.proofs.Judging.{rules?}
use Rattle.standard.proofs.Rasters.{inside?}
use Rattle.standard.proofs.Reader.{read_ctu}
use Rattle.standard.proofs.TwoDepths.{in_depths}
use Rattle.promises.specs.World.{World, picture_of, Open, Read, Write, Deliver, Filter, Rows, Answer, refused, done, set_read, bins_written, rows, Result, Stage}
use Rattle.promises.specs.Contract.{appended, with_filtered, unchanged}
use Rattle.promises.specs.Ours.{choose, with_plane, painted_in, ours}

-- ---- how they differ from the stage

-- in what is read
abbrev pub reading_by : (List ℕ → ℕ → World → Result) → Stage
reading_by f Open w = ours Open w
reading_by f (Read bytes count) w = f bytes count w
reading_by f (Write q out) w = ours (Write q out) w
reading_by f (Deliver i k samples) w = ours (Deliver i k samples) w
reading_by f (Filter i k) w = ours (Filter i k) w
reading_by f (Rows i) w = ours (Rows i) w

-- in how a block is filtered
abbrev pub filtering_by : (ℕ → ℕ → World → Result) → Stage
filtering_by f Open w = ours Open w
filtering_by f (Read bytes count) w = ours (Read bytes count) w
filtering_by f (Write q out) w = ours (Write q out) w
filtering_by f (Deliver i k samples) w = ours (Deliver i k samples) w
filtering_by f (Filter i k) w = f i k w
filtering_by f (Rows i) w = ours (Rows i) w

-- in the answer alone
abbrev pub answering_by : (Answer → Answer) → Stage
answering_by f c w = let r = ours c w in record { answer = f r.answer; out = r.out; world = r.world }

-- the result where its call was refused, and else another
abbrev pub unless_refused : Answer → Result → Result → Result
unless_refused (refused n) r other = r
unless_refused done r other = other
unless_refused (set_read q) r other = other
unless_refused (bins_written n) r other = other
unless_refused (rows n part) r other = other

-- ---- those that document 01 names

unfoldable pub refuses_everything : Stage
refuses_everything c w = unchanged c w 1

unfoldable pub reads_as_off : Stage
unfolding ours
reads_as_off = reading_by (λ bytes count w.
    let r = ours (Read bytes count) w in
    unless_refused r.answer r (record { answer = set_read all_off; out = []; world = appended w all_off }))

-- a filter that only sets its mark
abbrev pub marking : ℕ → ℕ → World → Result
marking i k w =
    let r = ours (Filter i k) w in
    unless_refused r.answer r (record { answer = done; out = []; world = with_filtered w i k w.filtered })

unfoldable pub only_marks : Stage
unfolding ours
only_marks = filtering_by marking

-- an output never written, whatever the call
unfoldable pub never_writes : Stage
unfolding ours
never_writes c w =
    let r = ours c w in
    let v = r.world in
    record {
      answer = r.answer;
      out = r.out;
      world = record { state = v.state; deblocked = v.deblocked; filtered = w.filtered; marks = v.marks; table = v.table };
    }

-- filters the first CTB and merely marks the others
abbrev pub the_first : ℕ → ℕ → World → Result
the_first i zero w = ours (Filter i zero) w
the_first i (suc k) w = marking i (suc k) w

unfoldable pub first_block_only : Stage
unfolding ours
first_block_only = filtering_by the_first

-- the right bins, and another number of them
abbrev pub one_more_bin : Answer → Answer
one_more_bin (refused n) = refused n
one_more_bin done = done
one_more_bin (set_read q) = set_read q
one_more_bin (bins_written n) = bins_written (suc n)
one_more_bin (rows n part) = rows n part

unfoldable pub invented_count : Stage
unfolding ours
invented_count = answering_by one_more_bin

-- the right part, and another number of rows
abbrev pub one_more_row : Answer → Answer
one_more_row (refused n) = refused n
one_more_row done = done
one_more_row (set_read q) = set_read q
one_more_row (bins_written n) = bins_written n
one_more_row (rows n part) = rows (suc n) part

unfoldable pub invented_rows : Stage
unfolding ours
invented_rows = answering_by one_more_row

-- ---- document 00's versions

-- Version one: that the bytes hold the declared count is believed, and the bytes that lie beyond them are read
unfoldable pub trusts_the_count : List ℕ → Stage
unfolding ours
trusts_the_count beyond = reading_by (λ bytes count w. ours (Read (bytes ++ beyond) count) w)

-- or bins that end too early are read on, past the declared count
abbrev pub read_on : Answer → Got CtuSet → Result → World → Result
read_on (refused n) (got q beyond) r w = choose (ℕ_discrete n 5) (record { answer = set_read q; out = []; world = appended w q }) r
read_on (refused n) short r w = r
read_on done g r w = r
read_on (set_read q) g r w = r
read_on (bins_written n) g r w = r
read_on (rows n part) g r w = r

unfoldable pub reads_past_the_count : Stage
unfolding ours read_ctu
reads_past_the_count = reading_by (λ bytes count w.
    let r = ours (Read bytes count) w in
    read_on r.answer (read_ctu (switches_of w.state) (left_set w.state w.table) (upper_set w.state w.table) (bits_of bytes)) r w)

-- Version two: CTB k filtered in the plane itself, place after place of the first n, so that a comparison sees what was already changed
unfoldable pub in_place : Picture → Parameters → ℕ → ℕ → List ℕ → ℕ → List ℕ
unfolding inside?
in_place p ps i k plane zero = plane
in_place p ps i k plane (suc n) =
    let now = in_place p ps i k plane n in
    let x = n % plane_width p i in
    let y = n / plane_width p i in
    choose (inside? (rectangle p i k) x y) (set now n (filtered_sample p ps i k now x y)) now

unfoldable pub filters_in_place : Stage
unfolding ours in_place with_plane painted_in
filters_in_place = filtering_by (λ i k w.
    let r = ours (Filter i k) w in
    let p = picture_of w in
    let plane = in_place p (parameters_in w.table) i k (plane_of w.deblocked i) (plane_width p i * plane_height p i) in
    let v = with_filtered w i k (painted_in p i k (at plane (plane_width p i)) w.filtered) in
    unless_refused r.answer r (record {
      answer = done;
      out = [];
      world = record { state = v.state; deblocked = with_plane w.deblocked i plane; filtered = v.filtered; marks = v.marks; table = v.table };
    }))

-- Version three: a block waits for its own samples only, as if all others were in
abbrev pub as_if_all_in : World → World
as_if_all_in w = record { state = w.state; deblocked = w.deblocked; filtered = w.filtered; marks = map (max 1) w.marks; table = w.table }

abbrev pub hastily : Answer → ℕ → ℕ → World → Result → Result
hastily (refused n) i k w r = unchanged (Filter i k) w n
hastily done i k w r = record { answer = done; out = []; world = with_filtered w i k r.world.filtered }
hastily (set_read q) i k w r = r
hastily (bins_written n) i k w r = r
hastily (rows n part) i k w r = r

unfoldable pub waits_for_own_only : Stage
unfolding ours
waits_for_own_only = filtering_by (λ i k w.
    let r = ours (Filter i k) (as_if_all_in w) in
    choose (ℕ_discrete (mark_of (picture_of w) w.marks i k) 0) (ours (Filter i k) w) (hastily r.answer i k w r))

-- ---- wrong readings of document 02

-- K1: every format with chroma taken for 4:2:0, with half width and half height; a number that is no format stays one
abbrev pub in420 : Picture → Picture
in420 p = in_format (cond (ltb p.format 4) (min p.format 1) p.format) p

abbrev pub pictured_as : Picture → World → World
pictured_as p w = record {
  state = record { picture = p; next = w.state.next };
  deblocked = w.deblocked;
  filtered = w.filtered;
  marks = w.marks;
  table = w.table;
}

-- the stage, of another picture than it is told
abbrev pub seeing : (Picture → Picture) → Stage
seeing f c w =
    let r = ours c (pictured_as (f (picture_of w)) w) in
    record { answer = r.answer; out = r.out; world = pictured_as (picture_of w) r.world }

unfoldable pub every_format_is420 : Stage
unfolding ours
every_format_is420 = seeing in420

-- K3: chroma taken to have luma's depth; a description that breaks a rule still does
abbrev pub in_lumas_depth : Picture → Picture
in_lumas_depth p = choose (rules? p) (in_depths (alike p.depth.luma) p) p

unfoldable pub chroma_in_lumas_depth : Stage
unfolding ours rules?
chroma_in_lumas_depth = seeing in_lumas_depth
