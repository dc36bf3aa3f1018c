-- THE STAGE as an executable definition: the first of the call's reasons that holds refuses it, and where none holds it acts.
use Rattle.std.specs.Prelude.{Bool, List, [], ℕ, zero, suc, ◌+◌, ◌*◌, min, length}
use Rattle.std.proofs.Math.Logic.Dec
use Rattle.std.specs.Prelude.{Option}
use Rattle.std.proofs.Math.Decide.{ℕ_discrete}
use Rattle.standard.specs.declared.Picture.{Picture}
use Rattle.standard.specs.declared.State.{State}
use Rattle.standard.specs.declared.CtuSet.{CtuSet}
use Rattle.standard.specs.Picture.{plane_width, plane_height, ctb_height, columns, rectangle}
use Rattle.standard.specs.Picture as picture
use Rattle.standard.specs.declared.Switches.{Switches}
use Rattle.standard.specs.Sets.{switches_of}
use Rattle.standard.specs.Bins.{bins_of, packed}
use Rattle.standard.specs.Samples.{at, plane_by, filtered_sample}
use Rattle.standard.specs.Table.{parameters_in}
use Rattle.standard.specs.Reasons.{Planes, plane_of, mark_of, left_set, upper_set}
use Rattle.standard.specs.Calls.{delivered, leading}
use Rattle.standard.proofs.Decisions.{some?, Verdict, refusal, clear}
use Rattle.standard.proofs.Rasters.{inside?}
use Rattle.standard.proofs.Reader.{Heard, meant, early, remain, hear}
use Rattle.standard.proofs.Spelling.{Spelling, shortest, unspelled, spell_out}
use Rattle.standard.proofs.Refusing.{open_verdict, read_verdict, write_verdict, deliver_verdict, filter_verdict, rows_verdict}
use Rattle.promises.specs.World.{World, picture_of, Call, Open, Read, Write, Deliver, Filter, Rows, done, set_read, bins_written, rows, Result, Stage, reasons_of}
use Rattle.promises.specs.Contract.{opened, appended, with_delivered, with_filtered, unchanged}

abbrev pub choose : {A B : Type 0} → Dec A → B → B → B
choose (yes a) x y = x
choose (no n) x y = y

-- ---- planes

-- component i's plane, with CTB k as f says
unfoldable pub painted : Picture → ℕ → ℕ → (ℕ → ℕ → ℕ) → List ℕ → List ℕ
unfolding inside?
painted p i k f plane =
    plane_by (plane_width p i) (plane_height p i) (λ x y. choose (inside? (rectangle p i k) x y) (f x y) (at plane (plane_width p i) x y))

-- the planes, with another for component i
unfoldable pub with_plane : Planes → ℕ → List ℕ → Planes
with_plane planes i plane = record {
  y = choose (ℕ_discrete 0 i) plane planes.y;
  cb = choose (ℕ_discrete 1 i) plane planes.cb;
  cr = choose (ℕ_discrete 2 i) plane planes.cr;
}

unfoldable pub painted_in : Picture → ℕ → ℕ → (ℕ → ℕ → ℕ) → Planes → Planes
unfolding painted with_plane
painted_in p i k f planes = with_plane planes i (painted p i k f (plane_of planes i))

-- ---- finished rows

-- the first row from r on, of n rows and c columns of CTBs, that has an unfiltered one; or the end of them
unfoldable pub first_unfinished : ℕ → ℕ → (ℕ → ℕ) → ℕ → ℕ
unfolding some? Dec.not
first_unfinished c zero mark r = r
first_unfinished c (suc n) mark r = choose (some? c (λ j. Dec.not (ℕ_discrete (mark (r * c + j)) 2))) r (first_unfinished c n mark (suc r))

unfoldable pub finished_rows : State → ℕ → List ℕ → ℕ
unfolding first_unfinished
finished_rows s i marks =
    let p = s.picture in
    min (first_unfinished (columns p) (picture.rows p) (mark_of p marks i) 0 * ctb_height p i) (plane_height p i)

-- ---- what a call does where no reason holds

-- what was heard, or spelled; the other cases are refused before
abbrev pub heard_in : {s : Switches} {l u : Option CtuSet} {bins : List Bool} → Heard s l u bins → Call → World → Result
heard_in (meant q m) c w = record { answer = set_read q; out = []; world = appended w q }
heard_in (early e) c w = unchanged c w 5
heard_in (remain r) c w = unchanged c w 6

abbrev pub spelled_in : {s : Switches} {l u : Option CtuSet} {q : CtuSet} → Spelling s l u q → List ℕ → Call → World → Result
spelled_in {q = q} (shortest bins k) out c w = record { answer = bins_written (length bins); out = packed bins out; world = appended w q }
spelled_in (unspelled f) out c w = unchanged c w 12

unfoldable pub act : Call → World → Result
unfolding hear spell_out painted_in finished_rows
act Open w = record { answer = done; out = []; world = opened w }
act (Read bytes count) w =
    heard_in (hear (switches_of w.state) (left_set w.state w.table) (upper_set w.state w.table) (bins_of bytes count)) (Read bytes count) w
act (Write q out) w =
    spelled_in (spell_out (switches_of w.state) (left_set w.state w.table) (upper_set w.state w.table) q) out (Write q out) w
act (Deliver i k samples) w =
    let planes = painted_in (picture_of w) i k (delivered (rectangle (picture_of w) i k) samples) w.deblocked in
    record { answer = done; out = []; world = with_delivered w i k planes }
act (Filter i k) w =
    let f = filtered_sample (picture_of w) (parameters_in w.table) i k (plane_of w.deblocked i) in
    record { answer = done; out = []; world = with_filtered w i k (painted_in (picture_of w) i k f w.filtered) }
act (Rows i) w =
    let n = finished_rows w.state i w.marks in
    record { answer = rows n (leading w.state i n (plane_of w.filtered i)); out = []; world = w }

-- ---- the stage

unfoldable pub verdict_of : (c : Call) (w : World) → Verdict (reasons_of c w)
unfolding open_verdict read_verdict write_verdict deliver_verdict filter_verdict rows_verdict
verdict_of Open w = open_verdict w.state w.marks
verdict_of (Read bytes count) w = read_verdict w.state bytes count w.table
verdict_of (Write q out) w = write_verdict w.state q out w.table
verdict_of (Deliver i k samples) w = deliver_verdict w.state i k samples w.deblocked w.marks
verdict_of (Filter i k) w = filter_verdict w.state i k w.deblocked w.filtered w.marks w.table
verdict_of (Rows i) w = rows_verdict w.state i w.filtered w.marks

abbrev pub conclude : (c : Call) (w : World) → Verdict (reasons_of c w) → Result
conclude c w (refusal n f) = unchanged c w n
conclude c w (clear k) = act c w

unfoldable pub ours : Stage
unfolding verdict_of
ours c w = conclude c w (verdict_of c w)
