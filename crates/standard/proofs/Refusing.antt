-- Each call's reasons are decidable: for every input a verdict computes, a refusal with the number of the first reason that holds or none.
use mathlib.Core.Path.{◌≡◌, refl, sym, subst, ap₂}
use mathlib.Core.Bool.{Bool, true, false}
use mathlib.Core.List.{List, [], ◌∷◌, ◌++◌}
use mathlib.Core.Logic.Dec
use mathlib.Core.Logic.{◌⊎◌, inl, inr}
use Rattle.std.specs.Prelude.{Option, Some as some, None as none}
use Prim.Native.Nat.{ℕ, ◌*◌, ◌^◌, ◌≤◌, ◌<◌}
use native.Mathlib.Decide.{ℕ_discrete, dec_le, dec_lt}
use native.Mathlib.Omega.{arith}
use lib.ListN.{length, get_or}
use Rattle.standard.specs.declared.Picture.{Picture}
use Rattle.standard.specs.declared.State.{State}
use Rattle.standard.specs.declared.Rectangle.{Rectangle}
use Rattle.standard.specs.declared.Offsets.{Offsets}
use Rattle.standard.specs.declared.CtuSet.{CtuSet}
use Rattle.standard.specs.Picture.{depth_of, components, plane_width, samples_of, ctu_count, Inside, rectangle, grown, address, merge_left, merge_up}
use Rattle.standard.specs.declared.Switches.{Switches}
use Rattle.standard.specs.Sets.{switches_of, Valid}
use Rattle.standard.specs.Bins.{bins_of}
use Rattle.standard.specs.Means.{not_taken, Means, Early, Remain, Shortest}
use Rattle.standard.specs.Samples.{at, Waits, Scans}
use Rattle.standard.specs.Table.{entry_size, encode_entry, entry, Sound, switches_at, stored, offsets_at}
use Rattle.standard.specs.Reasons.{Planes, plane_of, PlanesFit, MarksFit, TableFits, mark_count, mark_of, area, left_set, upper_set, Copies, UnitIsDue, ReachedOutsideTheRules, NeighbourOutsideTheRules, SomeWaited}
use Rattle.standard.specs.Reasons.{description_reasons, length_reasons, state_reasons, lent_reasons, call_reasons, due_reasons, block_reasons, count_reasons, bins_reasons, set_reasons, samples_reasons, ready_reasons, stored_reasons, marks_reasons}
use Rattle.standard.specs.Reasons.{open_reasons, read_reasons, write_reasons, deliver_reasons, filter_reasons, rows_reasons}
use Rattle.standard.specs.Reasons as reasons
use Rattle.standard.proofs.Decisions.{differ, by_iff, or?, some?, Verdict, Decided, both?, judge}
use Rattle.standard.proofs.Rasters.{inside?}
use Rattle.standard.proofs.Seeing.{waits_there}
use Rattle.standard.proofs.Judging.{rules?, adjacent?, valid?, same_bytes?}
use Rattle.standard.proofs.Spelling.{Spelling, shortest, unspelled, spell_out}
use Rattle.standard.proofs.Reader.{Heard, meant, early, remain, hear, meant_not_early, meant_not_remain, early_not_remain}
use Rattle.standard.proofs.Entries.{stored_sound}

-- ---- lengths

unfoldable pub planes_fit? : (p : Picture) (l : Planes) → Dec (PlanesFit p l)
unfolding Dec.and
planes_fit? p l =
    by_iff (λ t. record { y = t.0; cb = t.1.0; cr = t.1.1 }) (λ f. (f.y, (f.cb, f.cr)))
    (Dec.and (ℕ_discrete (length l.y) (samples_of p 0)) (Dec.and (ℕ_discrete (length l.cb) (samples_of p 1)) (ℕ_discrete (length l.cr) (samples_of p 2))))

unfoldable pub marks_fit? : (p : Picture) (marks : List ℕ) → Dec (MarksFit p marks)
marks_fit? p marks = ℕ_discrete (length marks) (mark_count p)

unfoldable pub table_fits? : (p : Picture) (table : List ℕ) → Dec (TableFits p table)
table_fits? p table = ℕ_discrete (length table) (entry_size * ctu_count p)

-- ---- bins and sets

module _ (s : Switches) (l u : Option CtuSet) where
  early? : {bins : List Bool} → Heard s l u bins → Dec (Early s l u bins)
  early? (meant q m) = no (meant_not_early m)
  early? (early e) = yes e
  early? (remain r) = no (λ e. early_not_remain e r)

  remain? : {bins : List Bool} → Heard s l u bins → Dec (Remain s l u bins)
  remain? (meant q m) = no (meant_not_remain m)
  remain? (early e) = no (λ r. early_not_remain e r)
  remain? (remain r) = yes r

  unspelled? : {q : CtuSet} → Spelling s l u q → Dec ((bins : List Bool) → ¬ Means s l u q bins)
  unspelled? (shortest b k) = no (λ f. f b k.mean)
  unspelled? (unspelled f) = yes f

  unfitting? : {q : CtuSet} (n : ℕ) → Spelling s l u q → Dec ((bins : List Bool) × Shortest s l u q bins × (n < length bins))
  unfitting? n (shortest b k) =
      by_iff (λ h. (b, k, h)) (λ t. let e : length t.0 ≤ length b = t.1.least b k.mean in omega (arith, t.2)) (dec_lt n (length b))
  unfitting? n (unspelled f) = no (λ t. f t.0 t.1.mean)

unfoldable pub sound? : (s : Switches) (table : List ℕ) (k : ℕ) → Dec (Sound s table k)
unfolding Dec.and
sound? s table k =
    by_iff (λ t. record { set = stored table k; rules = t.0; bytes = t.1 })
    (λ e. let same : stored table k ≡ e.set = stored_sound e in
    (subst (Valid s) (sym same) e.rules, subst (λ (q : CtuSet). entry table k ≡ encode_entry q) (sym same) e.bytes))
    (Dec.and (valid? s (stored table k)) (same_bytes? (entry table k) (encode_entry (stored table k))))

neighbour_outside? : (s : State) (table : List ℕ) (o : Option ℕ) → Dec (NeighbourOutsideTheRules s table o)
unfolding Dec.not sound?
neighbour_outside? s table none = no (λ b. b)
neighbour_outside? s table (some k) = Dec.not (sound? (switches_of s) table k)

-- ---- the set that a merge copies

true? : (b : Bool) → Dec (b ≡ true)
true? true = yes refl
true? false = no (λ e. differ (cc))

false? : (b : Bool) → Dec (b ≡ false)
false? true = no (λ e. differ (cc))
false? false = yes refl

same_bin? : (a b : Bool) → Dec (a ≡ b)
unfolding true? false?
same_bin? a true = true? a
same_bin? a false = false? a

same_bins? : (a b : List Bool) → Dec (a ≡ b)
unfolding same_bin? Dec.and
same_bins? [] [] = yes refl
same_bins? [] (y ∷ b) = no (λ e. differ (cc))
same_bins? (x ∷ a) [] = no (λ e. differ (cc))
same_bins? (x ∷ a) (y ∷ b) = by_iff (λ t. ap₂ ◌∷◌ t.0 t.1) (λ e. (cc, cc)) (Dec.and (same_bin? x y) (same_bins? a b))

pub not_there : {A : Type 0} {a : A} → none ≡ some a → ◌≡◌ {A = ℕ} 0 1
not_there e = cc

pub there : {a b : ℕ} → some a ≡ some b → b ≡ a
there e = cc

-- where there is a neighbour, it is as P says
at_neighbour? : (o : Option ℕ) {E : Type 0} {P : ℕ → Type 0} → Dec E → ((k : ℕ) → Dec (P k)) → Dec ((k : ℕ) × ((o ≡ some k) × E) × P k)
at_neighbour? none e d = no (λ t. differ (not_there t.1.0))
at_neighbour? (some k) {E} {P} (yes h) d = by_iff (λ x. (k, (refl, h), x)) (λ t. let z : t.0 ≡ k = there t.1.0 in subst P z t.2) (d k)
at_neighbour? (some k) (no n) d = no (λ t. n t.1.1)

copied? : (s : State) (table : List ℕ) (bins : List Bool) → Dec ((j : ℕ) × Copies s table bins j × ReachedOutsideTheRules s table j)
unfolding at_neighbour? or? same_bins? sound? Dec.not
copied? s table bins =
    by_iff (λ t. elim t [ inl a ↦ (a.0, reasons.left a.1.0 a.1.1, a.2) | inr b ↦ (b.0, reasons.up b.1.0 b.1.1, b.2) ]) (λ t. back t.0 t.1 t.2)
    (or?
    (at_neighbour? (merge_left s) (same_bins? bins (true ∷ [])) (λ k. Dec.not (sound? (switches_of s) table k)))
    (at_neighbour? (merge_up s) (same_bins? bins (not_taken (left_set s table) ++ (true ∷ []))) (λ k. Dec.not (sound? (switches_of s) table k))))
  where
    back : (j : ℕ) → Copies s table bins j → ReachedOutsideTheRules s table j
        → ((k : ℕ) × ((merge_left s ≡ some k) × (bins ≡ true ∷ [])) × ReachedOutsideTheRules s table k)
        ⊎ ((k : ℕ) × ((merge_up s ≡ some k) × (bins ≡ not_taken (left_set s table) ++ (true ∷ []))) × ReachedOutsideTheRules s table k)
    back j (reasons.left e f) h = inl (j, (e, f), h)
    back j (reasons.up e f) h = inr (j, (e, f), h)

-- ---- filter

-- the set is in, or no number below n is read as k
missing? : (p : Picture) (n k : ℕ) → Dec ((m : ℕ) → m < n → ¬ (address p m ≡ k))
unfolding some?
missing? p n k = by_iff (λ f m h e. f (m, h, e)) (λ f t. f t.0 t.1 t.2) (Dec.not (some? n (λ m. ℕ_discrete (address p m) k)))

waits? : (p : Picture) (set : Offsets) (k j : ℕ) → Dec (Waits p set k j)
unfolding Waits adjacent?
waits? p set k j = adjacent? p k j

waited? : (s : State) (i k : ℕ) (marks table : List ℕ) {M : ℕ → Type 0} → ((m : ℕ) → Dec (M m)) → Dec (SomeWaited s i k marks table M)
unfolding some? waits? Dec.and
waited? s i k marks table d =
    let p = s.picture in
    let set = offsets_at table i k in
    by_iff (λ t. (t.0, t.2.0, t.2.1)) (λ t. (t.0, waits_there p set k t.0 t.1, (t.1, t.2)))
    (some? (ctu_count p) (λ j. Dec.and (waits? p set k j) (d (mark_of p marks i j))))

-- one of the samples of a rectangle
some_inside? : (r : Rectangle) {P : ℕ → ℕ → Type 0} → ((x y : ℕ) → Dec (P x y)) → Dec ((x : ℕ) × (y : ℕ) × Inside r x y × P x y)
unfolding some? inside? Dec.and
some_inside? r d =
    by_iff (λ t. (t.0, t.2.0, t.2.2.0, t.2.2.1)) (λ t. (t.0, t.2.0.1, (t.1, t.2.1.1, (t.2, t.3))))
    (some? r.x1 (λ x. some? r.y1 (λ y. Dec.and (inside? r x y) (d x y))))

some_scanned? : (p : Picture) (i : ℕ) (set : Offsets) (k : ℕ) {P : ℕ → ℕ → Type 0} → ((x y : ℕ) → Dec (P x y)) → Dec ((x : ℕ) × (y : ℕ) × Scans p i set k x y × P x y)
unfolding Scans some_inside?
some_scanned? p i set k d = some_inside? (grown p i (rectangle p i k)) d

-- ---- the parts

description_decided : (s : State) → Decided (description_reasons s)
unfolding rules? Dec.not
description_decided s = (Dec.not (rules? s.picture), tt)

lent_decided : (s : State) {fit : Type 0} → Dec fit → Decided (lent_reasons s fit)
unfolding description_decided Dec.not
lent_decided s {fit} d = both? (description_reasons s) (length_reasons fit) (description_decided s) (Dec.not d, tt)

call_decided : (s : State) {fit : Type 0} → Dec fit → Decided (call_reasons s fit)
unfolding lent_decided
call_decided s {fit} d = both? (lent_reasons s fit) (state_reasons s) (lent_decided s d) (dec_lt (ctu_count s.picture) s.next, tt)

unfoldable pub unit_due? : (s : State) → Dec (UnitIsDue s)
unit_due? s = dec_lt s.next (ctu_count s.picture)

due_decided : (s : State) → Decided (due_reasons s)
due_decided s = (dec_le (ctu_count s.picture) s.next, tt)

block_decided : (s : State) (i k : ℕ) → Decided (block_reasons s i k)
unfolding or?
block_decided s i k = (or? (dec_le (components s.picture) i) (dec_le (ctu_count s.picture) k), tt)

count_decided : (bytes : List ℕ) (count : ℕ) → Decided (count_reasons bytes count)
count_decided bytes count = (dec_lt (8 * length bytes) count, tt)

bins_decided : (s : State) (bytes : List ℕ) (count : ℕ) (table : List ℕ) → Decided (bins_reasons s bytes count table)
unfolding hear early? remain? copied?
bins_decided s bytes count table =
    let h = hear (switches_of s) (left_set s table) (upper_set s table) (bins_of bytes count) in (
      early? (switches_of s) (left_set s table) (upper_set s table) h,
      (remain? (switches_of s) (left_set s table) (upper_set s table) h, (copied? s table (bins_of bytes count), tt)),
    )

set_decided : (s : State) (q : CtuSet) (out table : List ℕ) → Decided (set_reasons s q out table)
unfolding neighbour_outside? spell_out unspelled? unfitting? or?
set_decided s q out table =
    let h = spell_out (switches_of s) (left_set s table) (upper_set s table) q in (
      or? (neighbour_outside? s table (merge_left s)) (neighbour_outside? s table (merge_up s)),
      (
        unspelled? (switches_of s) (left_set s table) (upper_set s table) h,
        (unfitting? (switches_of s) (left_set s table) (upper_set s table) (8 * length out) h, tt),
      ),
    )

samples_decided : (s : State) (i k : ℕ) (samples marks : List ℕ) → Decided (samples_reasons s i k samples marks)
unfolding some? or? Dec.not
samples_decided s i k samples marks =
    let p = s.picture in
    let m = mark_of p marks i k in (
      Dec.not (ℕ_discrete (length samples) (area (rectangle p i k))),
      (
        dec_lt 2 m,
        (or? (ℕ_discrete m 1) (ℕ_discrete m 2), (some? (length samples) (λ n. dec_le (2 ^ depth_of p i) (get_or samples n 0)), tt)),
      ),
    )

ready_decided : (s : State) (i k : ℕ) (marks table : List ℕ) → Decided (ready_reasons s i k marks table)
unfolding waited? missing? or?
ready_decided s i k marks table = (
  waited? s i k marks table (λ m. dec_lt 2 m),
  (
    ℕ_discrete (mark_of s.picture marks i k) 2,
    (or? (missing? s.picture s.next k) (waited? s i k marks table (λ m. ℕ_discrete m 0)), tt),
  ),
)

stored_decided : (s : State) (i k : ℕ) (deblocked : Planes) (table : List ℕ) → Decided (stored_reasons s i k deblocked table)
unfolding sound? some_scanned? Dec.not
stored_decided s i k deblocked table =
    let p = s.picture in (
      Dec.not (sound? (switches_at p table k) table k),
      (some_scanned? p i (offsets_at table i k) k (λ x y. dec_le (2 ^ depth_of p i) (at (plane_of deblocked i) (plane_width p i) x y)), tt),
    )

marks_decided : (s : State) (i : ℕ) (marks : List ℕ) → Decided (marks_reasons s i marks)
unfolding some?
marks_decided s i marks =
    let p = s.picture in
    (dec_le (components p) i, (some? (ctu_count p) (λ k. dec_lt 2 (mark_of p marks i k)), tt))

-- ---- the calls

unfoldable pub open_decided : (s : State) (marks : List ℕ) → Decided (open_reasons s marks)
unfolding lent_decided marks_fit?
open_decided s marks = lent_decided s (marks_fit? s.picture marks)

-- where a CTU has to be due
due_call_decided : (s : State) (table : List ℕ) → Decided (call_reasons s (TableFits s.picture table) ++ due_reasons s)
unfolding call_decided table_fits? due_decided
due_call_decided s table = both? (call_reasons s (TableFits s.picture table)) (due_reasons s) (call_decided s (table_fits? s.picture table)) (due_decided s)

unfoldable pub read_decided : (s : State) (bytes : List ℕ) (count : ℕ) (table : List ℕ) → Decided (read_reasons s bytes count table)
unfolding due_call_decided count_decided bins_decided
read_decided s bytes count table =
    let begins = call_reasons s (TableFits s.picture table) ++ due_reasons s in
    both? (begins ++ count_reasons bytes count) (bins_reasons s bytes count table)
    (both? begins (count_reasons bytes count) (due_call_decided s table) (count_decided bytes count)) (bins_decided s bytes count table)

unfoldable pub write_decided : (s : State) (q : CtuSet) (out table : List ℕ) → Decided (write_reasons s q out table)
unfolding due_call_decided set_decided
write_decided s q out table =
    both? (call_reasons s (TableFits s.picture table) ++ due_reasons s) (set_reasons s q out table) (due_call_decided s table) (set_decided s q out table)

-- where a block has to be there
block_call_decided : (s : State) {fit : Type 0} → Dec fit → (i k : ℕ) → Decided (call_reasons s fit ++ block_reasons s i k)
unfolding call_decided block_decided
block_call_decided s {fit} d i k = both? (call_reasons s fit) (block_reasons s i k) (call_decided s d) (block_decided s i k)

unfoldable pub deliver_decided : (s : State) (i k : ℕ) (samples : List ℕ) (deblocked : Planes) (marks : List ℕ)
    → Decided (deliver_reasons s i k samples deblocked marks)
unfolding block_call_decided planes_fit? marks_fit? samples_decided Dec.and
deliver_decided s i k samples deblocked marks =
    let p = s.picture in
    both? (call_reasons s (PlanesFit p deblocked × MarksFit p marks) ++ block_reasons s i k) (samples_reasons s i k samples marks)
    (block_call_decided s (Dec.and (planes_fit? p deblocked) (marks_fit? p marks)) i k) (samples_decided s i k samples marks)

unfoldable pub all_fit? : (p : Picture) (deblocked filtered : Planes) (marks table : List ℕ)
    → Dec (PlanesFit p deblocked × PlanesFit p filtered × MarksFit p marks × TableFits p table)
unfolding planes_fit? marks_fit? table_fits? Dec.and
all_fit? p deblocked filtered marks table =
    by_iff (λ t. (t.0, t.1.0, t.1.1.0, t.1.1.1)) (λ t. (t.0, (t.1, (t.2, t.3))))
    (Dec.and (planes_fit? p deblocked) (Dec.and (planes_fit? p filtered) (Dec.and (marks_fit? p marks) (table_fits? p table))))

unfoldable pub filter_decided : (s : State) (i k : ℕ) (deblocked filtered : Planes) (marks table : List ℕ)
    → Decided (filter_reasons s i k deblocked filtered marks table)
unfolding block_call_decided all_fit? ready_decided stored_decided
filter_decided s i k deblocked filtered marks table =
    let p = s.picture in
    let named = call_reasons s (PlanesFit p deblocked × PlanesFit p filtered × MarksFit p marks × TableFits p table) ++ block_reasons s i k in
    both? (named ++ ready_reasons s i k marks table) (stored_reasons s i k deblocked table)
    (both? named (ready_reasons s i k marks table) (block_call_decided s (all_fit? p deblocked filtered marks table) i k) (ready_decided s i k marks table))
    (stored_decided s i k deblocked table)

unfoldable pub rows_decided : (s : State) (i : ℕ) (filtered : Planes) (marks : List ℕ) → Decided (rows_reasons s i filtered marks)
unfolding call_decided planes_fit? marks_fit? marks_decided Dec.and
rows_decided s i filtered marks =
    let p = s.picture in
    both? (call_reasons s (PlanesFit p filtered × MarksFit p marks)) (marks_reasons s i marks)
    (call_decided s (Dec.and (planes_fit? p filtered) (marks_fit? p marks))) (marks_decided s i marks)

-- ---- the verdicts

unfoldable pub open_verdict : (s : State) (marks : List ℕ) → Verdict (open_reasons s marks)
unfolding judge open_decided
open_verdict s marks = judge (open_reasons s marks) (open_decided s marks)

unfoldable pub read_verdict : (s : State) (bytes : List ℕ) (count : ℕ) (table : List ℕ) → Verdict (read_reasons s bytes count table)
unfolding judge read_decided
read_verdict s bytes count table = judge (read_reasons s bytes count table) (read_decided s bytes count table)

unfoldable pub write_verdict : (s : State) (q : CtuSet) (out table : List ℕ) → Verdict (write_reasons s q out table)
unfolding judge write_decided
write_verdict s q out table = judge (write_reasons s q out table) (write_decided s q out table)

unfoldable pub deliver_verdict : (s : State) (i k : ℕ) (samples : List ℕ) (deblocked : Planes) (marks : List ℕ)
    → Verdict (deliver_reasons s i k samples deblocked marks)
unfolding judge deliver_decided
deliver_verdict s i k samples deblocked marks = judge (deliver_reasons s i k samples deblocked marks) (deliver_decided s i k samples deblocked marks)

unfoldable pub filter_verdict : (s : State) (i k : ℕ) (deblocked filtered : Planes) (marks table : List ℕ)
    → Verdict (filter_reasons s i k deblocked filtered marks table)
unfolding judge filter_decided
filter_verdict s i k deblocked filtered marks table =
    judge (filter_reasons s i k deblocked filtered marks table) (filter_decided s i k deblocked filtered marks table)

unfoldable pub rows_verdict : (s : State) (i : ℕ) (filtered : Planes) (marks : List ℕ) → Verdict (rows_reasons s i filtered marks)
unfolding judge rows_decided
rows_verdict s i filtered marks = judge (rows_reasons s i filtered marks) (rows_decided s i filtered marks)
