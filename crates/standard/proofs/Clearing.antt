-- What holds where the parts of the reasons that are one call's own are clear, and back. Above, such a part is used through these laws, so that
-- a reason put into it is looked at here alone.
use mathlib.Core.Path.{◌≡◌}
use mathlib.Core.Bool.{Bool}
use mathlib.Core.List.{List}
use mathlib.Core.Logic.Dec
use mathlib.Core.Logic.{inl, inr, ⊎_elim}
use Prim.Native.Nat.{ℕ, ◌*◌, ◌^◌, ◌≤◌, ◌<◌}
use native.Mathlib.Decide.{ℕ_discrete}
use native.Mathlib.Omega.{arith}
use lib.ListN.{length, get_or}
use Rattle.standard.specs.declared.State.{State}
use Rattle.standard.specs.declared.CtuSet.{CtuSet}
use Rattle.standard.specs.Picture.{depth_of, components, plane_width, ctu_count, rectangle, address, merge_left, merge_up}
use Rattle.standard.specs.Sets.{switches_of}
use Rattle.standard.specs.Bins.{bins_of}
use Rattle.standard.specs.Samples.{at, Waits, Scans}
use Rattle.standard.specs.Table.{Sound, switches_at, offsets_at}
use Rattle.standard.specs.Refusals.{Clear}
use Rattle.standard.specs.Reasons.{Planes, plane_of, mark_of, area, ShortestHere, Copies, BinsEndTooEarly, BinsRemainAfterTheCtu, NeighbourOutsideTheRules, NoBinsMeanThisSet, SetIsMissing}
use Rattle.standard.specs.Reasons.{count_reasons, bins_reasons, set_reasons, samples_reasons, ready_reasons, stored_reasons, marks_reasons}
use Rattle.standard.proofs.Decisions.{some?}
use Rattle.standard.proofs.Refusing.{sound?}

-- ---- read: the count, and the bins

pub counted : (bytes : List ℕ) (count : ℕ) → Clear (count_reasons bytes count) → count ≤ 8 * length bytes
counted bytes count c = let n = c.0 in omega arith

pub counted_clear : (bytes : List ℕ) (count : ℕ) → count ≤ 8 * length bytes → Clear (count_reasons bytes count)
counted_clear bytes count h = (λ l. omega arith, tt)

pub record Readable (s : State) (bytes : List ℕ) (count : ℕ) (table : List ℕ) : Type 0 where
  pub not_early : ¬ BinsEndTooEarly s table (bins_of bytes count)
  pub none_remain : ¬ BinsRemainAfterTheCtu s table (bins_of bytes count)
  -- what a merge copies is within the rules
  pub copied : (j : ℕ) → Copies s table (bins_of bytes count) j → Sound (switches_of s) table j

module _ (s : State) {bytes : List ℕ} {count : ℕ} {table : List ℕ} where
  pub readable : Clear (bins_reasons s bytes count table) → Readable s bytes count table
  readable c = record {
    not_early = c.0;
    none_remain = c.1.0;
    copied = λ j copies. (Dec.not-not (sound? (switches_of s) table j)).0 (λ n. c.1.1.0 (j, copies, n));
  }

  pub readable_clear : Readable s bytes count table → Clear (bins_reasons s bytes count table)
  readable_clear r = (r.not_early, (r.none_remain, (λ t. t.2 (r.copied t.0 t.1), tt)))

-- ---- write: the neighbours' sets, and the set

pub record Writable (s : State) (q : CtuSet) (out table : List ℕ) : Type 0 where
  pub left : ¬ NeighbourOutsideTheRules s table (merge_left s)
  pub up : ¬ NeighbourOutsideTheRules s table (merge_up s)
  pub meant : ¬ NoBinsMeanThisSet s table q
  pub room : (bins : List Bool) → ShortestHere s table q bins → length bins ≤ 8 * length out

module _ (s : State) {q : CtuSet} {out table : List ℕ} where
  pub writable : Clear (set_reasons s q out table) → Writable s q out table
  writable c = record {
    left = λ h. c.0 (inl h);
    up = λ h. c.0 (inr h);
    meant = c.1.0;
    room = λ bins k. let n : ¬ (8 * length out < length bins) = λ h. c.1.1.0 (bins, k, h) in omega arith;
  }

  pub writable_clear : Writable s q out table → Clear (set_reasons s q out table)
  writable_clear w = (λ h. ⊎_elim w.left w.up h, (w.meant, (λ t. omega (arith, t.2, w.room t.0 t.1), tt)))

-- ---- deliver: the samples, and the CTB's mark

pub record Deliverable (s : State) (i k : ℕ) (samples marks : List ℕ) : Type 0 where
  pub long : length samples ≡ area (rectangle s.picture i k)
  pub new : mark_of s.picture marks i k ≡ 0
  pub low : (n : ℕ) → n < length samples → get_or samples n 0 < 2 ^ depth_of s.picture i

module _ (s : State) {i k : ℕ} {samples marks : List ℕ} where
  pub deliverable : Clear (samples_reasons s i k samples marks) → Deliverable s i k samples marks
  deliverable c = record {
    long = (Dec.not-not (ℕ_discrete (length samples) (area (rectangle s.picture i k)))).0 c.0;
    new = let a = c.1.0 in
        let one : ¬ (mark_of s.picture marks i k ≡ 1) = λ h. c.1.1.0 (inl h) in
        let two : ¬ (mark_of s.picture marks i k ≡ 2) = λ h. c.1.1.0 (inr h) in omega arith;
    low = λ n h. let m : ¬ (2 ^ depth_of s.picture i ≤ get_or samples n 0) = λ l. c.1.1.1.0 (n, h, l) in omega arith;
  }

  pub deliverable_clear : Deliverable s i k samples marks → Clear (samples_reasons s i k samples marks)
  deliverable_clear d = (
    λ n. n d.long,
    (λ h. omega (arith, d.new), (λ h. ⊎_elim (λ e. omega (arith, d.new)) (λ e. omega (arith, d.new)) h, (λ t. omega (arith, t.2, d.low t.0 t.1), tt))),
  )

-- ---- filter: marks, and what is not in yet

-- the CTU's set is in: it was read as one of the numbers before
abbrev pub SetIn : State → ℕ → Type 0
SetIn s k = (n : ℕ) × (n < s.next) × (address s.picture n ≡ k)

set_in : (s : State) (k : ℕ) → ¬ SetIsMissing s k → SetIn s k
set_in s k there = (Dec.not-not (some? s.next (λ n. ℕ_discrete (address s.picture n) k))).0 (λ f. there (λ n h e. f (n, h, e)))

pub record Ready (s : State) (i k : ℕ) (marks table : List ℕ) : Type 0 where
  pub low : (j : ℕ) → Waits s.picture (offsets_at table i k) k j → mark_of s.picture marks i j ≤ 2
  pub new : ¬ (mark_of s.picture marks i k ≡ 2)
  pub set : SetIn s k
  pub delivered : (j : ℕ) → Waits s.picture (offsets_at table i k) k j → 1 ≤ mark_of s.picture marks i j

module _ (s : State) {i k : ℕ} {marks table : List ℕ} where
  pub ready : Clear (ready_reasons s i k marks table) → Ready s i k marks table
  ready c = record {
    low = λ j w. let n : ¬ (2 < mark_of s.picture marks i j) = λ h. c.0 (j, w, h) in omega arith;
    new = c.1.0;
    set = set_in s k (λ h. c.1.1.0 (inl h));
    delivered = λ j w. let n : ¬ (mark_of s.picture marks i j ≡ 0) = λ h. c.1.1.0 (inr (j, w, h)) in omega arith;
  }

  pub ready_clear : Ready s i k marks table → Clear (ready_reasons s i k marks table)
  ready_clear r = (
    λ t. omega (arith, t.2, r.low t.0 t.1),
    (
      r.new,
      (λ h. ⊎_elim (λ missing. missing r.set.0 r.set.1 r.set.2) (λ t. omega (arith, t.2, r.delivered t.0 t.1)) h, tt),
    ),
  )

-- ---- and what is in: the CTU's set, and the deblocked samples

pub record Filterable (s : State) (i k : ℕ) (deblocked : Planes) (table : List ℕ) : Type 0 where
  pub sound : Sound (switches_at s.picture table k) table k
  pub low : (x y : ℕ) → Scans s.picture i (offsets_at table i k) k x y → at (plane_of deblocked i) (plane_width s.picture i) x y < 2 ^ depth_of s.picture i

module _ (s : State) {i k : ℕ} {deblocked : Planes} {table : List ℕ} where
  pub filterable : Clear (stored_reasons s i k deblocked table) → Filterable s i k deblocked table
  filterable c = record {
    sound = (Dec.not-not (sound? (switches_at s.picture table k) table k)).0 c.0;
    low = λ x y scans.
        let n : ¬ (2 ^ depth_of s.picture i ≤ at (plane_of deblocked i) (plane_width s.picture i) x y) = λ h. c.1.0 (x, y, scans, h) in omega arith;
  }

  pub filterable_clear : Filterable s i k deblocked table → Clear (stored_reasons s i k deblocked table)
  filterable_clear f = (λ n. n f.sound, (λ t. omega (arith, t.3, f.low t.0 t.1 t.2), tt))

-- ---- finished rows: the component, and its marks

pub record Countable (s : State) (i : ℕ) (marks : List ℕ) : Type 0 where
  pub component : i < components s.picture
  pub low : (k : ℕ) → k < ctu_count s.picture → mark_of s.picture marks i k ≤ 2

module _ (s : State) {i : ℕ} {marks : List ℕ} where
  pub countable : Clear (marks_reasons s i marks) → Countable s i marks
  countable c = record {
    component = let n : ¬ (components s.picture ≤ i) = c.0 in omega arith;
    low = λ k h. let n : ¬ (2 < mark_of s.picture marks i k) = λ l. c.1.0 (k, h, l) in omega arith;
  }

  pub countable_clear : Countable s i marks → Clear (marks_reasons s i marks)
  countable_clear c = (λ h. omega (arith, c.component), (λ t. omega (arith, t.2, c.low t.0 t.1), tt))
