-- The life of a picture in three parts, and what the demands promise in it: every premise of theirs is shown to hold there by computation, and
-- the promise is then drawn from the demand itself. With a premise more, that one of the pictures tried in this way does not meet, it could not
-- be drawn there.
use mathlib.Core.Path.{◌≡◌, sym, ap, ◌∙◌, subst}
use mathlib.Core.Bool.{Bool}
use mathlib.Core.List.{List, [], ◌∷◌, ◌++◌}
use Rattle.std.specs.Prelude.{Option}
use Prim.Native.Nat.{ℕ, ◌-◌, ◌*◌, ◌≤◌, ◌<◌}
use native.Mathlib.Decide.{dec_lt}
use lib.ListN.{length, get_or, replicate}
use Rattle.standard.specs.declared.CtuSet.{CtuSet}
use Rattle.standard.specs.declared.Switches.{Switches}
use Rattle.standard.specs.Picture.{components, plane_width, ctu_count, Inside, rectangle}
use Rattle.standard.specs.Sets.{switches_of, Valid, all_off}
use Rattle.standard.specs.Bins.{bins_of, packed}
use Rattle.standard.specs.Means.{Means}
use Rattle.standard.specs.Samples.{at, filtered_plane}
use Rattle.standard.specs.Refusals.{First}
use Rattle.standard.specs.Reasons.{plane_of, mark_count, left_set, upper_set, MeansHere, ShortestHere}
use Rattle.standard.specs.Calls.{Filtered, FinishedRows, leading}
use Rattle.standard.proofs.Decisions.{number_in, IsRefusal, refused_with, accepted}
use Rattle.standard.proofs.Granted.{may_write}
use Rattle.standard.proofs.Refusing.{all_fit?}
use Rattle.standard.proofs.Spelling.{Spelling, shortest, unspelled, spell_out}
use Rattle.promises.specs.World.{World, Call, Open, Read, Write, Filter, Rows, refused, set_read, bins_written, rows, Accepted, reasons_of}
use Rattle.promises.specs.Contract.{appended, unchanged}
use Rattle.promises.specs.Demands.{Due, Honest, run, Happened, sets_in, Life, Done, after, Filters, Delivers, final}
use Rattle.promises.specs.Ours.{verdict_of, ours}
use Rattle.promises.proofs.Proved.{demand1, demand2, demand3}
use Rattle.worlds.proofs.Small.{IsYes, IsNo, holds, fails, all?, filters?, delivers?}
use Rattle.worlds.proofs.Events.{Setup, Time, world_at, lent, lent_lengths, own, Event, reads, Happen, until, calls, happen_on, run_is, honest, Known, known?, sets_among, happened, only_happened, sets_among_lem}

pub record Story : Type 0 where
  pub setup : Setup
  -- what happens until the last CTU is due, and its bins
  pub signalling : List Event
  pub bytes : List ℕ
  pub count : ℕ
  -- until all sets and blocks are in; by then one block of a component is filtered, of which so many rows are finished, and another is not
  pub arriving : List Event
  pub filtered : ℕ × ℕ
  pub rows : ℕ
  pub unfiltered : ℕ × ℕ
  -- until all is filtered
  pub finishing : List Event
  -- a set that no bins mean
  pub strange : CtuSet

-- room for the longest CTU
abbrev pub room : List ℕ
room = replicate 51 0

module _ (s : Story) where
  abbrev pub start : Time
  start = record { next = 0; marks = replicate (mark_count s.setup.picture) 0 }

  abbrev pub last_ctu : ℕ
  last_ctu = ctu_count s.setup.picture - 1

  abbrev pub last_set : CtuSet
  last_set = get_or s.setup.sets last_ctu all_off

  -- the last CTU is due
  abbrev pub due_time : Time
  due_time = until s.setup start s.signalling

  abbrev pub due_world : World
  due_world = world_at s.setup due_time

  -- all is in
  abbrev pub events_in : List Event
  events_in = s.signalling ++ (reads s.bytes s.count ∷ s.arriving)

  abbrev pub in_time : Time
  in_time = until s.setup start events_in

  abbrev pub in_world : World
  in_world = world_at s.setup in_time

  abbrev pub calls_in : List Call
  calls_in = calls s.setup start events_in

  -- all is filtered
  abbrev pub events_all : List Event
  events_all = events_in ++ s.finishing

  abbrev pub calls_all : List Call
  calls_all = calls s.setup start events_all

-- ---- what is promised

pub record Promised (s : Story) : Type 0 where
  -- demand 1: the filter of the last CTB waits for its set
  pub refuses : ours (Filter 0 (last_ctu s)) (due_world s) ≡ unchanged (Filter 0 (last_ctu s)) (due_world s) 10
  pub only : First (reasons_of (Filter 0 (last_ctu s)) (due_world s)) 10
  -- demand 2: the last CTU is read, or written, as its set; a strange one is refused because no bins mean it
  pub reads : (q : CtuSet) × MeansHere (due_world s).state (due_world s).table q (bins_of s.bytes s.count)
      × (ours (Read s.bytes s.count) (due_world s) ≡ record { answer = set_read q; out = []; world = appended (due_world s) q })
  pub reads_only : MeansHere (due_world s).state (due_world s).table (last_set s) (bins_of s.bytes s.count)
      × Valid (switches_of (due_world s).state) (last_set s)
  pub writes : (bins : List Bool) × ShortestHere (due_world s).state (due_world s).table (last_set s) bins × (s.count ≡ length bins)
      × ((ours (Write (last_set s) room) (due_world s)).out ≡ packed bins room) × (bins_of (packed bins room) s.count ≡ bins)
      × ((ours (Write (last_set s) room) (due_world s)).world ≡ appended (due_world s) (last_set s))
  pub refuses_only : (bins : List Bool) → ¬ MeansHere (due_world s).state (due_world s).table s.strange bins
  -- and once all is in, a block is filtered, and rows are finished
  pub filters : Filtered (in_world s).state s.unfiltered.0 s.unfiltered.1 (in_world s).table (in_world s).deblocked (in_world s).filtered
      (ours (Filter s.unfiltered.0 s.unfiltered.1) (in_world s)).world.filtered
      × ((ours (Filter s.unfiltered.0 s.unfiltered.1) (in_world s)).world.deblocked ≡ (in_world s).deblocked)
  pub finishes : FinishedRows (in_world s).state s.filtered.0 (in_world s).marks s.rows
  -- demand 3: the one block is final, the other as it was and filtered at the first ask, and in the end the planes are the standard's
  pub filtered : (x y : ℕ) → Inside (rectangle s.setup.picture s.filtered.0 s.filtered.1) x y
      → at (plane_of (after ours (lent s.setup.picture) (calls_in s)).filtered s.filtered.0) (plane_width s.setup.picture s.filtered.0) x y
      ≡ final (own s.setup) s.setup.picture s.filtered.0 s.filtered.1 x y
  pub others : (x y : ℕ) → Inside (rectangle s.setup.picture s.unfiltered.0 s.unfiltered.1) x y
      → at (plane_of (after ours (lent s.setup.picture) (calls_in s)).filtered s.unfiltered.0) (plane_width s.setup.picture s.unfiltered.0) x y
      ≡ at (plane_of (lent s.setup.picture).filtered s.unfiltered.0) (plane_width s.setup.picture s.unfiltered.0) x y
  pub ready : Accepted (ours (Filter s.unfiltered.0 s.unfiltered.1) (after ours (lent s.setup.picture) (calls_in s))).answer
  pub whole : (i : ℕ) → i < components s.setup.picture
      → plane_of (after ours (lent s.setup.picture) (calls_all s)).filtered i ≡ filtered_plane s.setup.picture (own s.setup).parameters i ((own s.setup).planes i)

-- ---- what is computed

abbrev pub IsUnspelled : {w : Switches} {l u : Option CtuSet} {q : CtuSet} → Spelling w l u q → Type 0
IsUnspelled (shortest bins k) = ⊥
IsUnspelled (unspelled f) = Unit {0}

none_mean : {w : Switches} {l u : Option CtuSet} {q : CtuSet} (h : Spelling w l u q) → IsUnspelled h → (bins : List Bool) → ¬ Means w l u q bins
none_mean (shortest bins k) z = absurd z
none_mean (unspelled f) z = f

-- of the world in which the last CTU is due
pub record ComputedDue (s : Story) : Type 0 where
  pub waits : IsRefusal (verdict_of (Filter 0 (last_ctu s)) (due_world s))
  pub waits_with : number_in (verdict_of (Filter 0 (last_ctu s)) (due_world s)) ≡ 10
  pub waits_answer : (ours (Filter 0 (last_ctu s)) (due_world s)).answer ≡ refused 10
  pub read : ¬ IsRefusal (verdict_of (Read s.bytes s.count) (due_world s))
  pub read_answer : (ours (Read s.bytes s.count) (due_world s)).answer ≡ set_read (last_set s)
  pub written : ¬ IsRefusal (verdict_of (Write (last_set s) room) (due_world s))
  pub written_answer : (ours (Write (last_set s) room) (due_world s)).answer ≡ bins_written s.count
  pub lengths : IsYes (all_fit? s.setup.picture (due_world s).deblocked (due_world s).filtered (due_world s).marks (due_world s).table)
  pub strange : IsUnspelled (spell_out (switches_of (due_world s).state) (left_set (due_world s).state (due_world s).table) (upper_set (due_world s).state (due_world s).table) s.strange)
  pub strange_answer : (ours (Write s.strange room) (due_world s)).answer ≡ refused 12

-- of the life; whether a block is filtered or delivered is told by the events
pub record ComputedLife (s : Story) : Type 0 where
  pub opens : Accepted (ours Open (lent s.setup.picture)).answer
  pub opened : (ours Open (lent s.setup.picture)).world ≡ world_at s.setup (start s)
  pub happens : Happen s.setup (start s) (events_in s)
  pub happens_then : Happen s.setup (in_time s) s.finishing
  pub rows_answer : (ours (Rows s.filtered.0) (in_world s)).answer
      ≡ rows s.rows (leading (in_world s).state s.filtered.0 s.rows (plane_of (in_world s).filtered s.filtered.0))
  pub sets_in_lem : sets_among s.setup (start s) (events_in s) ≡ ctu_count s.setup.picture
  pub blocks_in : IsYes (all? (components s.setup.picture) (λ i. all? (ctu_count s.setup.picture) (λ k. known? s.setup (delivers? i k) (start s) (events_in s))))
  pub filtered_there : IsYes (dec_lt s.filtered.0 (components s.setup.picture))
  pub filtered_then : IsYes (known? s.setup (filters? s.filtered.0 s.filtered.1) (start s) (events_in s))
  pub unfiltered_there : IsYes (dec_lt s.unfiltered.0 (components s.setup.picture))
  pub unfiltered_in : IsYes (dec_lt s.unfiltered.1 (ctu_count s.setup.picture))
  pub unfiltered_then : IsNo (known? s.setup (filters? s.unfiltered.0 s.unfiltered.1) (start s) (events_in s))
  pub all_filtered : IsYes (all? (components s.setup.picture) (λ i. all? (ctu_count s.setup.picture) (λ k. known? s.setup (filters? i k) (start s) (events_all s))))

-- ---- each premise, of what is computed

module _ (s : Story) (c : ComputedDue s) where
  waits : First (reasons_of (Filter 0 (last_ctu s)) (due_world s)) 10
  waits = subst (First (reasons_of (Filter 0 (last_ctu s)) (due_world s))) c.waits_with (refused_with (verdict_of (Filter 0 (last_ctu s)) (due_world s)) c.waits)

  due : Due (due_world s)
  due =
      let w = due_world s in
      let may = may_write w.state (last_set s) room w.table (accepted (verdict_of (Write (last_set s) room) w) c.written) in
      let fit = holds (all_fit? w.state.picture w.deblocked w.filtered w.marks w.table) c.lengths in
      record {
        rules = may.due.rules;
        lengths = record { deblocked = fit.0; filtered = fit.1; marks = fit.2; table = fit.3 };
        unit = may.due.unit;
        left = may.set.left;
        above = may.set.up;
      }

  room_enough : (bins : List Bool) → ShortestHere (due_world s).state (due_world s).table s.strange bins → length bins ≤ 8 * length room
  room_enough bins k =
      let w = due_world s in
      absurd (none_mean (spell_out (switches_of w.state) (left_set w.state w.table) (upper_set w.state w.table) s.strange) c.strange bins k.mean)

module _ (s : Story) (c : ComputedLife s) where
  -- the events from the opening on
  life : (es : List Event) → Happen s.setup (start s) es → Life ours (own s.setup) (lent s.setup.picture) (calls s.setup (start s) es)
  life es h = record {
    lengths = lent_lengths s.setup.picture;
    opened = c.opens;
    honest = subst (Honest ours (own s.setup) (calls s.setup (start s) es)) (sym c.opened) (honest s.setup (start s) es h);
  }

  done : (Q : Call → Type 0) (es : List Event) → Happen s.setup (start s) es → Known s.setup Q (start s) es
      → Done ours (lent s.setup.picture) (calls s.setup (start s) es) Q
  done Q es h k = subst (Happened ours Q (calls s.setup (start s) es)) (sym c.opened) (happened s.setup Q (start s) es h k)

  left : (es : List Event) → Happen s.setup (start s) es → run ours (calls s.setup (start s) es) (ours Open (lent s.setup.picture)).world ≡ world_at s.setup (until s.setup (start s) es)
  left es h = ap (run ours (calls s.setup (start s) es)) c.opened ∙ run_is s.setup (start s) es h

  happens_all : Happen s.setup (start s) (events_all s)
  happens_all = happen_on s.setup (start s) (events_in s) s.finishing c.happens c.happens_then

  there : s.filtered.0 < components s.setup.picture
  there = holds (dec_lt s.filtered.0 (components s.setup.picture)) c.filtered_there

  other_there : s.unfiltered.0 < components s.setup.picture
  other_there = holds (dec_lt s.unfiltered.0 (components s.setup.picture)) c.unfiltered_there

  unfiltered_then : ¬ Done ours (lent s.setup.picture) (calls_in s) (Filters s.unfiltered.0 s.unfiltered.1)
  unfiltered_then d =
      fails (known? s.setup (filters? s.unfiltered.0 s.unfiltered.1) (start s) (events_in s)) c.unfiltered_then
      (only_happened s.setup (Filters s.unfiltered.0 s.unfiltered.1) (start s) (events_in s) c.happens
      (subst (Happened ours (Filters s.unfiltered.0 s.unfiltered.1) (calls_in s)) c.opened d))

  blocks_in : (i k : ℕ) → i < components s.setup.picture → k < ctu_count s.setup.picture → Done ours (lent s.setup.picture) (calls_in s) (Delivers i k)
  blocks_in i k il kl =
      done (Delivers i k) (events_in s) c.happens
      (holds (all? (components s.setup.picture) (λ i. all? (ctu_count s.setup.picture) (λ k. known? s.setup (delivers? i k) (start s) (events_in s)))) c.blocks_in i il k kl)

  all_filtered : (i : ℕ) → i < components s.setup.picture → (k : ℕ) → k < ctu_count s.setup.picture → Done ours (lent s.setup.picture) (calls_all s) (Filters i k)
  all_filtered i il k kl =
      done (Filters i k) (events_all s) happens_all
      (holds (all? (components s.setup.picture) (λ i. all? (ctu_count s.setup.picture) (λ k. known? s.setup (filters? i k) (start s) (events_all s)))) c.all_filtered i il k kl)

  sets_in_lem : sets_in ours (calls_in s) (ours Open (lent s.setup.picture)).world ≡ ctu_count s.setup.picture
  sets_in_lem = ap (sets_in ours (calls_in s)) c.opened ∙ sets_among_lem s.setup (start s) (events_in s) c.happens ∙ c.sets_in_lem

  first_ask : Accepted (ours (Filter s.unfiltered.0 s.unfiltered.1) (after ours (lent s.setup.picture) (calls_in s))).answer
  first_ask =
      demand3.ready (own s.setup) (lent s.setup.picture) (calls_in s) (life (events_in s) c.happens) sets_in_lem blocks_in
      s.unfiltered.0 s.unfiltered.1 other_there (holds (dec_lt s.unfiltered.1 (ctu_count s.setup.picture)) c.unfiltered_in) unfiltered_then

-- ---- so all is promised

module _ (s : Story) (c : ComputedDue s) (d : ComputedLife s) where
  pub promised : Promised s
  promised =
      let opening = lent s.setup.picture in
      let now = life s d (events_in s) d.happens in
      record {
        refuses = demand1.refuses (Filter 0 (last_ctu s)) (due_world s) 10 (waits s c);
        only = demand1.only (Filter 0 (last_ctu s)) (due_world s) 10 c.waits_answer;
        reads = demand2.reads s.bytes s.count (due_world s) (accepted (verdict_of (Read s.bytes s.count) (due_world s)) c.read);
        reads_only = demand2.reads_only s.bytes s.count (due_world s) (last_set s) c.read_answer;
        writes = demand2.writes (last_set s) room (due_world s) s.count c.written_answer;
        refuses_only = demand2.refuses_only s.strange room (due_world s) (due s c) (room_enough s c) 12 c.strange_answer;
        filters = demand2.filters s.unfiltered.0 s.unfiltered.1 (in_world s)
            (subst (λ (w : World). Accepted (ours (Filter s.unfiltered.0 s.unfiltered.1) w).answer) (left s d (events_in s) d.happens) (first_ask s d));
        finishes = (demand2.finishes s.filtered.0 (in_world s) s.rows _ d.rows_answer).0;
        filtered = λ x y h. demand3.filtered (own s.setup) opening (calls_in s) now s.filtered.0 s.filtered.1 x y (there s d) h
            (done s d (Filters s.filtered.0 s.filtered.1) (events_in s) d.happens
            (holds (known? s.setup (filters? s.filtered.0 s.filtered.1) (start s) (events_in s)) d.filtered_then));
        others = λ x y h. demand3.others (own s.setup) opening (calls_in s) now s.unfiltered.0 s.unfiltered.1 x y (other_there s d) h (unfiltered_then s d);
        ready = first_ask s d;
        whole = λ i il. demand3.whole (own s.setup) opening (calls_all s) (life s d (events_all s) (happens_all s d)) i il (all_filtered s d i il);
      }

  -- and the life ends in the world that the events tell
  pub ends : after ours (lent s.setup.picture) (calls_all s) ≡ world_at s.setup (until s.setup (start s) (events_all s))
  ends = left s d (events_all s) (happens_all s d)
