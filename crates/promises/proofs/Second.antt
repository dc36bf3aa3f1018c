-- DEMAND 2 of every stage that meets the contract: reading, writing, filtering and finished rows by what became of the call.
use mathlib.Core.Path.{◌≡◌, sym, ap, ◌∙◌, subst}
use mathlib.Core.Bool.{Bool}
use mathlib.Core.List.{List, []}
use Prim.Native.Nat.{ℕ, ◌*◌, ◌≤◌}
use lib.ListN.{length}
use Rattle.standard.specs.declared.CtuSet.{CtuSet}
use Rattle.standard.specs.Sets.{switches_of, Valid}
use Rattle.standard.specs.Bins.{bins_of, packed}
use Rattle.standard.specs.Refusals.{Clear}
use Rattle.standard.specs.Reasons.{plane_of, MeansHere, ShortestHere}
use Rattle.standard.specs.Calls.{Filtered, FinishedRows, leading}
use Rattle.standard.proofs.Decisions.{differ}
use Rattle.standard.proofs.Granted.{DueCall, may_read, read_clear, write_clear}
use Rattle.standard.proofs.Numbers.{first_not_clear}
use Rattle.standard.proofs.Packed.{packed_back}
use Rattle.standard.proofs.Reader.{one_meaning, meant_not_early, meant_not_remain}
use Rattle.promises.specs.World.{World, Call, Read, Write, Filter, Rows, refused, set_read, bins_written, rows, Accepted, Result, Stage, reasons_of}
use Rattle.promises.specs.Contract.{appended, Contract}
use Rattle.promises.specs.Demands.{Due, Demand2}
use Rattle.promises.proofs.Stored.{here_valid, copied_sound}
use Rattle.promises.proofs.First.{Became, away, through, became, answers}

-- what comes first in a read and a write
due_call : {w : World} → Due w → DueCall w.state w.table
due_call due = record { rules = due.rules; table_fits = due.lengths.table; unit = due.unit }

-- ---- reading

-- while a unit is due, with sound state and buffers, no reason holds against bins that mean a set
pub reads_clear : (bytes : List ℕ) (count : ℕ) (w : World) {q : CtuSet} → Due w → count ≤ 8 * length bytes → MeansHere w.state w.table q (bins_of bytes count)
    → Clear (reasons_of (Read bytes count) w)
reads_clear bytes count w due room m =
    read_clear w.state bytes count w.table (record {
      due = due_call due;
      held = room;
      bins = record {
        not_early = meant_not_early m;
        none_remain = meant_not_remain m;
        copied = copied_sound w.state w.table due.left due.above;
      };
    })

-- so they are read as it, by demand 2
pub reads_as_meant : {stage : Stage} → Demand2 stage → (bytes : List ℕ) (count : ℕ) (w : World) (q : CtuSet) → Due w → count ≤ 8 * length bytes
    → MeansHere w.state w.table q (bins_of bytes count) → stage (Read bytes count) w ≡ record { answer = set_read q; out = []; world = appended w q }
reads_as_meant d bytes count w q due room m =
    let e = d.reads bytes count w (reads_clear bytes count w due room m) in
    e.2 ∙ ap (λ (a : CtuSet). record { answer = set_read a; out = []; world = appended w a }) (one_meaning e.1 m)

module _ {stage : Stage} (meets : (c : Call) (w : World) → Contract c w (stage c w)) where
  reads : (bytes : List ℕ) (count : ℕ) (w : World) → Clear (reasons_of (Read bytes count) w)
      → (q : CtuSet) × MeansHere w.state w.table q (bins_of bytes count)
      × (stage (Read bytes count) w ≡ record { answer = set_read q; out = []; world = appended w q })
  reads bytes count w free = (meets (Read bytes count) w).acts free

  reads_only : (bytes : List ℕ) (count : ℕ) (w : World) (q : CtuSet) → (stage (Read bytes count) w).answer ≡ set_read q
      → MeansHere w.state w.table q (bins_of bytes count) × Valid (switches_of w.state) q
  reads_only bytes count w q e = go (became (meets (Read bytes count) w))
    where
      go : Became (Read bytes count) w (stage (Read bytes count) w) → MeansHere w.state w.table q (bins_of bytes count) × Valid (switches_of w.state) q
      go (away n f g) = let z : refused n ≡ set_read q = sym (answers g) ∙ e in differ (cc)
      go (through k (a, m, g)) =
          let z : set_read a ≡ set_read q = sym (answers g) ∙ e in
          let means : MeansHere w.state w.table q (bins_of bytes count) = subst (λ (b : CtuSet). MeansHere w.state w.table b (bins_of bytes count)) (cc) m in
          (means, here_valid w.state w.table (may_read w.state bytes count w.table k).bins.copied means)

  -- ---- writing

  writes : (q : CtuSet) (out : List ℕ) (w : World) (n : ℕ) → (stage (Write q out) w).answer ≡ bins_written n
      → (bins : List Bool) × ShortestHere w.state w.table q bins × (n ≡ length bins) × ((stage (Write q out) w).out ≡ packed bins out)
      × (bins_of (packed bins out) n ≡ bins) × ((stage (Write q out) w).world ≡ appended w q)
  writes q out w n e = go (became (meets (Write q out) w))
    where
      go : Became (Write q out) w (stage (Write q out) w)
          → (bins : List Bool) × ShortestHere w.state w.table q bins × (n ≡ length bins) × ((stage (Write q out) w).out ≡ packed bins out)
          × (bins_of (packed bins out) n ≡ bins) × ((stage (Write q out) w).world ≡ appended w q)
      go (away m f g) = let z : refused m ≡ bins_written n = sym (answers g) ∙ e in differ (cc)
      go (through k (m, out', t, g)) =
          let z : bins_written m ≡ bins_written n = sym (answers g) ∙ e in
          let long : n ≡ length t.bins = cc t.number in (
            t.bins,
            t.shortest,
            long,
            ap (λ (r : Result). r.out) g ∙ t.bytes,
            ap (bins_of (packed t.bins out)) long ∙ packed_back t.bins out,
            ap (λ (r : Result). r.world) g,
          )

  refuses_only : (q : CtuSet) (out : List ℕ) (w : World) → Due w
      → ((bins : List Bool) → ShortestHere w.state w.table q bins → length bins ≤ 8 * length out)
      → (n : ℕ) → (stage (Write q out) w).answer ≡ refused n → (bins : List Bool) → ¬ MeansHere w.state w.table q bins
  refuses_only q out w due room n e bins m = go (became (meets (Write q out) w))
    where
      free : Clear (reasons_of (Write q out) w)
      free =
          write_clear w.state q out w.table (record {
            due = due_call due;
            set = record { left = due.left; up = due.above; meant = λ none. none bins m; room = room };
          })

      go : ¬ Became (Write q out) w (stage (Write q out) w)
      go (away k f g) = first_not_clear (reasons_of (Write q out) w) k f free
      go (through k (l, out', t, g)) = let z : bins_written l ≡ refused n = sym (answers g) ∙ e in differ (cc)

  -- ---- filtering, and finished rows

  filters : (i k : ℕ) (w : World) → Accepted (stage (Filter i k) w).answer
      → Filtered w.state i k w.table w.deblocked w.filtered (stage (Filter i k) w).world.filtered
      × ((stage (Filter i k) w).world.deblocked ≡ w.deblocked)
  filters i k w h = go (became (meets (Filter i k) w))
    where
      go : Became (Filter i k) w (stage (Filter i k) w)
          → Filtered w.state i k w.table w.deblocked w.filtered (stage (Filter i k) w).world.filtered
          × ((stage (Filter i k) w).world.deblocked ≡ w.deblocked)
      go (away n f g) = absurd (subst Accepted (answers g) h)
      go (through c (planes, t, g)) = (
        subst (Filtered w.state i k w.table w.deblocked w.filtered) (sym (ap (λ (r : Result). r.world.filtered) g)) t,
        ap (λ (r : Result). r.world.deblocked) g,
      )

  finishes : (i : ℕ) (w : World) (n : ℕ) (part : List ℕ) → (stage (Rows i) w).answer ≡ rows n part
      → FinishedRows w.state i w.marks n × (part ≡ leading w.state i n (plane_of w.filtered i))
  finishes i w n part e = go (became (meets (Rows i) w))
    where
      go : Became (Rows i) w (stage (Rows i) w) → FinishedRows w.state i w.marks n × (part ≡ leading w.state i n (plane_of w.filtered i))
      go (away m f g) = let z : refused m ≡ rows n part = sym (answers g) ∙ e in differ (cc)
      go (through k (m, t, g)) =
          let z : rows m (leading w.state i m (plane_of w.filtered i)) ≡ rows n part = sym (answers g) ∙ e in
          let same : m ≡ n = cc in
          let handed : leading w.state i m (plane_of w.filtered i) ≡ part = cc in
          (subst (FinishedRows w.state i w.marks) same t, sym handed ∙ ap (λ (a : ℕ). leading w.state i a (plane_of w.filtered i)) same)

pub second : (stage : Stage) → ((c : Call) (w : World) → Contract c w (stage c w)) → Demand2 stage
second stage m = record {
  reads = reads m;
  reads_only = reads_only m;
  writes = writes m;
  refuses_only = refuses_only m;
  filters = filters m;
  finishes = finishes m;
}
