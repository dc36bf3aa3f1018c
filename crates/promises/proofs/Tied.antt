-- A call of the code that ensures its contract leaves what the executable stage does.
use mathlib.Core.Path.{◌≡◌, sym}
use mathlib.Core.List.{List, []}
use Prim.Native.Nat.{ℕ}
use Rattle.std.specs.Prelude.{Ok, Err}
use Rattle.std.specs.Prelude as prelude
use Rattle.standard.specs.declared.CtuSet.{CtuSet}
use Rattle.standard.specs.declared.Refusal.{Refusal}
use Rattle.standard.specs.declared.Outcome.{Outcome}
use Rattle.standard.specs.Refusals.{number_of, Clear}
use Rattle.standard.specs.Reasons.{Planes}
use Rattle.standard.specs.Ensures.{Decides, OpenEnsures, DeliverEnsures, FilterEnsures, ReadEnsures, WriteEnsures, RowsEnsures, PartEnsures}
use Rattle.promises.specs.World.{World, Call, Open, Read, Write, Deliver, Filter, Rows, Answer, refused, done, set_read, bins_written, rows, Result, reasons_of}
use Rattle.promises.specs.Contract.{Effect, unchanged, Contract}
use Rattle.promises.specs.Ours.{ours}
use Rattle.promises.specs.Ties.{answered, resulting, after_open, after_deliver, after_filter, after_read, after_write, after_rows}
use Rattle.promises.proofs.Meets.{meets_refused, meets_acted}
use Rattle.promises.proofs.Unique.{is_ours}

-- ---- from what is decided to the contract, the result a function of the answer

module _ (c : Call) (w : World) (after : Answer → Result) (before : Type 0) (same : before → (n : ℕ) → after (refused n) ≡ unchanged c w n) where
  decided : {T : Type 0} (accepts : T → Answer) (a : prelude.Result T Refusal) (acted : T → Type 0)
      → (Clear (reasons_of c w) → (x : T) → acted x → Effect c w (after (accepts x)))
      → Decides (reasons_of c w) a acted before → Contract c w (after (answered accepts a))
  decided accepts (Ok x) acted e (k, t) = meets_acted k (e k x t)
  decided accepts (Err r) acted e (f, t) = meets_refused f (same t (number_of r))

-- ---- the calls

module _ (w : World) where
  pub open_meets : (o : Outcome (Unit {0})) (marks : List ℕ) → OpenEnsures w.state w.marks o marks → Contract Open w (after_open w o marks)
  open_meets o marks h =
      decided Open w (λ a. resulting a [] o.state w.deblocked w.filtered marks w.table) _
      (λ t n z. resulting (refused n) [] (t.0 z) w.deblocked w.filtered (t.1 z) w.table)
      (λ x. done) o.answer _
      (λ k x t z. resulting done [] (t.0 z) w.deblocked w.filtered (t.1 z) w.table)
      h

  pub deliver_meets : (i k : ℕ) (samples : List ℕ) (o : Outcome (Unit {0})) (deblocked : Planes) (marks : List ℕ)
      → DeliverEnsures w.state i k samples w.deblocked w.marks o deblocked marks → Contract (Deliver i k samples) w (after_deliver w o deblocked marks)
  deliver_meets i k samples o deblocked marks h =
      decided (Deliver i k samples) w (λ a. resulting a [] o.state deblocked w.filtered marks w.table) _
      (λ t n z. resulting (refused n) [] (t.0 z) (t.1 z) w.filtered (t.2 z) w.table)
      (λ x. done) o.answer _
      (λ k x t. (deblocked, t.1, λ z. resulting done [] (t.0 z) deblocked w.filtered (t.2 z) w.table))
      h

  pub filter_meets : (i k : ℕ) (o : Outcome (Unit {0})) (filtered : Planes) (marks : List ℕ)
      → FilterEnsures w.state i k w.deblocked w.filtered w.marks w.table o filtered marks → Contract (Filter i k) w (after_filter w o filtered marks)
  filter_meets i k o filtered marks h =
      decided (Filter i k) w (λ a. resulting a [] o.state w.deblocked filtered marks w.table) _
      (λ t n z. resulting (refused n) [] (t.0 z) w.deblocked (t.1 z) (t.2 z) w.table)
      (λ x. done) o.answer _
      (λ k x t. (filtered, t.1, λ z. resulting done [] (t.0 z) w.deblocked filtered (t.2 z) w.table))
      h

  pub read_meets : (bytes : List ℕ) (count : ℕ) (o : Outcome CtuSet) (table : List ℕ)
      → ReadEnsures w.state bytes count w.table o table → Contract (Read bytes count) w (after_read w o table)
  read_meets bytes count o table h =
      decided (Read bytes count) w (λ a. resulting a [] o.state w.deblocked w.filtered w.marks table) _
      (λ t n z. resulting (refused n) [] (t.0 z) w.deblocked w.filtered w.marks (t.1 z))
      set_read o.answer _
      (λ k q t. (q, t.1, λ z. resulting (set_read q) [] (t.0 z) w.deblocked w.filtered w.marks (t.2 z)))
      h

  pub write_meets : (q : CtuSet) (room : List ℕ) (o : Outcome ℕ) (out table : List ℕ)
      → WriteEnsures w.state q room w.table o out table → Contract (Write q room) w (after_write w o out table)
  write_meets q room o out table h =
      decided (Write q room) w (λ a. resulting a out o.state w.deblocked w.filtered w.marks table) _
      (λ t n z. resulting (refused n) (t.1 z) (t.0 z) w.deblocked w.filtered w.marks (t.2 z))
      bins_written o.answer _
      (λ k n t. (n, out, t.1, λ z. resulting (bins_written n) out (t.0 z) w.deblocked w.filtered w.marks (t.2 z)))
      h

  pub rows_meets : (i : ℕ) (o : Outcome ℕ) (part : List ℕ) → RowsEnsures w.state i w.filtered w.marks o
      → PartEnsures w.state i w.filtered w.marks part → Contract (Rows i) w (after_rows w o part)
  rows_meets i o part h p =
      decided (Rows i) w (λ a. resulting a [] o.state w.deblocked w.filtered w.marks w.table) _
      (λ t n z. resulting (refused n) [] (t z) w.deblocked w.filtered w.marks w.table)
      (λ n. rows n part) o.answer _
      (λ k n t. (n, t.1, λ z. resulting (rows n (p.finished k n t.1 z)) [] (t.0 z) w.deblocked w.filtered w.marks w.table))
      h

  -- ---- so they leave what the executable stage does

  pub open_is_ours : (o : Outcome (Unit {0})) (marks : List ℕ) → OpenEnsures w.state w.marks o marks → ours Open w ≡ after_open w o marks
  open_is_ours o marks h = sym (is_ours (open_meets o marks h))

  pub deliver_is_ours : (i k : ℕ) (samples : List ℕ) (o : Outcome (Unit {0})) (deblocked : Planes) (marks : List ℕ)
      → DeliverEnsures w.state i k samples w.deblocked w.marks o deblocked marks → ours (Deliver i k samples) w ≡ after_deliver w o deblocked marks
  deliver_is_ours i k samples o deblocked marks h = sym (is_ours (deliver_meets i k samples o deblocked marks h))

  pub filter_is_ours : (i k : ℕ) (o : Outcome (Unit {0})) (filtered : Planes) (marks : List ℕ)
      → FilterEnsures w.state i k w.deblocked w.filtered w.marks w.table o filtered marks → ours (Filter i k) w ≡ after_filter w o filtered marks
  filter_is_ours i k o filtered marks h = sym (is_ours (filter_meets i k o filtered marks h))

  pub read_is_ours : (bytes : List ℕ) (count : ℕ) (o : Outcome CtuSet) (table : List ℕ)
      → ReadEnsures w.state bytes count w.table o table → ours (Read bytes count) w ≡ after_read w o table
  read_is_ours bytes count o table h = sym (is_ours (read_meets bytes count o table h))

  pub write_is_ours : (q : CtuSet) (room : List ℕ) (o : Outcome ℕ) (out table : List ℕ)
      → WriteEnsures w.state q room w.table o out table → ours (Write q room) w ≡ after_write w o out table
  write_is_ours q room o out table h = sym (is_ours (write_meets q room o out table h))

  pub rows_are_ours : (i : ℕ) (o : Outcome ℕ) (part : List ℕ) → RowsEnsures w.state i w.filtered w.marks o
      → PartEnsures w.state i w.filtered w.marks part → ours (Rows i) w ≡ after_rows w o part
  rows_are_ours i o part h p = sym (is_ours (rows_meets i o part h p))
