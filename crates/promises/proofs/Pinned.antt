-- The contracts of the code have one outcome each: two that ensure the same of the same inputs are equal, with all that they left.
use mathlib.Core.Path.{◌≡◌, refl, sym, ap, ◌∙◌}
use mathlib.Core.List.{List, []}
use Prim.Native.Nat.{ℕ}
use Rattle.std.specs.Prelude.{Ok, Err, IfOk}
use Rattle.std.specs.Prelude as prelude
use Rattle.standard.specs.declared.State.{State}
use Rattle.standard.specs.declared.CtuSet.{CtuSet}
use Rattle.standard.specs.declared.Refusal.{Refusal}
use Rattle.standard.specs.declared.Outcome.{Outcome}
use Rattle.standard.specs.Refusals.{number_of, Reason}
use Rattle.standard.specs.Reasons.{Planes, rows_reasons}
use Rattle.standard.specs.Ensures.{Judged, Decides, OpenEnsures, DeliverEnsures, FilterEnsures, ReadEnsures, WriteEnsures, RowsEnsures, PartEnsures}
use Rattle.standard.proofs.Decisions.{differ, Verdict, refusal, clear}
use Rattle.standard.proofs.Numbers.{number_of_injective, first_unique, first_not_clear}
use Rattle.standard.proofs.Refusing.{rows_verdict}
use Rattle.standard.proofs.Finished.{rows_unique}
use Rattle.promises.specs.World.{World, Answer, refused, done, set_read, bins_written, Result}
use Rattle.promises.specs.Ties.{answered, after_open, after_deliver, after_filter, after_read, after_write}
use Rattle.promises.proofs.Finishing.{rows_finished}
use Rattle.promises.proofs.Unique.{unique}
use Rattle.promises.proofs.Tied.{open_meets, deliver_meets, filter_meets, read_meets, write_meets}

-- ---- an answer in the world is that of one answer of the code

-- where the answer tells the value and is no refusal
answered_injective : {T : Type 0} (accepts : T → Answer) → ((x y : T) → accepts x ≡ accepts y → x ≡ y) → ((x : T) (n : ℕ) → ¬ (accepts x ≡ refused n))
    → (a b : prelude.Result T Refusal) → answered accepts a ≡ answered accepts b → a ≡ b
answered_injective accepts tells accepted (Ok x) (Ok y) e = ap Ok (tells x y e)
answered_injective accepts tells accepted (Ok x) (Err r) e = absurd (accepted x (number_of r) e)
answered_injective accepts tells accepted (Err r) (Ok y) e = absurd (accepted y (number_of r) (sym e))
answered_injective accepts tells accepted (Err r) (Err t) e = ap Err (number_of_injective r t (cc))

-- ---- the parts of a result

module _ {r t : Result} (e : r ≡ t) where
  same_answer : r.answer ≡ t.answer
  same_answer = ap (λ (r : Result). r.answer) e

  same_out : r.out ≡ t.out
  same_out = ap (λ (r : Result). r.out) e

  same_world : r.world ≡ t.world
  same_world = ap (λ (r : Result). r.world) e

same_outcome : {T : Type 0} {a b : Outcome T} (accepts : T → Answer) → ((x y : T) → accepts x ≡ accepts y → x ≡ y) → ((x : T) (n : ℕ) → ¬ (accepts x ≡ refused n))
    → answered accepts a.answer ≡ answered accepts b.answer → a.state ≡ b.state → a ≡ b
same_outcome {T} {a} {b} accepts tells accepted e f =
    let g = answered_injective accepts tells accepted a.answer b.answer e in λ z. record { answer = g z; state = f z }

same_done : {a b : Outcome (Unit {0})} → answered (λ x. done) a.answer ≡ answered (λ x. done) b.answer → a.state ≡ b.state → a ≡ b
same_done = same_outcome (λ x. done) (λ x y e. refl) (λ x n e. differ (cc))

-- ---- the calls

none_lent : Planes
none_lent = record { y = []; cb = []; cr = [] }

module _ (s : State) (marks : List ℕ) (o p : Outcome (Unit {0})) (m n : List ℕ) where
  pub open_pinned : OpenEnsures s marks o m → OpenEnsures s marks p n → (o ≡ p) × (m ≡ n)
  open_pinned h k =
      let w : World = record { state = s; deblocked = none_lent; filtered = none_lent; marks = marks; table = [] } in
      let e : after_open w o m ≡ after_open w p n = unique (open_meets w o m h) (open_meets w p n k) in
      let f = same_world e in
      (same_done (same_answer e) (ap (λ (w : World). w.state) f), ap (λ (w : World). w.marks) f)

module _ (s : State) (i k : ℕ) (samples : List ℕ) (deblocked : Planes) (marks : List ℕ) (o p : Outcome (Unit {0})) (a b : Planes) (m n : List ℕ) where
  pub deliver_pinned : DeliverEnsures s i k samples deblocked marks o a m → DeliverEnsures s i k samples deblocked marks p b n
      → (o ≡ p) × (a ≡ b) × (m ≡ n)
  deliver_pinned h g =
      let w : World = record { state = s; deblocked = deblocked; filtered = none_lent; marks = marks; table = [] } in
      let e : after_deliver w o a m ≡ after_deliver w p b n = unique (deliver_meets w i k samples o a m h) (deliver_meets w i k samples p b n g) in
      let f = same_world e in
      (same_done (same_answer e) (ap (λ (w : World). w.state) f), ap (λ (w : World). w.deblocked) f, ap (λ (w : World). w.marks) f)

module _ (s : State) (i k : ℕ) (deblocked filtered : Planes) (marks table : List ℕ) (o p : Outcome (Unit {0})) (a b : Planes) (m n : List ℕ) where
  pub filter_pinned : FilterEnsures s i k deblocked filtered marks table o a m → FilterEnsures s i k deblocked filtered marks table p b n
      → (o ≡ p) × (a ≡ b) × (m ≡ n)
  filter_pinned h g =
      let w : World = record { state = s; deblocked = deblocked; filtered = filtered; marks = marks; table = table } in
      let e : after_filter w o a m ≡ after_filter w p b n = unique (filter_meets w i k o a m h) (filter_meets w i k p b n g) in
      let f = same_world e in
      (same_done (same_answer e) (ap (λ (w : World). w.state) f), ap (λ (w : World). w.filtered) f, ap (λ (w : World). w.marks) f)

module _ (s : State) (bytes : List ℕ) (count : ℕ) (table : List ℕ) (o p : Outcome CtuSet) (m n : List ℕ) where
  pub read_pinned : ReadEnsures s bytes count table o m → ReadEnsures s bytes count table p n → (o ≡ p) × (m ≡ n)
  read_pinned h k =
      let w : World = record { state = s; deblocked = none_lent; filtered = none_lent; marks = []; table = table } in
      let e : after_read w o m ≡ after_read w p n = unique (read_meets w bytes count o m h) (read_meets w bytes count p n k) in
      let f = same_world e in
      (same_outcome set_read (λ x y e. cc) (λ x n e. differ (cc)) (same_answer e) (ap (λ (w : World). w.state) f), ap (λ (w : World). w.table) f)

module _ (s : State) (q : CtuSet) (out table : List ℕ) (o p : Outcome ℕ) (a b m n : List ℕ) where
  pub write_pinned : WriteEnsures s q out table o a m → WriteEnsures s q out table p b n → (o ≡ p) × (a ≡ b) × (m ≡ n)
  write_pinned h k =
      let w : World = record { state = s; deblocked = none_lent; filtered = none_lent; marks = []; table = table } in
      let e : after_write w o a m ≡ after_write w p b n = unique (write_meets w q out o a m h) (write_meets w q out p b n k) in
      let f = same_world e in
      (same_outcome bins_written (λ x y e. cc) (λ x n e. differ (cc)) (same_answer e) (ap (λ (w : World). w.state) f), same_out e, ap (λ (w : World). w.table) f)

-- ---- what is decided by the same reasons, where the accepted value is pinned

pub decides_pinned : {T : Type 0} (rs : List Reason) (P Q : T → Type 0) (B C : Type 0) → ((x y : T) → P x → Q y → x ≡ y)
    → (a b : prelude.Result T Refusal) → Decides rs a P B → Decides rs b Q C → a ≡ b
decides_pinned rs P Q B C pins (Ok x) (Ok y) (k, f) (l, g) = ap Ok (pins x y f g)
decides_pinned rs P Q B C pins (Ok x) (Err r) (k, f) (g, l) = absurd (first_not_clear rs (number_of r) g k)
decides_pinned rs P Q B C pins (Err r) (Ok y) (f, k) (l, g) = absurd (first_not_clear rs (number_of r) f l)
decides_pinned rs P Q B C pins (Err r) (Err t) (f, k) (g, l) = ap Err (number_of_injective r t (first_unique rs f g))

-- what holds whatever is decided
either_way : {T : Type 0} (rs : List Reason) (P : T → Type 0) (B : Type 0) (a : prelude.Result T Refusal) → Decides rs a (λ x. B × P x) B → B
either_way rs P B (Ok x) (k, t) = t.0
either_way rs P B (Err r) (f, t) = t

-- a verdict alone, with a value that V pins
pub judged_pinned : {T : Type 0} (V : T → Type 0) → ((x y : T) → V x → V y → x ≡ y) → (rs : List Reason) (a b : prelude.Result T Refusal)
    → Judged rs a → IfOk a V → Judged rs b → IfOk b V → a ≡ b
judged_pinned {T} V pins rs a b h v k w = decides_pinned rs V V _ _ pins a b (decided a h v) (decided b k w)
  where
    decided : (a : prelude.Result T Refusal) → Judged rs a → IfOk a V → Decides rs a V (Unit {0})
    decided (Ok x) h v = (h, v)
    decided (Err r) h v = (h, tt)

-- ---- finished rows

module _ (s : State) (i : ℕ) (filtered : Planes) (marks : List ℕ) where
  pub rows_pinned : (o p : Outcome ℕ) → RowsEnsures s i filtered marks o → RowsEnsures s i filtered marks p → o ≡ p
  rows_pinned o p h k =
      let rs = rows_reasons s i filtered marks in
      let g = decides_pinned rs _ _ _ _ (λ m n f g. rows_unique f.1 g.1) o.answer p.answer h k in
      let f = either_way rs _ _ o.answer h ∙ sym (either_way rs _ _ p.answer k) in
      λ z. record { answer = g z; state = f z }

pub part_pinned : {s : State} {i : ℕ} {filtered : Planes} {marks a b : List ℕ} → PartEnsures s i filtered marks a → PartEnsures s i filtered marks b → a ≡ b
part_pinned {s} {i} {filtered} {marks} {a} {b} h k = go (rows_verdict s i filtered marks)
  where
    go : Verdict (rows_reasons s i filtered marks) → a ≡ b
    go (refusal n f) = h.refused n f ∙ sym (k.refused n f)
    go (clear c) = h.finished c _ (rows_finished s i marks) ∙ sym (k.finished c _ (rows_finished s i marks))
