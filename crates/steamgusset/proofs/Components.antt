-- A component's number in a byte stands for the number itself. A number above 255 is that of no component, and neither is 255: where a call
-- refuses the one, it refuses the other with the same number, and it accepts neither.
use mathlib.Core.List.{List, [], ◌++◌}
use mathlib.Core.Logic.{⊎_elim}
use mathlib.Core.Path.{◌≡◌, subst}
use Prim.Native.Nat.{ℕ, ◌≤◌}
use native.Mathlib.Decide.{dec_le}
use native.Mathlib.Omega.{arith}
use Rattle.standard.specs.declared.State.{State}
use Rattle.standard.specs.Refusals.{Reason, First, Clear}
use Rattle.standard.specs.Reasons.{Planes, PlanesFit, MarksFit, TableFits, NoSuchComponent}
use Rattle.standard.specs.Reasons.{call_reasons, block_reasons, samples_reasons, ready_reasons, stored_reasons, marks_reasons, deliver_reasons, filter_reasons, rows_reasons}
use Rattle.standard.proofs.Called.{absent_block, absent_marks}
use Rattle.standard.proofs.Numbers.{first_unique, first_not_clear}
use Rattle.standard.proofs.Parts.{clear_front, clear_back, first_front, first_back, first_either}
use Rattle.standard.proofs.Three.{components_most}
use Rattle.steamgusset.specs.Boundary.{in_byte}
use Rattle.steamgusset.proofs.Crossing.{Crosses}

pub in_byte_is : (i : ℕ) → i ≤ 255 → in_byte i ≡ i
in_byte_is i l = omega arith

-- ---- the reasons of a call, by the component

-- the front does not speak of the component, and the next part refuses with m from 255 on
module _ (front : List Reason) (named rest : ℕ → List Reason) (m : ℕ) (absent : (i : ℕ) → 255 ≤ i → First (named i) m) where
  abbrev reasons : ℕ → List Reason
  reasons i = (front ++ named i) ++ rest i

  not_clear : (i : ℕ) → 255 ≤ i → ¬ Clear (front ++ named i)
  not_clear i l c = first_not_clear (named i) m (absent i l) (clear_back front (named i) c)

  shared : (i j n : ℕ) → 255 ≤ i → 255 ≤ j → First (front ++ named i) n → First (front ++ named j) n
  shared i j n l k f =
      ⊎_elim (λ g. first_front front (named j) n g)
      (λ g. subst (First (front ++ named j)) (first_unique (named i) (absent i l) g.1) (first_back front (named j) m g.0 (absent j k)))
      (first_either front (named i) n f)

  first_crosses : (i n : ℕ) → Dec (i ≤ 255) → First (reasons (in_byte i)) n → First (reasons i) n
  first_crosses i n (yes l) f = subst (λ (j : ℕ). First (reasons j) n) (in_byte_is i l) f
  first_crosses i n (no l) f =
      let b : 255 ≤ in_byte i = omega arith in
      ⊎_elim (λ g. first_front (front ++ named i) (rest i) n (shared (in_byte i) i n b (omega arith) g)) (λ g. absurd (not_clear (in_byte i) b g.0))
      (first_either (front ++ named (in_byte i)) (rest (in_byte i)) n f)

  clear_crosses : (i : ℕ) → Dec (i ≤ 255) → Clear (reasons (in_byte i)) → in_byte i ≡ i
  clear_crosses i (yes l) c = in_byte_is i l
  clear_crosses i (no l) c = absurd (not_clear (in_byte i) (omega arith) (clear_front (front ++ named (in_byte i)) (rest (in_byte i)) c))

  pub crosses : Crosses reasons
  crosses = record { first = λ i n. first_crosses i n (dec_le i 255); clear = λ i. clear_crosses i (dec_le i 255) }

module _ (s : State) where
  absent : (i : ℕ) → 255 ≤ i → NoSuchComponent s i
  absent i l = omega (arith, components_most s.picture)

  no_block : (k i : ℕ) → 255 ≤ i → First (block_reasons s i k) 3
  no_block k i l = absent_block s i k (absent i l)

  pub deliver_crosses : (k : ℕ) (samples : List ℕ) (deblocked : Planes) (marks : List ℕ) → Crosses (λ i. deliver_reasons s i k samples deblocked marks)
  deliver_crosses k samples deblocked marks =
      crosses (call_reasons s (PlanesFit s.picture deblocked × MarksFit s.picture marks)) (λ i. block_reasons s i k) (λ i. samples_reasons s i k samples marks) 3 (no_block k)

  pub filter_crosses : (k : ℕ) (deblocked filtered : Planes) (marks table : List ℕ) → Crosses (λ i. filter_reasons s i k deblocked filtered marks table)
  filter_crosses k deblocked filtered marks table =
      crosses (call_reasons s (PlanesFit s.picture deblocked × PlanesFit s.picture filtered × MarksFit s.picture marks × TableFits s.picture table))
      (λ i. block_reasons s i k) (λ i. ready_reasons s i k marks table ++ stored_reasons s i k (deblocked) table) 3 (no_block k)

  pub rows_crosses : (filtered : Planes) (marks : List ℕ) → Crosses (λ i. rows_reasons s i filtered marks)
  rows_crosses filtered marks =
      crosses (call_reasons s (PlanesFit s.picture filtered × MarksFit s.picture marks)) (λ i. marks_reasons s i marks) (λ i. []) 3
      (λ i l. absent_marks s i marks (absent i l))
