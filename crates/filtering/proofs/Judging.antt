-- The reasons to refuse filter in three parts: a refusal by one of them, where those before are clear, is one by all.
use mathlib.Core.List.{List, ◌++◌}
use mathlib.Core.Path.{◌≡◌, sym, subst}
use denote.Ref.{Bor}
use Prim.Native.Nat.{ℕ}
use lib.ListN.{length}
use Rattle.std.specs.Prelude.{Result, Ok, Err, Some, IsErrAnd}
use Rattle.standard.specs.declared.State.{State}
use Rattle.standard.specs.declared.Refusal.{Refusal}
use Rattle.standard.specs.Refusals.{Reason, First, Clear, number_of}
use Rattle.standard.specs.Reasons.{PlanesFit, MarksFit, TableFits, call_reasons, block_reasons, ready_reasons, stored_reasons, filter_reasons}
use Rattle.standard.specs.Ensures.{Judged}
use Rattle.standard.proofs.Parts.{first_front, first_back, clear_both}
use Rattle.geometry.specs.declared.block.Block.{Block}
use Rattle.lent.specs.declared.Planes.{Planes}
use Rattle.lent.specs.declared.PlaneLengths.{PlaneLengths}
use Rattle.lent.specs.Lengths.{lists_of, lengths_of, LentRight, Names}
use Rattle.lent.proofs.Lengths.{planes_fit, planes_right, begun}
use Rattle.lent.specs.States.{state_at}

passed : {T : Type 0} (rs : List Reason) (r : Refusal) (a : Result T Refusal) → IsErrAnd a (λ e. e ≡ r) → First rs (number_of r) → Judged rs a
passed rs r (Ok x) e f = absurd e
passed rs r (Err t) e f = subst (λ (r : Refusal). First rs (number_of r)) (sym e) f

module _ (s : State) (i k : ℕ) (l o : Planes) (marks table : Bor (List ℕ)) {l_long o_long : PlaneLengths} (l_is : l_long ≡ lengths_of (lists_of l)) (o_is : o_long ≡ lengths_of (lists_of o)) where
  abbrev Fit : Type 0
  Fit = PlanesFit s.picture (lists_of l) × PlanesFit s.picture (lists_of o) × MarksFit s.picture marks.now × TableFits s.picture table.now

  abbrev named : List Reason
  named = call_reasons s Fit ++ block_reasons s i k

  abbrev ready : List Reason
  ready = ready_reasons s i k marks.now table.now

  abbrev stored : List Reason
  stored = stored_reasons s i k (lists_of l) table.now

  abbrev all : List Reason
  all = filter_reasons s i k (lists_of l) (lists_of o) marks.now table.now

  -- by what the call is lent
  abbrev Begun : {T : Type 0} → Result T Refusal → Type 0
  Begun a = Judged (call_reasons s (LentRight s.picture (record { deblocked = Some l_long; filtered = Some o_long; marks = Some (length marks.now); table = Some (length table.now) })) ++ block_reasons s i k) a

  begins : {T : Type 0} (a : Result T Refusal) → Begun a → Judged named a
  begins a =
      begun s (λ r. (planes_fit s.picture (lists_of l) l_is r.deblocked, planes_fit s.picture (lists_of o) o_is r.filtered, r.marks, r.table))
      (λ f. record { deblocked = planes_right s.picture (lists_of l) l_is f.0; filtered = planes_right s.picture (lists_of o) o_is f.1; marks = f.2; table = f.3 })
      (block_reasons s i k) a

  module _ {T : Type 0} (r : Refusal) (a : Result T Refusal) (e : IsErrAnd a (λ t. t ≡ r)) where
    pub first_passed : Begun {T = Unit {0}} (Err r) → Judged all a
    first_passed f = passed all r a e (first_front (named ++ ready) stored (number_of r) (first_front named ready (number_of r) (begins {T = Unit {0}} (Err r) f)))

    module _ {b : Block} (n : Names s i k b) (c : Begun (Ok b)) where
      pub second_passed : First (ready_reasons (state_at b.of s.next) b.component b.ctb marks.now table.now) (number_of r) → Judged all a
      second_passed f = passed all r a e (first_front (named ++ ready) stored (number_of r) (first_back named ready (number_of r) (begins (Ok b) c) (rw (← n.picture, ← n.component, ← n.ctb) f)))

      pub third_passed : Clear (ready_reasons (state_at b.of s.next) b.component b.ctb marks.now table.now) → First (stored_reasons (state_at b.of 0) b.component b.ctb (lists_of l) table.now) (number_of r) → Judged all a
      third_passed d f =
          passed all r a e
          (first_back (named ++ ready) stored (number_of r) (clear_both named ready (begins (Ok b) c) (rw (← n.picture, ← n.component, ← n.ctb) d)) (rw (← n.picture, ← n.component, ← n.ctb) f))

  pub all_clear : {b : Block} → Names s i k b → Begun (Ok b) → Clear (ready_reasons (state_at b.of s.next) b.component b.ctb marks.now table.now) → Clear (stored_reasons (state_at b.of 0) b.component b.ctb (lists_of l) table.now) → Clear all
  all_clear {b} n c d f =
      clear_both (named ++ ready) stored (clear_both named ready (begins (Ok b) c) (rw (← n.picture, ← n.component, ← n.ctb) d)) (rw (← n.picture, ← n.component, ← n.ctb) f)
