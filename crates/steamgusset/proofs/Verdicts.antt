-- What a test hands on is one value, and so are the verdicts of lent that hand it on, by their reasons.
use mathlib.Core.Path.{◌≡◌, sym, ap, ◌∙◌}
use mathlib.Core.List.{List}
use Prim.Native.Nat.{ℕ}
use Rattle.std.specs.Prelude.{Result, IfOk}
use Rattle.standard.specs.declared.State.{State}
use Rattle.standard.specs.declared.Refusal.{Refusal}
use Rattle.standard.specs.Refusals.{Reason}
use Rattle.standard.specs.Ensures.{Judged}
use Rattle.geometry.specs.declared.described.Described.{Described}
use Rattle.geometry.specs.declared.due.Due.{Due}
use Rattle.geometry.specs.declared.block.Block.{Block}
use Rattle.geometry.specs.Dues.{state_of}
use Rattle.geometry.proofs.Pinned.{same_described, same_due, same_block}
use Rattle.lent.specs.Lengths.{Names}
use Rattle.promises.proofs.Pinned.{judged_pinned}

module _ (rs : List Reason) (s : State) where
  pub described_pinned : (a b : Result Described Refusal)
      → Judged rs a → IfOk a (λ d. d.picture ≡ s.picture) → Judged rs b → IfOk b (λ d. d.picture ≡ s.picture) → a ≡ b
  described_pinned = judged_pinned (λ d. d.picture ≡ s.picture) (λ x y f g. same_described x y (f ∙ sym g)) rs

  pub due_pinned : (a b : Result Due Refusal) → Judged rs a → IfOk a (λ d. state_of d ≡ s) → Judged rs b → IfOk b (λ d. state_of d ≡ s) → a ≡ b
  due_pinned =
      judged_pinned (λ d. state_of d ≡ s)
      (λ x y f g. let e = f ∙ sym g in same_due x y (ap (λ (t : State). t.picture) e) (ap (λ (t : State). t.next) e)) rs

  pub block_pinned : (i k : ℕ) (a b : Result Block Refusal) → Judged rs a → IfOk a (Names s i k) → Judged rs b → IfOk b (Names s i k) → a ≡ b
  block_pinned i k =
      judged_pinned (Names s i k) (λ x y f g. same_block x y (f.picture ∙ sym g.picture) (f.component ∙ sym g.component) (f.ctb ∙ sym g.ctb)) rs
