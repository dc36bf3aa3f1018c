-- From what was found beside the CTU and what the writer did to the answer: the reasons in their order, or the bins at the front.
use mathlib.Core.Path.{◌≡◌, refl, ap, ◌∙◌, subst₂}
use mathlib.Core.List.{List, ◌++◌}
use mathlib.Core.Logic.{inl, inr, ⊎_elim}
use Rattle.std.specs.Prelude.{Option, Result, Ok, Err}
use Prim.Native.Nat.{ℕ}
use Rattle.standard.specs.declared.CtuSet.{CtuSet}
use Rattle.standard.specs.declared.State.{State}
use Rattle.standard.specs.declared.Outcome.{Outcome}
use Rattle.standard.specs.declared.Refusal.{Refusal}
use Rattle.standard.specs.declared.Refusal.TheVariants.{NoBins, NoRoom}
use Rattle.standard.specs.Picture.{due, merge_left, merge_up}
use Rattle.standard.specs.declared.Switches.{Switches}
use Rattle.standard.specs.Sets.{switches_of}
use Rattle.standard.specs.Refusals.{number_of, First, Clear}
use Rattle.standard.specs.Reasons.{TableFits, left_set, upper_set, NeighbourOutsideTheRules, call_reasons, due_reasons, set_reasons, write_reasons}
use Rattle.standard.specs.Table.{entered}
use Rattle.standard.specs.Calls.{state_after}
use Rattle.standard.specs.Ensures.{Decides, Wrote, WriteEnsures}
use Rattle.standard.proofs.Parts.{decided_back}
use Rattle.geometry.specs.declared.due.Due.{Due}
use Rattle.geometry.specs.Dues.{state_of}
use Rattle.lent.proofs.Ready.{due_clear}
use Rattle.writer.specs.declared.NoRoom.{NoRoom as DoNotFit}
use Rattle.writer.specs.Forms.{Meant, shape_bins}
use Rattle.writer.specs.Outcome.{WritesSet}
use Rattle.writer.proofs.Chosen.{means_has, written_shortest}
use Rattle.writer.proofs.Outcomes as outcomes
use Rattle.writing.specs.Writing.{FindsBeside, SetWritten, HasWritten}

-- ---- the set's own reasons

module _ (s : Switches) (left up : Option CtuSet) (q : CtuSet) (out out' : List ℕ) where
  pub no_bins : ¬ Meant s left up q → out' ≡ out → SetWritten s left up q out out' (Err NoBins)
  no_bins n same = (inl (λ bins m. n (bins, m), refl), same)

  pub no_room : Meant s left up q → {e : DoNotFit} → WritesSet s left up q out out' (Err e) → SetWritten s left up q out out' (Err NoRoom)
  no_room (bins, m) w =
      (inr (λ none. none bins m, inl (outcomes.no_room s left up q (means_has m) out w, refl)), w.writes.1)

  pub spelled : {n : ℕ} → Meant s left up q → WritesSet s left up q out out' (Ok n) → SetWritten s left up q out out' (Ok n)
  spelled (bins, m) w =
      let shortest = written_shortest s left up q w.shape w.choice m in (
        (λ none. none bins m, (outcomes.room s left up q (means_has m) out w, tt)),
        (shape_bins s left up q w.shape, shortest, w.writes.1, w.writes.2),
      )

-- ---- with those of the neighbours

module _ (s : State) (q : CtuSet) (out table out' : List ℕ) where
  abbrev pub Answers : Result ℕ Refusal → Type 0
  Answers r = Decides (set_reasons s q out table) r (λ n. Wrote s q out table n out') (out' ≡ out)

  answers : ¬ NeighbourOutsideTheRules s table (merge_left s) → ¬ NeighbourOutsideTheRules s table (merge_up s)
      → (r : Result ℕ Refusal) → SetWritten (switches_of s) (left_set s table) (upper_set s table) q out out' r → Answers r
  answers l u (Ok n) (clear, (bins, shortest, number, bytes)) =
      ((⊎_elim l u, clear), record { bins = bins; shortest = shortest; number = number; bytes = bytes })
  answers l u (Err r) (first, same) = (inr (⊎_elim l u, first), same)

  -- the sets that were found are the definitions'
  pub beside : {left up : Option CtuSet} → FindsBeside s table (merge_left s) (Ok left) → FindsBeside s table (merge_up s) (Ok up)
      → (r : Result ℕ Refusal) → SetWritten (switches_of s) left up q out out' r → Answers r
  beside l u r h =
      answers l.1 u.1 r (subst₂ (λ (m n : Option CtuSet). SetWritten (switches_of s) m n q out out' r) l.0 u.0 h)

-- ---- and those of a CTU that is due, of which none holds

pub answered_after : (d : Due) (q : CtuSet) (out table out' : List ℕ) → TableFits d.of.picture table → (r : Result ℕ Refusal) → Answers (state_of d) q out table out' r
    → Decides (write_reasons (state_of d) q out table) r (λ n. Wrote (state_of d) q out table n out') (out' ≡ out)
answered_after d q out table out' fits r h =
    decided_back (call_reasons (state_of d) (TableFits d.of.picture table) ++ due_reasons (state_of d)) (set_reasons (state_of d) q out table) r _ _
    (due_clear d table fits) h

-- ---- the call's outcome, by its parts

module _ (s : State) (q : CtuSet) (out table out' : List ℕ) (o : Outcome ℕ) where
  pub refused : (r : Refusal) → First (write_reasons s q out table) (number_of r) × (out' ≡ out) → o.answer ≡ Err r → o.state ≡ s → WriteEnsures s q out table o out' table
  refused r h answer state = rw answer (h.0, (state, h.1, refl))

  pub accepted : (d : Due) (n : ℕ) (table' : List ℕ) → Clear (write_reasons s q out table) × HasWritten s q out table out' (d, n)
      → o.answer ≡ Ok n → o.state ≡ state_after s → table' ≡ entered table (due (state_of d)) q → WriteEnsures s q out table o out' table'
  accepted d n table' h answer state entry = rw answer (h.0, (state, h.1.wrote, entry ∙ ap (λ (s : State). entered table (due s) q) h.1.due))
