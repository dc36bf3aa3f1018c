-- Finished rows: the number that the executable stage counts is one.
use mathlib.Core.Path.{◌≡◌, refl}
use mathlib.Core.List.{List}
use mathlib.Core.Logic.Dec
use mathlib.Core.Logic.{◌⊎◌, inl, inr, ⊎_elim}
use Prim.Native.Nat.{ℕ, zero, suc, ◌+◌, ◌*◌, ◌≤◌, ◌<◌}
use native.Mathlib.Decide.{ℕ_discrete}
use native.Mathlib.Omega.{arith}
use Rattle.standard.specs.declared.State.{State}
use Rattle.standard.specs.Picture.{columns, rows}
use Rattle.standard.specs.Reasons.{mark_of}
use Rattle.standard.specs.Calls.{FinishedRows}
use Rattle.standard.proofs.Decisions.{some?}
use Rattle.promises.specs.Ours.{choose, first_unfinished, finished_rows}

-- rows r up to and without e are whole; e is the end of the n rows from r on, or has an unfiltered CTB
record Leads (c n : ℕ) (mark : ℕ → ℕ) (r e : ℕ) : Type 0 where
  whole : (s j : ℕ) → r ≤ s → s < e → j < c → mark (s * c + j) ≡ 2
  ends : (e ≡ r + n) ⊎ ((e < r + n) × ((j : ℕ) × (j < c) × (¬ (mark (e * c + j) ≡ 2))))

leads : (c n : ℕ) (mark : ℕ → ℕ) (r : ℕ) → Leads c n mark r (first_unfinished c n mark r)
unfolding first_unfinished
leads c zero mark r = record { whole = λ s j a b h. absurd (omega arith); ends = inl (omega arith) }
leads c (suc n) mark r = go (some? c (λ j. Dec.not (ℕ_discrete (mark (r * c + j)) 2))) (leads c n mark (suc r))
  where
    filtered : (s j : ℕ) → ¬ ((j : ℕ) × (j < c) × (¬ (mark (r * c + j) ≡ 2))) → j < c → s ≡ r → Dec (mark (s * c + j) ≡ 2) → mark (s * c + j) ≡ 2
    filtered s j none h e (yes t) = t
    filtered s j none h e (no t) = absurd (none (j, h, rw e at t))

    first : {e : ℕ} → ¬ ((j : ℕ) × (j < c) × (¬ (mark (r * c + j) ≡ 2))) → Leads c n mark (suc r) e → (s j : ℕ) → r ≤ s → s < e → j < c → Dec (s ≡ r) → mark (s * c + j) ≡ 2
    first none l s j a b h (yes e) = filtered s j none h e (ℕ_discrete (mark (s * c + j)) 2)
    first none l s j a b h (no m) = l.whole s j (omega arith) b h

    go : {e : ℕ} (d : Dec ((j : ℕ) × (j < c) × (¬ (mark (r * c + j) ≡ 2)))) → Leads c n mark (suc r) e → Leads c (suc n) mark r (choose d r e)
    go (yes t) l = record { whole = λ s j a b h. absurd (omega arith); ends = inr (omega arith, t) }
    go (no none) l = record {
      whole = λ s j a b h. first none l s j a b h (ℕ_discrete s r);
      ends = ⊎_elim (λ e. inl (omega arith)) (λ t. inr (omega (arith, t.0), t.1)) l.ends;
    }

pub rows_finished : (s : State) (i : ℕ) (marks : List ℕ) → FinishedRows s i marks (finished_rows s i marks)
unfolding finished_rows
rows_finished s i marks =
    let p = s.picture in
    let l = leads (columns p) (rows p) (mark_of p marks i) 0 in record {
      row = first_unfinished (columns p) (rows p) (mark_of p marks i) 0;
      whole = λ r c a h. l.whole r c (omega arith) a h;
      ends = ⊎_elim (λ e. inl (omega arith)) (λ t. inr (omega (arith, t.0), t.1)) l.ends;
      number = refl;
    }
