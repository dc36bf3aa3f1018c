-- From the form of the bins to the answer: the reasons of the bins in their order, or the set that they mean.
use mathlib.Core.Path.{◌≡◌, refl, sym, ap, ◌∙◌, subst, subst₂}
use mathlib.Core.Bool.{Bool, true, false}
use mathlib.Core.List.{List, [], ◌∷◌, ◌++◌}
use mathlib.Core.Logic.{◌⊎◌, inl, inr, ⊎_elim}
use Rattle.std.specs.Prelude.{Option, Some as some, None as none, Result, Ok, Err, is_some}
use Prim.Native.Nat.{ℕ}
use Rattle.standard.specs.declared.CtuSet.{CtuSet}
use Rattle.standard.specs.declared.State.{State}
use Rattle.standard.specs.declared.Refusal.TheVariants.{TooEarly, BinsRemain}
use Rattle.standard.specs.declared.Refusal.{Refusal}
use Rattle.standard.specs.Picture.{merge_left, merge_up}
use Rattle.standard.specs.declared.Switches.{Switches}
use Rattle.standard.specs.Sets.{switches_of}
use Rattle.standard.specs.Bins.{bins_of}
use Rattle.standard.specs.Means.{any_on, not_taken, Means, Remain}
use Rattle.standard.specs.Table.{Sound, stored, stored_at}
use Rattle.standard.specs.Refusals.{number_of, Reason}
use Rattle.standard.specs.Reasons.{TableFits, left_set, upper_set, Copies, left, up, CountExceedsTheBytes, call_reasons, due_reasons, count_reasons, bins_reasons, read_reasons}
use Rattle.standard.proofs.Codes.{impossible}
use Rattle.standard.proofs.Parts.{clear_both, decided_back}
use Rattle.standard.proofs.Reader.{meant_not_early, meant_not_remain, early_not_remain}
use Rattle.standard.proofs.Refusing.{there}
use Rattle.geometry.specs.declared.due.Due.{Due}
use Rattle.geometry.specs.Dues.{state_of}
use Rattle.lent.proofs.Ready.{due_clear}
use Rattle.sets.proofs.Finding.{sound_of, found_stored}
use Rattle.bins.specs.declared.Form.{Form}
use Rattle.bins.specs.declared.Form.TheVariants.{Left, Up, Full}
use Rattle.bins.specs.declared.BinsError.{BinsError}
use Rattle.bins.specs.declared.BinsError.TheVariants as error
use Rattle.bins.specs.Forms.{ReadAs}
use Rattle.reading.specs.Reading.{Copied, Answered}
use Rattle.reading.proofs.Merges.{one_form, left_form, up_form, off_remain, left_bins, up_bins}

-- a merge has a neighbour, whose set the table holds
neighbour : (table : List ℕ) (near : Option ℕ) {q : CtuSet} → stored_at table near ≡ some q → (k : ℕ) × (near ≡ some k) × (q ≡ stored table k)
neighbour table none e = impossible cc
neighbour table (some k) e = (k, refl, cc)

-- an entry is looked at for each neighbour that there is
stored_there : (table : List ℕ) (near : Option ℕ) → is_some (stored_at table near) ≡ is_some near
stored_there table none = refl
stored_there table (some k) = refl

module _ (s : State) (bytes : List ℕ) (count : ℕ) (table : List ℕ) where
  abbrev bins : List Bool
  bins = bins_of bytes count

  abbrev sw : Switches
  sw = switches_of s

  abbrev L : Option CtuSet
  L = left_set s table

  abbrev U : Option CtuSet
  U = upper_set s table

  -- the bins are read as this
  abbrev pub ReadHere : Result Form BinsError → Type 0
  ReadHere r = ReadAs sw (is_some L) (is_some U) bins r

  abbrev pub Formed : Form → Type 0
  Formed f = ReadHere (Ok f)

  abbrev Answers : Result CtuSet Refusal → Type 0
  Answers r = Answered s bytes count table (bins_reasons s bytes count table) r

  pub read_here : (r : Result Form BinsError) {w : Switches} {has_left has_up : Bool} → w ≡ sw → has_left ≡ is_some (merge_left s) → has_up ≡ is_some (merge_up s)
      → ReadAs w has_left has_up bins r → ReadHere r
  read_here r {w} {has_left} {has_up} same l u h =
      subst₂ (λ (a b : Bool). ReadAs sw a b bins r) (l ∙ sym (stored_there table (merge_left s))) (u ∙ sym (stored_there table (merge_up s)))
      (subst (λ (x : Switches). ReadAs x has_left has_up bins r) same h)

  -- ---- a merge's form

  off_bins : (o : Option CtuSet) → any_on sw ≡ false → bins ≡ not_taken o ++ (true ∷ []) → Remain sw L U bins
  off_bins none off e = off_remain sw L U bins off true [] e
  off_bins (some q) off e = off_remain sw L U bins off false (true ∷ []) e

  -- bins that merge, and mean a set, have the form of the merge: with both switches off, bins of a merge would remain
  module _ (remain : ¬ Remain sw L U bins) where
    copies_form : {j : ℕ} (on : Bool) → any_on sw ≡ on → Copies s table bins j
        → (Formed Left × (merge_left s ≡ some j)) ⊎ (Formed Up × (merge_up s ≡ some j))
    copies_form true on (left e b) = inl (left_form sw L U bins on (ap (λ (o : Option ℕ). is_some (stored_at table o)) e) b, e)
    copies_form true on (up e b) = inr (up_form sw L U bins on (ap (λ (o : Option ℕ). is_some (stored_at table o)) e) b, e)
    copies_form false off (left e b) = absurd (remain (off_bins none off b))
    copies_form false off (up e b) = absurd (remain (off_bins L off b))

    -- bins of one form have no other
    left_only : {j : ℕ} → Formed Left → Copies s table bins j → merge_left s ≡ some j
    left_only h c =
        ⊎_elim (λ t. t.1) (λ t. let same : Left ≡ Up = one_form sw _ _ bins h t.0 in impossible cc) (copies_form (any_on sw) refl c)

    up_only : {j : ℕ} → Formed Up → Copies s table bins j → merge_up s ≡ some j
    up_only h c =
        ⊎_elim (λ t. let same : Up ≡ Left = one_form sw _ _ bins h t.0 in impossible cc) (λ t. t.1) (copies_form (any_on sw) refl c)

    full_none : {q : CtuSet} {j : ℕ} → Formed (Full q) → ¬ Copies s table bins j
    full_none {q} h c =
        ⊎_elim (λ t. let same : Full q ≡ Left = one_form sw _ _ bins h t.0 in impossible cc)
        (λ t. let same : Full q ≡ Up = one_form sw _ _ bins h t.0 in impossible cc) (copies_form (any_on sw) refl c)

  -- ---- the answers

  pub answer_early : ReadHere (Err error.TooEarly) → Answers (Err TooEarly)
  answer_early h = (inl (h L U refl refl, refl), tt)

  pub answer_remain : ReadHere (Err error.BinsRemain) → Answers (Err BinsRemain)
  answer_remain h = let r = h L U refl refl in (inr (λ e. early_not_remain e r, inl (r, refl)), tt)

  pub answer_full : {q : CtuSet} → Formed (Full q) → Answers (Ok q)
  answer_full h =
      let m = h L U refl refl in
      ((meant_not_early m, (meant_not_remain m, (λ t. full_none (meant_not_remain m) h t.1, tt))), m)

  -- a merge with a neighbour
  module _ (near : Option ℕ) {p : CtuSet} (has : stored_at table near ≡ some p) (m : Means sw L U p bins)
      (copies : (k : ℕ) → near ≡ some k → Copies s table bins k)
      (only : (j : ℕ) → ¬ Remain sw L U bins → Copies s table bins j → near ≡ some j) where
    answer_merge : (r : Result CtuSet Refusal) → Copied sw table near r → Answers r
    answer_merge (Ok q) (k, e, holds) =
        let n = neighbour table near has in
        let same : p ≡ q = n.2 ∙ ap (stored table) (there (sym e ∙ n.1)) ∙ found_stored holds in
        let remain = meant_not_remain m in (
          (meant_not_early m, (remain, (λ t. t.2 (subst (Sound sw table) (there (sym (only t.0 remain t.1) ∙ e)) (sound_of holds)), tt))),
          subst (λ (a : CtuSet). Means sw L U a bins) same m,
        )
    answer_merge (Err r) (e, bad) =
        let (k, f, _) = neighbour table near has in
        (inr (meant_not_early m, inr (meant_not_remain m, inl ((k, copies k f, bad k f), ap number_of e))), tt)

  pub answer_left : Formed Left → (r : Result CtuSet Refusal) → Copied sw table (merge_left s) r → Answers r
  answer_left h =
      let t = h L U refl refl in
      answer_merge (merge_left s) t.1 t.2 (λ k e. left e (left_bins h t.2)) (λ j n c. left_only n h c)

  pub answer_up : Formed Up → (r : Result CtuSet Refusal) → Copied sw table (merge_up s) r → Answers r
  answer_up h =
      let t = h L U refl refl in
      answer_merge (merge_up s) t.1 t.2 (λ k e. up e (up_bins h t.2)) (λ j n c. up_only n h c)

-- of a CTU that is due, and a count that the bytes hold, the reasons of a read are those of the bins
module _ (d : Due) (bytes : List ℕ) (count : ℕ) (table : List ℕ) (fits : TableFits d.of.picture table) (held : ¬ CountExceedsTheBytes bytes count) where
  abbrev due : List Reason
  due = call_reasons (state_of d) (TableFits d.of.picture table) ++ due_reasons (state_of d)

  pub answered_after : (r : Result CtuSet Refusal) → Answered (state_of d) bytes count table (bins_reasons (state_of d) bytes count table) r
      → Answered (state_of d) bytes count table (read_reasons (state_of d) bytes count table) r
  answered_after r h =
      decided_back (due ++ count_reasons bytes count) (bins_reasons (state_of d) bytes count table) r _ _
      (clear_both due (count_reasons bytes count) (due_clear d table fits) (held, tt)) h
