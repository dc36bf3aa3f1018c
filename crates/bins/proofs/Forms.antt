-- The form that a CTU's bins begin with, from its merges and the full form; and what that form says of all of them.
use mathlib.Core.Path.{◌≡◌, refl, sym, ap, ◌∙◌, subst}
use mathlib.Core.Bool.{Bool, true, false}
use mathlib.Core.List.{List, [], ◌∷◌, ◌++◌, append-nil}
use Rattle.std.specs.Prelude.{Option, Some, None, Result, Ok, Err, is_some}
use Rattle.std.specs.Result.{IsErrAnd}
use Prim.Native.Nat.{ℕ, ◌*◌, ◌≤◌, ◌<◌}
use native.Mathlib.Nat.{not-suc-le-zero}
use native.Mathlib.Omega.{arith}
use lib.ListN.{length}
use Rattle.standard.specs.declared.CtuSet.{CtuSet}
use Rattle.standard.specs.declared.Switches.{Switches}
use Rattle.standard.specs.Sets.{Valid, all_off}
use Rattle.standard.specs.Bins.{full, bins_of}
use Rattle.standard.specs.Means.{any_on, not_taken, Means, no_bins, merged_left, merged_up, in_full}
use Rattle.standard.proofs.Codes.{impossible}
use Rattle.bins.specs.declared.Cursor.{Cursor}
use Rattle.bins.specs.declared.Form.{Form}
use Rattle.bins.specs.declared.Form.TheVariants.{Left, Up, Full}
use Rattle.bins.specs.declared.BinsError.{BinsError}
use Rattle.bins.specs.declared.BinsError.TheVariants.{TooEarly, BinsRemain}
use Rattle.bins.specs.Takes.{bins_at, Taken, Takes}
use Rattle.bins.specs.Values.{MergeFits, merge_bins, FormFits, bins_of_form}
use Rattle.bins.specs.Forms.{Says, ReadAs}
use Rattle.bins.proofs.Fetch.{bins_length}
use Rattle.bins.proofs.Places.{left_over}
use Rattle.bins.proofs.Steps.{then_takes, said_cut}

-- ---- a merge

-- its one bin is missing, where the bins end too early
bin_missing : (there taken : Bool) (l : List Bool) (b : Bool) (more : List Bool) → l ++ (b ∷ more) ≡ merge_bins there taken → (there ≡ true) × (l ≡ [])
bin_missing true taken [] b more e = (refl, refl)
bin_missing true taken (x ∷ []) b more e = impossible cc
bin_missing true taken (x ∷ (y ∷ l)) b more e = impossible cc
bin_missing false taken [] b more e = impossible cc
bin_missing false taken (x ∷ l) b more e = impossible cc

abbrev pub TakesMerge : Bool → Cursor → Taken Bool → Type 0
TakesMerge there c r = Takes (MergeFits there) (merge_bins there) c r

module _ {there : Bool} {c : Cursor} where
  merge_missing : TakesMerge there c None → (there ≡ true) × (bins_at c ≡ [])
  merge_missing h = let (taken, b, more, i, e) = h.spells in bin_missing there taken (bins_at c) b more e

-- ---- merge left, else merge up, else the full form

abbrev Begins : Switches → Bool → Bool → Cursor → Taken Form → Type 0
Begins s has_left has_up c r = Takes (FormFits s has_left has_up) (bins_of_form s has_left has_up) c r

module _ (s : Switches) (has_left has_up : Bool) {c : Cursor} where
  pub left_missing : TakesMerge has_left c None → Begins s has_left has_up c None
  left_missing h = let m = merge_missing h in record { spells = (Left, true, [], m.0, ap (λ (l : List Bool). l ++ (true ∷ [])) m.1) }

  module _ {d : Cursor} (h : TakesMerge has_left c (Some (false, d))) where
    pub up_missing : TakesMerge has_up d None → Begins s has_left has_up c None
    up_missing k =
        let m = merge_missing k in
        let front = h.spells.1 ∙ ap (λ (l : List Bool). merge_bins has_left false ++ l) m.1 ∙ append-nil (merge_bins has_left false) in
        record { spells = (Up, true, [], m.0, ap (λ (l : List Bool). l ++ (true ∷ [])) front) }

    module _ {e : Cursor} (k : TakesMerge has_up d (Some (false, e))) where
      pub full_missing : Takes (Valid s) (full s) e None → Begins s has_left has_up c None
      full_missing l = said_cut Full (λ q v. (v, refl)) (then_takes h (then_takes k l))

-- ---- what a form says

-- the bin of a merge that is not taken
passed : {there : Bool} (o : Option CtuSet) → is_some o ≡ there → merge_bins there false ≡ not_taken o
passed None e = ap (λ (b : Bool). merge_bins b false) (sym e)
passed (Some q) e = ap (λ (b : Bool). merge_bins b false) (sym e)

set_there : (o : Option CtuSet) → is_some o ≡ true → (q : CtuSet) × (o ≡ Some q)
set_there None e = impossible cc
set_there (Some q) e = (q, refl)

module _ (s : Switches) {has_left has_up : Bool} (on : any_on s ≡ true) (left up : Option CtuSet)
    (hl : is_some left ≡ has_left) (hu : is_some up ≡ has_up) where
  -- the bins of a form are as it says
  whole : (f : Form) → FormFits s has_left has_up f → {bins : List Bool} → bins ≡ bins_of_form s has_left has_up f → Says s left up bins (Ok f)
  whole Left i e = let n = set_there left (hl ∙ i) in (n.0, n.1, merged_left on n.1 e)
  whole Up i e =
      let n = set_there up (hu ∙ i) in
      (n.0, n.1, merged_up on n.1 (e ∙ ap (λ (l : List Bool). l ++ (true ∷ [])) (passed left hl)))
  whole (Full q) i e =
      in_full on i
      (e ∙ ap (λ (l : List Bool). l ++ (merge_bins has_up false ++ full s q)) (passed left hl)
      ∙ ap (λ (l : List Bool). not_taken left ++ (l ++ full s q)) (passed up hu))

  -- so they mean a set
  means_a_set : (f : Form) → FormFits s has_left has_up f → {bins : List Bool} → bins ≡ bins_of_form s has_left has_up f
      → (q : CtuSet) × Means s left up q bins
  means_a_set Left i e = let t = whole Left i e in (t.0, t.2)
  means_a_set Up i e = let t = whole Up i e in (t.0, t.2)
  means_a_set (Full q) i e = (q, whole (Full q) i e)

-- ---- all the bins

nil_of : (l : List Bool) → length l ≡ 0 → l ≡ []
nil_of [] e = refl
nil_of (b ∷ l) e = absurd (omega (arith, e))

cons_of : (l : List Bool) → 0 < length l → (b : Bool) × (more : List Bool) × (l ≡ b ∷ more)
cons_of [] h = absurd (not-suc-le-zero h)
cons_of (b ∷ l) h = (b, l, refl)

module _ (s : Switches) (has_left has_up : Bool) where
  abbrev Formed : List Bool → Result Form BinsError → Type 0
  Formed bins r = ReadAs s has_left has_up bins r

  -- an error that a `?` hands on
  pub handed_on : (bins : List Bool) (r : Result Form BinsError) (e : BinsError) → IsErrAnd r (λ x. x ≡ e) → Formed bins (Err e) → Formed bins r
  handed_on bins (Ok f) e i h = absurd i
  handed_on bins (Err x) e i h = subst (λ (y : BinsError). Formed bins (Err y)) (sym i) h

  -- all the bins from a cursor on
  module _ (on : any_on s ≡ true) {start : Cursor} where
    pub form_early : Begins s has_left has_up start None → Formed (bins_at start) (Err TooEarly)
    form_early h left up hl hu =
        let (f, b, more, i, e) = h.spells in
        let m = means_a_set s on left up hl hu f i e in
        (b, more, m.0, m.1)

    module _ {f : Form} {end : Cursor} (h : Begins s has_left has_up start (Some (f, end))) where
      pub form_remains : end.at < end.count → Formed (bins_at start) (Err BinsRemain)
      form_remains g left up hl hu =
          let t = cons_of (bins_at end) (omega (arith, left_over end, g)) in
          let m = means_a_set s on left up hl hu f h.spells.0 refl in
          (bins_of_form s has_left has_up f, t.0, t.1, m.0, h.spells.1 ∙ ap (λ (l : List Bool). bins_of_form s has_left has_up f ++ l) t.2, m.1)

      pub form_whole : end.count ≤ end.at → Formed (bins_at start) (Ok f)
      form_whole g left up hl hu =
          let none_left = nil_of (bins_at end) (omega (arith, left_over end, g)) in
          whole s on left up hl hu f h.spells.0
          (h.spells.1 ∙ ap (λ (l : List Bool). bins_of_form s has_left has_up f ++ l) none_left ∙ append-nil (bins_of_form s has_left has_up f))

  -- both switches off
  module _ (bytes : List ℕ) (count : ℕ) (room : count ≤ 8 * length bytes) (off : any_on s ≡ false) where
    pub off_remains : 0 < count → Formed (bins_of bytes count) (Err BinsRemain)
    off_remains g left up hl hu =
        let t = cons_of (bins_of bytes count) (omega (arith, bins_length bytes count room, g)) in
        ([], t.0, t.1, all_off, t.2, no_bins off refl refl)

    pub off_whole : count ≡ 0 → Formed (bins_of bytes count) (Ok (Full all_off))
    off_whole e left up hl hu = no_bins off refl (nil_of (bins_of bytes count) (omega (arith, bins_length bytes count room, e)))
