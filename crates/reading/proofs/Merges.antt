-- Which bins have which form. Bins that mean a set by a merge have the form of that merge, and bins of that form are those of the merge.
use mathlib.Core.Path.{◌≡◌, refl, sym, ap, ◌∙◌}
use mathlib.Core.Bool.{Bool, true, false}
use mathlib.Core.List.{List, [], ◌∷◌, ◌++◌}
use Rattle.std.specs.Prelude.{Option, Some as some, None as none, is_some, Ok}
use Rattle.std.specs.Result.{result_ok}
use Rattle.standard.specs.declared.CtuSet.{CtuSet}
use Rattle.standard.specs.declared.Switches.{Switches}
use Rattle.standard.specs.Sets.{Valid, all_off}
use Rattle.standard.specs.Bins.{full}
use Rattle.standard.specs.Means.{any_on, not_taken, Means, no_bins, merged_left, merged_up, in_full, Remain}
use Rattle.standard.proofs.Codes.{impossible}
use Rattle.bins.specs.declared.Form.{Form}
use Rattle.bins.specs.declared.Form.TheVariants.{Left, Up, Full}
use Rattle.bins.specs.Forms.{ReadAs}
use Rattle.bins.proofs.Contracts.{read_form_unique}

-- bins of one form have no other
pub one_form : (s : Switches) (has_left has_up : Bool) (bins : List Bool) {f g : Form} → ReadAs s has_left has_up bins (Ok f) → ReadAs s has_left has_up bins (Ok g) → f ≡ g
one_form s has_left has_up bins {f} {g} h k =
    let same : some f ≡ some g = ap result_ok (read_form_unique s has_left has_up bins (Ok f) (Ok g) h k) in cc

-- ---- bins of a merge, or of none

-- the bin of a merge that is not taken depends on no set
same_bin : (a b : Option CtuSet) → is_some a ≡ is_some b → not_taken a ≡ not_taken b
same_bin none none e = refl
same_bin none (some q) e = impossible cc
same_bin (some q) none e = impossible cc
same_bin (some q) (some p) e = refl

module _ (s : Switches) (left up : Option CtuSet) (bins : List Bool) where
  abbrev As : Form → Type 0
  As f = ReadAs s (is_some left) (is_some up) bins (Ok f)

  pub left_form : any_on s ≡ true → is_some left ≡ true → bins ≡ true ∷ [] → As Left
  left_form on h e none u hl hu = impossible cc
  left_form on h e (some q) u hl hu = (q, refl, merged_left on refl e)

  pub up_form : any_on s ≡ true → is_some up ≡ true → bins ≡ not_taken left ++ (true ∷ []) → As Up
  up_form on h e l none hl hu = impossible cc
  up_form on h e l (some q) hl hu = (q, refl, merged_up on refl (e ∙ ap (λ (x : List Bool). x ++ (true ∷ [])) (same_bin left l (sym hl))))

  full_form : {q : CtuSet} → any_on s ≡ true → Valid s q → bins ≡ not_taken left ++ (not_taken up ++ full s q) → As (Full q)
  full_form {q} on v e l u hl hu =
      let f = ap (λ (x : List Bool). x ++ (not_taken up ++ full s q)) (same_bin left l (sym hl)) in
      let g = ap (λ (x : List Bool). not_taken l ++ (x ++ full s q)) (same_bin up u (sym hu)) in
      in_full on v (e ∙ f ∙ g)

  off_form : any_on s ≡ false → bins ≡ [] → As (Full all_off)
  off_form off e l u hl hu = no_bins off refl e

  -- with both switches off, bins remain
  pub off_remain : any_on s ≡ false → (b : Bool) (more : List Bool) → bins ≡ b ∷ more → Remain s left up bins
  off_remain off b more e = ([], b, more, all_off, e, no_bins off refl refl)

-- ---- and back

module _ {s : Switches} {left up : Option CtuSet} {bins : List Bool} {q : CtuSet} where
  pub left_bins : ReadAs s (is_some left) (is_some up) bins (Ok Left) → Means s left up q bins → bins ≡ true ∷ []
  left_bins h (no_bins off d e) = let same : Left ≡ Full all_off = one_form s _ _ bins h (off_form s left up bins off e) in impossible cc
  left_bins h (merged_left on d e) = e
  left_bins h (merged_up on d e) = let same : Left ≡ Up = one_form s _ _ bins h (up_form s left up bins on (ap is_some d) e) in impossible cc
  left_bins h (in_full on v e) = let same : Left ≡ Full q = one_form s _ _ bins h (full_form s left up bins on v e) in impossible cc

  pub up_bins : ReadAs s (is_some left) (is_some up) bins (Ok Up) → Means s left up q bins → bins ≡ not_taken left ++ (true ∷ [])
  up_bins h (no_bins off d e) = let same : Up ≡ Full all_off = one_form s _ _ bins h (off_form s left up bins off e) in impossible cc
  up_bins h (merged_left on d e) = let same : Up ≡ Left = one_form s _ _ bins h (left_form s left up bins on (ap is_some d) e) in impossible cc
  up_bins h (merged_up on d e) = e
  up_bins h (in_full on v e) = let same : Up ≡ Full q = one_form s _ _ bins h (full_form s left up bins on v e) in impossible cc
