-- The code of a CTU: the full form, the merges before it, and the bins that mean a set.
use mathlib.Core.Path.{◌≡◌, refl, sym, ap, ap₂, ◌∙◌, subst}
use mathlib.Core.Bool.{Bool, true, false}
use mathlib.Core.List.{List, [], ◌∷◌, ◌++◌}
use Rattle.std.specs.Prelude.{Option, Some as some, None as none}
use Prim.Native.Nat.{ℕ}
use Rattle.standard.specs.declared.Offsets.{Offsets}
use Rattle.standard.specs.declared.Offsets.TheVariants.{Off}
use Rattle.standard.specs.declared.CtuSet.{CtuSet}
use Rattle.standard.specs.declared.Switches.{Switches}
use Rattle.standard.specs.Sets.{most, Fits, Ruled, Valid, all_off}
use Rattle.standard.specs.Bins.{when, full}
use Rattle.standard.specs.Means.{any_on, not_taken, Means, no_bins, merged_left, merged_up, in_full}
use Rattle.standard.proofs.Codes.{impossible, Code, Spelled, Empty, IsBit, Then, pure, bit, both, as_code, in_turn, said_of}
use Rattle.standard.proofs.Components.{component_bins, component_code, ChromaFits, chroma_bins, chroma_code}

-- ---- the full form

abbrev pub LumaRule : Bool → ℕ → Offsets → Type 0
LumaRule on m c = Ruled on (Fits m c) (c ≡ Off)

abbrev pub ChromaRule : Bool → ℕ → ℕ → Offsets × Offsets → Type 0
ChromaRule on m n t = Ruled on (ChromaFits m n t) ((t.0 ≡ Off) × (t.1 ≡ Off))

unfoldable pub luma_code : (on : Bool) (m : ℕ) → Code (Spelled (LumaRule on m) (λ c. when on (component_bins m c)))
unfolding pure component_code
luma_code true m = component_code m
luma_code false m = pure Off

pub no_chroma_to : (t : Offsets × Offsets) → t ≡ (Off, Off) → ((t.0 ≡ Off) × (t.1 ≡ Off)) × (◌≡◌ {A = List Bool} [] [])
no_chroma_to t e = ((ap (λ (t : Offsets × Offsets). t.0) e, ap (λ (t : Offsets × Offsets). t.1) e), refl)

pub no_chroma_from : (t : Offsets × Offsets) → (t.0 ≡ Off) × (t.1 ≡ Off) → (a : Offsets × Offsets) × (a ≡ t) × (a ≡ (Off, Off))
no_chroma_from t i = (t, refl, λ n. (i.0 n, i.1 n))

unfoldable pub two_code : (on : Bool) (m n : ℕ) → Code (Spelled (ChromaRule on m n) (λ t. when on (chroma_bins m n t)))
unfolding said_of pure chroma_code
two_code true m n = chroma_code m n
two_code false m n = said_of (pure (Off, Off)) (λ t. t) no_chroma_to no_chroma_from

abbrev pub ctu_set : Offsets × (Offsets × Offsets) → CtuSet
ctu_set t = record { luma = t.0; cb = t.1.0; cr = t.1.1 }

abbrev pub BothRules : Switches → Offsets × (Offsets × Offsets) → Type 0
BothRules s t = LumaRule s.luma (most s 0) t.0 × ChromaRule s.chroma (most s 1) (most s 2) t.1

abbrev pub full_bins : Switches → Offsets × (Offsets × Offsets) → List Bool
full_bins s t = when s.luma (component_bins (most s 0) t.0) ++ when s.chroma (chroma_bins (most s 1) (most s 2) t.1)

pub full_to : (s : Switches) (t : Offsets × (Offsets × Offsets)) → BothRules s t → Valid s (ctu_set t) × (full_bins s t ≡ full s (ctu_set t))
unfolding full
full_to s t (i, j) = (record { luma = i; chroma = j }, refl)

pub full_from : (s : Switches) (q : CtuSet) → Valid s q → (t : Offsets × (Offsets × Offsets)) × (ctu_set t ≡ q) × BothRules s t
full_from s q i = ((q.luma, (q.cb, q.cr)), refl, (i.luma, i.chroma))

unfoldable pub full_code : (s : Switches) → Code (Spelled (Valid s) (full s))
unfolding said_of in_turn luma_code two_code
full_code s = said_of (in_turn (luma_code s.luma (most s 0)) (λ c. two_code s.chroma (most s 1) (most s 2))) ctu_set (full_to s) (full_from s)

-- ---- a merge, or what follows where it is not taken

-- the neighbour's set was merged with one bin; or it was not, and then I
pub data Merge (o : Option CtuSet) (I : CtuSet → List Bool → Type 0) (q : CtuSet) (w : List Bool) : Type 0 where
  taken : o ≡ some q → w ≡ true ∷ [] → Merge o I q w
  passed : (v : List Bool) → w ≡ not_taken o ++ v → I q v → Merge o I q w

not_some : {q : CtuSet} {X : Type 0} → none ≡ some q → X
not_some e = impossible cc

-- after the bin of the merge with n
abbrev pub Merged : (CtuSet → List Bool → Type 0) → CtuSet → Bool → CtuSet → List Bool → Type 0
Merged I n true q w = Empty n q w
Merged I n false q w = I q w

module _ {I : CtuSet → List Bool → Type 0} where
  pub absent_to : (q : CtuSet) (w : List Bool) → I q w → Merge none I q w
  absent_to q w i = passed w refl i

  pub absent_from : (q : CtuSet) (w : List Bool) → Merge none I q w → (a : CtuSet) × (a ≡ q) × I a w
  absent_from q w (taken e f) = not_some e
  absent_from q w (passed v e i) = (q, refl, subst (I q) (sym e) i)

  pub present_to : (n : CtuSet) (t : Bool × CtuSet) (w : List Bool) → Then IsBit (Merged I n) t w → Merge (some n) I t.1 w
  present_to n (true, q) w (u, v, e, i, j) =
      taken (ap some (sym j.holds)) (e ∙ ap₂ (λ (x y : List Bool). x ++ y) i.bins j.bins)
  present_to n (false, q) w (u, v, e, i, j) = passed v (e ∙ ap (λ (x : List Bool). x ++ v) i.bins) j

  pub present_from : (n q : CtuSet) (w : List Bool) → Merge (some n) I q w → (t : Bool × CtuSet) × (t.1 ≡ q) × Then IsBit (Merged I n) t w
  present_from n q w (taken e f) =
      ((true, q), refl, (true ∷ [], [], f, record { holds = tt; bins = refl }, record { holds = cc; bins = refl }))
  present_from n q w (passed v e i) = ((false, q), refl, (false ∷ [], v, e, record { holds = tt; bins = refl }, i))

  unfoldable pub after_merge : Code I → (n : CtuSet) (b : Bool) → Code (Merged I n b)
  unfolding pure
  after_merge c n true = pure n
  after_merge c n false = c

  unfoldable pub merge_code : (o : Option CtuSet) → Code I → Code (Merge o I)
  unfolding as_code both bit after_merge
  merge_code none c = as_code c (λ q. q) absent_to absent_from
  merge_code (some n) c = as_code (both bit (after_merge c n)) (λ t. t.1) (present_to n) (present_from n)

-- ---- the CTU

abbrev pub Merges : Switches → Option CtuSet → Option CtuSet → CtuSet → List Bool → Type 0
Merges s left up = Merge left (Merge up (Spelled (Valid s) (full s)))

pub clash : {X : Type 0} {b : Bool} → b ≡ true → b ≡ false → X
clash e f = impossible cc

module _ (s : Switches) (left up : Option CtuSet) where
  pub on_to : any_on s ≡ true → (q : CtuSet) (w : List Bool) → Merges s left up q w → Means s left up q w
  on_to on q w (taken e f) = merged_left on e f
  on_to on q w (passed v e (taken f g)) = merged_up on f (e ∙ ap (λ (x : List Bool). not_taken left ++ x) g)
  on_to on q w (passed v e (passed v' f i)) =
      in_full on i.holds (e ∙ ap (λ (x : List Bool). not_taken left ++ x) (f ∙ ap (λ (x : List Bool). not_taken up ++ x) i.bins))

  pub on_from : any_on s ≡ true → (q : CtuSet) (w : List Bool) → Means s left up q w → (a : CtuSet) × (a ≡ q) × Merges s left up a w
  on_from on q w (no_bins e f g) = clash on e
  on_from on q w (merged_left e f g) = (q, refl, taken f g)
  on_from on q w (merged_up e f g) = (q, refl, passed (true ∷ []) g (taken f refl))
  on_from on q w (in_full e f g) = (q, refl, passed (not_taken up ++ full s q) g (passed (full s q) refl (record { holds = f; bins = refl })))

  pub none_on_to : any_on s ≡ false → (q : CtuSet) (w : List Bool) → Empty all_off q w → Means s left up q w
  none_on_to none_on q w i = no_bins none_on i.holds i.bins

  pub none_on_from : any_on s ≡ false → (q : CtuSet) (w : List Bool) → Means s left up q w → (a : CtuSet) × (a ≡ q) × Empty all_off a w
  none_on_from none_on q w (no_bins e f g) = (q, refl, record { holds = f; bins = g })
  none_on_from none_on q w (merged_left e f g) = clash e none_on
  none_on_from none_on q w (merged_up e f g) = clash e none_on
  none_on_from none_on q w (in_full e f g) = clash e none_on

  unfoldable pub code_by : (on : Bool) → any_on s ≡ on → Code (Means s left up)
  unfolding as_code pure merge_code full_code
  code_by true e = as_code (merge_code left (merge_code up (full_code s))) (λ q. q) (on_to e) (on_from e)
  code_by false e = as_code (pure all_off) (λ q. q) (none_on_to e) (none_on_from e)

  unfoldable pub ctu_code : Code (Means s left up)
  unfolding code_by
  ctu_code = code_by (any_on s) refl
