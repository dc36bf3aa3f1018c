-- The shortest bins of a set, found: merge left if the left set is equal, else merge up, else the full form; or that no bins mean it.
use mathlib.Core.Path.{◌≡◌, refl, ap}
use mathlib.Core.Bool.{Bool, true, false}
use mathlib.Core.List.{List, [], ◌∷◌, ◌++◌}
use Rattle.std.specs.Prelude.{Option, Some as some, None as none}
use Prim.Native.Nat.{◌≤◌}
use native.Mathlib.Omega.{arith}
use lib.ListN.{length, length-append}
use Rattle.standard.specs.declared.Offsets.{Offsets}
use Rattle.standard.specs.declared.Offsets.TheVariants.{Off, Band, Edge}
use Rattle.standard.specs.declared.CtuSet.{CtuSet}
use Rattle.standard.specs.declared.Switches.{Switches}
use Rattle.standard.specs.Sets.{most, Valid, all_off}
use Rattle.standard.specs.Bins.{truncated, type_bins, rest, rest_of_cr, when, full}
use Rattle.standard.specs.Means.{either, any_on, not_taken, Means, no_bins, merged_left, merged_up, in_full, Shortest}
use Rattle.standard.proofs.Ctu.{clash}
use Rattle.standard.proofs.Decisions.{differ, by_iff}
use Rattle.standard.proofs.Judging.{same_set?, valid?}

pub data Spelling (s : Switches) (left up : Option CtuSet) (q : CtuSet) : Type 0 where
  shortest : (bins : List Bool) → Shortest s left up q bins → Spelling s left up q
  unspelled : ((bins : List Bool) → ¬ Means s left up q bins) → Spelling s left up q

-- whether a neighbour is there, and its set is q
unfoldable pub is_it? : (o : Option CtuSet) (q : CtuSet) → Dec (o ≡ some q)
unfolding same_set?
is_it? none q = no (λ e. differ (cc))
is_it? (some a) q = by_iff (λ e. ap some e) (λ e. cc) (same_set? a q)

-- ---- a set that has bins has one at least

type_length : (c : Offsets) → 1 ≤ length (type_bins c)
unfolding truncated
type_length Off = omega arith
type_length (Band p o) = omega arith
type_length (Edge k o) = omega arith

pub full_not_empty : (s : Switches) (q : CtuSet) → any_on s ≡ true → 1 ≤ length (full s q)
unfolding full
full_not_empty s q e = go s.luma s.chroma e
  where
    go : (a b : Bool) → either a b ≡ true
        → 1 ≤ length (when a (type_bins q.luma ++ rest (most s 0) q.luma) ++ when b (type_bins q.cb ++ (rest (most s 1) q.cb ++ rest_of_cr (most s 2) q.cr)))
    go true b f = simp length-append (omega (arith, type_length q.luma))
    go false true f = simp length-append (omega (arith, type_length q.cb))
    go false false f = clash f refl

pub means_not_empty : {s : Switches} {l u : Option CtuSet} {q : CtuSet} {bins : List Bool} → any_on s ≡ true → Means s l u q bins → 1 ≤ length bins
means_not_empty e (no_bins f g h) = clash e f
means_not_empty e (merged_left f g h) = rw h (omega arith)
means_not_empty e (merged_up f g h) = rw h (simp length-append (omega arith))
means_not_empty {s} {q = q} e (in_full f g h) = rw h (simp length-append (omega (arith, full_not_empty s q e)))

-- ---- no form is shorter than the one chosen

module _ (s : Switches) (l u : Option CtuSet) (q : CtuSet) where
  pub up_least : any_on s ≡ true → ¬ (l ≡ some q) → u ≡ some q → (w : List Bool) → Means s l u q w → length (not_taken l ++ (true ∷ [])) ≤ length w
  up_least e n k w (no_bins f g h) = clash e f
  up_least e n k w (merged_left f g h) = absurd (n g)
  up_least e n k w (merged_up f g h) = rw h (omega arith)
  up_least e n k w (in_full f g h) = rw (h, k) (simp length-append (omega (arith, full_not_empty s q e)))

  pub full_least : any_on s ≡ true → ¬ (l ≡ some q) → ¬ (u ≡ some q) → (w : List Bool) → Means s l u q w → length (not_taken l ++ (not_taken u ++ full s q)) ≤ length w
  full_least e n k w (no_bins f g h) = clash e f
  full_least e n k w (merged_left f g h) = absurd (n g)
  full_least e n k w (merged_up f g h) = absurd (k g)
  full_least e n k w (in_full f g h) = rw h (omega arith)

  -- a set has bins if and only if it is within the rules or equals a neighbour that it may merge with
  pub no_bins_at_all : any_on s ≡ true → ¬ (l ≡ some q) → ¬ (u ≡ some q) → ¬ Valid s q → (w : List Bool) → ¬ Means s l u q w
  no_bins_at_all e n k x w (no_bins f g h) = clash e f
  no_bins_at_all e n k x w (merged_left f g h) = n g
  no_bins_at_all e n k x w (merged_up f g h) = k g
  no_bins_at_all e n k x w (in_full f g h) = x g

  spell_on : any_on s ≡ true → Dec (l ≡ some q) → Dec (u ≡ some q) → Dec (Valid s q) → Spelling s l u q
  spell_on e (yes f) d v = shortest (true ∷ []) (record { mean = merged_left e f refl; least = λ w m. means_not_empty e m })
  spell_on e (no n) (yes f) v = shortest (not_taken l ++ (true ∷ [])) (record { mean = merged_up e f refl; least = up_least e n f })
  spell_on e (no n) (no k) (yes f) = shortest (not_taken l ++ (not_taken u ++ full s q)) (record { mean = in_full e f refl; least = full_least e n k })
  spell_on e (no n) (no k) (no x) = unspelled (no_bins_at_all e n k x)

  spell_off : any_on s ≡ false → Dec (q ≡ all_off) → Spelling s l u q
  spell_off e (yes f) = shortest [] (record { mean = no_bins e f refl; least = λ w m. omega arith })
  spell_off e (no n) = unspelled (λ w m. go w m)
    where
      go : (w : List Bool) → ¬ Means s l u q w
      go w (no_bins f g h) = n g
      go w (merged_left f g h) = clash f e
      go w (merged_up f g h) = clash f e
      go w (in_full f g h) = clash f e

  spell_by : (b : Bool) → any_on s ≡ b → Spelling s l u q
  unfolding spell_on spell_off is_it? same_set? valid?
  spell_by true e = spell_on e (is_it? l q) (is_it? u q) (valid? s q)
  spell_by false e = spell_off e (same_set? q all_off)

unfoldable pub spell_out : (s : Switches) (l u : Option CtuSet) (q : CtuSet) → Spelling s l u q
unfolding spell_by
spell_out s l u q = spell_by s l u q (any_on s) refl
