-- The shortest bins of a set are one list: bins of two forms that mean it differ in length.
use mathlib.Core.Path.{◌≡◌, refl, sym, ◌∙◌}
use mathlib.Core.Bool.{Bool, true}
use mathlib.Core.List.{List, [], ◌∷◌, ◌++◌}
use Rattle.std.specs.Prelude.{Option, Some as some}
use Prim.Native.Nat.{suc, ◌+◌, ◌≤◌}
use native.Mathlib.Omega.{arith}
use lib.ListN.{length, length-append}
use Rattle.standard.specs.declared.CtuSet.{CtuSet}
use Rattle.standard.specs.declared.Switches.{Switches}
use Rattle.standard.specs.Bins.{full}
use Rattle.standard.specs.Means.{any_on, not_taken, Means, no_bins, merged_left, merged_up, in_full, Shortest}
use Rattle.standard.proofs.Ctu.{clash}
use Rattle.standard.proofs.Spelling.{full_not_empty}

module _ (s : Switches) (l u : Option CtuSet) (q : CtuSet) where
  -- a neighbour that could have been merged with costs a bin
  one_longer : (o : Option CtuSet) (bins : List Bool) → o ≡ some q → length (not_taken o ++ bins) ≡ suc (length bins)
  one_longer o bins e = rw e refl

  left_not_up : {a b : List Bool} → l ≡ some q → a ≡ true ∷ [] → b ≡ not_taken l ++ (true ∷ []) → ¬ (length a ≡ length b)
  left_not_up {a} {b} k f g h =
      let x : length a ≡ 1 = rw f refl in
      let y : length b ≡ 2 = rw g (one_longer l (true ∷ []) k) in
      omega arith

  left_not_full : {a b : List Bool} → any_on s ≡ true → l ≡ some q → a ≡ true ∷ [] → b ≡ not_taken l ++ (not_taken u ++ full s q) → ¬ (length a ≡ length b)
  left_not_full {a} {b} e k f g h =
      let x : length a ≡ 1 = rw f refl in
      let y : length b ≡ suc (length (not_taken u ++ full s q)) = rw g (one_longer l (not_taken u ++ full s q) k) in
      omega (arith, length-append (not_taken u) (full s q), full_not_empty s q e)

  up_not_full : {a b : List Bool} → any_on s ≡ true → u ≡ some q → a ≡ not_taken l ++ (true ∷ []) → b ≡ not_taken l ++ (not_taken u ++ full s q)
      → ¬ (length a ≡ length b)
  up_not_full {a} {b} e k f g h =
      let x : length a ≡ length (not_taken l) + 1 = rw f (length-append (not_taken l) (true ∷ [])) in
      let y : length b ≡ length (not_taken l) + length (not_taken u ++ full s q) = rw g (length-append (not_taken l) (not_taken u ++ full s q)) in
      omega (arith, one_longer u (full s q) k, full_not_empty s q e)

  -- bins of one length that mean one set are the same
  one_of_its_length : {a b : List Bool} → length a ≡ length b → Means s l u q a → Means s l u q b → a ≡ b
  one_of_its_length h (no_bins e f g) (no_bins e' f' g') = g ∙ sym g'
  one_of_its_length h (no_bins e f g) (merged_left e' f' g') = clash e' e
  one_of_its_length h (no_bins e f g) (merged_up e' f' g') = clash e' e
  one_of_its_length h (no_bins e f g) (in_full e' f' g') = clash e' e
  one_of_its_length h (merged_left e f g) (no_bins e' f' g') = clash e e'
  one_of_its_length h (merged_left e f g) (merged_left e' f' g') = g ∙ sym g'
  one_of_its_length h (merged_left e f g) (merged_up e' f' g') = absurd (left_not_up f g g' h)
  one_of_its_length h (merged_left e f g) (in_full e' f' g') = absurd (left_not_full e f g g' h)
  one_of_its_length h (merged_up e f g) (no_bins e' f' g') = clash e e'
  one_of_its_length h (merged_up e f g) (merged_left e' f' g') = absurd (left_not_up f' g' g (sym h))
  one_of_its_length h (merged_up e f g) (merged_up e' f' g') = g ∙ sym g'
  one_of_its_length h (merged_up e f g) (in_full e' f' g') = absurd (up_not_full e f g g' h)
  one_of_its_length h (in_full e f g) (no_bins e' f' g') = clash e e'
  one_of_its_length h (in_full e f g) (merged_left e' f' g') = absurd (left_not_full e f' g' g (sym h))
  one_of_its_length h (in_full e f g) (merged_up e' f' g') = absurd (up_not_full e f' g' g (sym h))
  one_of_its_length h (in_full e f g) (in_full e' f' g') = g ∙ sym g'

pub shortest_unique : {s : Switches} {l u : Option CtuSet} {q : CtuSet} {a b : List Bool} → Shortest s l u q a → Shortest s l u q b → a ≡ b
shortest_unique {s} {l} {u} {q} {a} {b} j k =
    let x : length a ≤ length b = j.least b k.mean in
    let y : length b ≤ length a = k.least a j.mean in
    one_of_its_length s l u q (omega arith) j.mean k.mean
