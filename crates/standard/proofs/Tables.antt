-- The rules of the two constant tables: in each class the second step is the first negated, and the categories of opposite sign sums mirror each other.
-- Each is one test, computed over the whole table, and a law that turns the test into the rule at each place. Document 01's match on the sign sum agrees with the table.
use mathlib.Core.Path.{◌≡◌, refl, sym, ap, ◌∙◌, subst}
use mathlib.Core.Bool.{Bool, true, false, ◌&&◌}
use mathlib.Core.List.{List, [], ◌∷◌}
use Rattle.std.specs.Prelude.{Some as some}
use Prim.Native.Nat.{ℕ, zero, suc, ◌+◌, ◌-◌, ◌%◌, ◌<◌}
use native.Mathlib.Nat.{add-zero, zero-add, add-suc, suc-add, le_of_suc-le-suc, not-suc-le-zero}
use native.Mathlib.Decide.{dec_lt}
use native.Mathlib.Omega.{arith}
use borrow.Author.Tests.{lt-ltb}
use lib.Dec.{T, eqb, eqb→eq, lit<}
use lib.IntN.{ℤ, pos, negsuc, neg_ℤ, ◌+ℤ◌, ◌-ℤ◌, +ℤ_assoc}
use lib.ListN.{length, get_or, get_or-eq_default}
use Rattle.standard.specs.Samples.{Step, steps, steps_of, sign, categories, edge_idx, edge_idx_of}

-- ---- a test over a table

and_left : (a b : Bool) → T (a && b) → T a
and_left true b t = tt
and_left false b t = t

and_right : (a b : Bool) → T (a && b) → T b
and_right true b t = t
and_right false b t = absurd t

module _ {A : Type 0} (f : ℕ → A → Bool) where
  -- the test passes at each entry and its place, counted from i
  abbrev pub each : ℕ → List A → Bool
  each i [] = true
  each i (x ∷ xs) = f i x && each (suc i) xs

  at_from : (xs : List A) (d : A) (i : ℕ) → T (each i xs) → (k : ℕ) → k < length xs → T (f (i + k) (get_or xs k d))
  at_from [] d i t k h = absurd (not-suc-le-zero h)
  at_from (x ∷ xs) d i t zero h = subst (λ (m : ℕ). T (f m x)) (sym (add-zero i)) (and_left (f i x) (each (suc i) xs) t)
  at_from (x ∷ xs) d i t (suc k) h =
      subst (λ (m : ℕ). T (f m (get_or xs k d))) (suc-add i k ∙ sym (add-suc i k))
      (at_from xs d (suc i) (and_right (f i x) (each (suc i) xs) t) k (le_of_suc-le-suc h))

  pub at_each : (xs : List A) (d : A) → T (each 0 xs) → (k : ℕ) → k < length xs → T (f k (get_or xs k d))
  at_each xs d t k h = subst (λ (m : ℕ). T (f m (get_or xs k d))) (zero-add k) (at_from xs d 0 t k h)

-- ---- the steps

abbrev pub negated : Step → Step
negated step = record { h = neg_ℤ step.h; v = neg_ℤ step.v }

abbrev same : ℤ → ℤ → Bool
same (pos m) (pos n) = eqb m n
same (pos m) (negsuc n) = false
same (negsuc m) (pos n) = false
same (negsuc m) (negsuc n) = eqb m n

same→eq : (a b : ℤ) → T (same a b) → a ≡ b
same→eq (pos m) (pos n) t = ap pos (eqb→eq m n t)
same→eq (pos m) (negsuc n) t = absurd t
same→eq (negsuc m) (pos n) t = absurd t
same→eq (negsuc m) (negsuc n) t = ap negsuc (eqb→eq m n t)

opposite : Step × Step → Bool
opposite s = same s.1.h (neg_ℤ s.0.h) && same s.1.v (neg_ℤ s.0.v)

opposite→ : (s : Step × Step) → T (opposite s) → s.1 ≡ negated s.0
unfolding opposite
opposite→ s t =
    let x = same→eq _ _ (and_left (same s.1.h (neg_ℤ s.0.h)) (same s.1.v (neg_ℤ s.0.v)) t) in
    let y = same→eq _ _ (and_right (same s.1.h (neg_ℤ s.0.h)) (same s.1.v (neg_ℤ s.0.v)) t) in
    λ i. record { h = x i; v = y i }

pub steps_negate : (class : ℕ) → (steps_of class).1 ≡ negated (steps_of class).0
unfolding steps_of opposite
steps_negate class = opposite→ (steps_of class) (go (dec_lt class 4))
  where
    go : Dec (class < 4) → T (opposite (steps_of class))
    go (yes h) = at_each (λ k s. opposite s) steps _ tt class h
    go (no n) = subst (λ (s : Step × Step). T (opposite s)) (sym (get_or-eq_default steps _ {n = class} (omega arith))) tt

-- ---- the categories

-- the category of the negated sum: 1 and 4, and 2 and 3, change places
abbrev pub mirror : ℕ → ℕ
mirror c = (5 - c) % 5

mirrors : ℕ → ℕ → Bool
mirrors n c = eqb (get_or categories (4 - n) 0) (mirror c)

pub categories_mirror : (n : ℕ) → n < 5 → get_or categories (4 - n) 0 ≡ mirror (get_or categories n 0)
unfolding mirrors
categories_mirror n h = eqb→eq _ _ (at_each mirrors categories 0 tt n h)

-- document 01's match on the sign sum
abbrev pub category : ℤ → ℕ
category (pos zero) = 0
category (pos (suc zero)) = 3
category (pos (suc (suc zero))) = 4
category (pos (suc (suc (suc n)))) = 0
category (negsuc zero) = 2
category (negsuc (suc zero)) = 1
category (negsuc (suc (suc n))) = 0

pub category_is_edge_idx : (s : ℤ) → category s ≡ edge_idx (pos 2 +ℤ s)
unfolding edge_idx
category_is_edge_idx (pos zero) = refl
category_is_edge_idx (pos (suc zero)) = refl
category_is_edge_idx (pos (suc (suc zero))) = refl
category_is_edge_idx (pos (suc (suc (suc n)))) =
    let e : 2 + suc (suc (suc n)) ≡ suc (suc (suc (suc (suc n)))) = omega arith in
    sym (ap (λ (m : ℕ). edge_idx (pos m)) e)
category_is_edge_idx (negsuc zero) = refl
category_is_edge_idx (negsuc (suc zero)) = refl
category_is_edge_idx (negsuc (suc (suc n))) = let h : 2 < suc (suc (suc n)) = omega arith in simp (lt-ltb 2 (suc (suc (suc n))) h)

-- the mirror of a sum is that of the table's places around 2; outside the table both are 0
category_mirror : (s : ℤ) → category (neg_ℤ s) ≡ mirror (category s)
category_mirror (pos zero) = categories_mirror 2 (lit< tt)
category_mirror (pos (suc zero)) = categories_mirror 3 (lit< tt)
category_mirror (pos (suc (suc zero))) = categories_mirror 4 (lit< tt)
category_mirror (pos (suc (suc (suc n)))) = refl
category_mirror (negsuc zero) = categories_mirror 1 (lit< tt)
category_mirror (negsuc (suc zero)) = categories_mirror 0 (lit< tt)
category_mirror (negsuc (suc (suc n))) = refl

pub edge_idx_mirror : (s : ℤ) → edge_idx (pos 2 +ℤ neg_ℤ s) ≡ mirror (edge_idx (pos 2 +ℤ s))
edge_idx_mirror s = sym (category_is_edge_idx (neg_ℤ s)) ∙ category_mirror s ∙ ap mirror (category_is_edge_idx s)

pub signs_mirror : (a b : ℤ) → edge_idx (pos 2 +ℤ neg_ℤ (sign a +ℤ sign b)) ≡ mirror (edge_idx (pos 2 +ℤ (sign a +ℤ sign b)))
signs_mirror a b = edge_idx_mirror (sign a +ℤ sign b)

-- the category of a sample between two neighbours that count
pub edge_idx_of_is_category : (s a b : ℕ) → edge_idx_of s (some a) (some b) ≡ category (sign (pos s -ℤ pos a) +ℤ sign (pos s -ℤ pos b))
unfolding edge_idx_of
edge_idx_of_is_category s a b =
    let x = sign (pos s -ℤ pos a) in
    let y = sign (pos s -ℤ pos b) in
    ap edge_idx (+ℤ_assoc (pos 2) x y) ∙ sym (category_is_edge_idx (x +ℤ y))
