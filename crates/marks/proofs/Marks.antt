-- Marks outside 0 to 2, outside 1 to 2, and other than 2, said as the reasons say it.
-- Then marks scanned part by part, how far a scan comes, and the chunks of one.
use Rattle.std.proofs.Common.{◌≡◌, ℕ, ◌+◌, ◌-◌, ◌*◌, ◌/◌, ◌%◌, ◌<◌, ◌≤◌, List, [], ◌∷◌, ◌++◌, length, get_or, take, drop, arith, Bool, true, false, ◌||◌, subst, refl, length-drop, get_or-drop, get_or-take, length-take, inl, inr, ⊎_elim, Option, Some, None, IfSome, option_map}
use Rattle.std.proofs.lemmas.List.{length_push, get_or_push, get_or_append_left}
use native.Mathlib.Decide.{dec_lt}
use Rattle.standard.specs.Refusals.{Tells}
use Rattle.marks.specs.Marks.{Outside, SomeOutside, LeadingInside}

-- outside 0 to 2
pub above_two : {m : ℕ} → Outside 0 2 m → 2 < m
above_two o = ⊎_elim (λ l. omega arith) (λ l. l) o

pub is_above : {m : ℕ} → 2 < m → Outside 0 2 m
is_above l = inr l

-- outside 1 to 2, of marks that are at most 2
pub zero_mark : {m : ℕ} → Outside 1 2 m → ¬ (2 < m) → m ≡ 0
zero_mark o n = ⊎_elim (λ l. omega arith) (λ l. absurd (n l)) o

pub is_below : {m : ℕ} → m ≡ 0 → Outside 1 2 m
is_below e = inl (omega arith)

-- outside 2 to 2
pub not_two : {m : ℕ} → Outside 2 2 m → ¬ (m ≡ 2)
not_two o e = ⊎_elim (λ l. omega arith) (λ l. omega arith) o

pub is_two : {m : ℕ} → ¬ Outside 2 2 m → m ≡ 2
is_two {m} n = of (dec_lt m 2) (dec_lt 2 m)
  where
    of : Dec (m < 2) → Dec (2 < m) → m ≡ 2
    of (yes l) d = absurd (n (inl l))
    of (no k) (yes l) = absurd (n (inr l))
    of (no k) (no l) = omega arith

-- ---- part by part

pub none_of_none : (low high : ℕ) → ¬ SomeOutside low high []
none_of_none low high s = absurd (omega (arith, s.1))

module _ (low high : ℕ) (marks : List ℕ) where
  -- one mark more
  pub one_more : (m : ℕ) (some now : Bool) → Tells (SomeOutside low high marks) some → Tells (Outside low high m) now
      → Tells (SomeOutside low high (marks ++ (m ∷ []))) (some || now)
  one_more m true now t u = (t.0, omega (arith, t.1, length_push marks m), rw (get_or_append_left marks (m ∷ []) 0 t.0 t.1) t.2)
  one_more m false true t u = (length marks, omega (arith, length_push marks m), rw (get_or_push marks m 0 (length marks) refl) u)
  one_more m false false t u = λ s. of s (dec_lt s.0 (length marks))
    where
      of : (s : SomeOutside low high (marks ++ (m ∷ []))) → Dec (s.0 < length marks) → ⊥
      of s (yes l) = t (s.0, l, rw (← get_or_append_left marks (m ∷ []) 0 s.0 l) s.2)
      of s (no l) = let e : length marks ≡ s.0 = omega (arith, s.1, length_push marks m) in u (rw (← get_or_push marks m 0 s.0 e) s.2)

  -- those behind the first k
  pub in_next : (k : ℕ) → SomeOutside low high (drop k marks) → SomeOutside low high marks
  in_next k s = (k + s.0, omega (arith, s.1, length-drop k marks), rw (← get_or-drop k marks s.0 0) s.2)

  pub not_next : (k : ℕ) → ¬ SomeOutside low high (drop k marks) → SomeOutside low high marks → (j : ℕ) × (j < k) × Outside low high (get_or marks j 0)
  not_next k none s = of (dec_lt s.0 k)
    where
      of : Dec (s.0 < k) → (j : ℕ) × (j < k) × Outside low high (get_or marks j 0)
      of (yes l) = (s.0, l, s.2)
      of (no l) =
          let e : k + (s.0 - k) ≡ s.0 = omega arith in
          absurd (none (s.0 - k, omega (arith, s.1, length-drop k marks), rw (get_or-drop k marks (s.0 - k) 0) (rw e s.2)))

-- ---- how far a scan comes

pub leading_few : {low high : ℕ} {marks : List ℕ} {k : ℕ} → LeadingInside low high marks k → k ≤ length marks
leading_few f = ⊎_elim (λ e. omega arith) (λ u. omega (arith, u.0)) f.ends

module _ (low high : ℕ) (marks : List ℕ) where
  -- no further than another does
  no_further : {k m : ℕ} → LeadingInside low high marks k → LeadingInside low high marks m → ¬ (k < m)
  no_further {k} {m} a b l = ⊎_elim (λ e. let few = leading_few b in omega arith) (λ u. b.inside k l u.1) a.ends

  pub one_leading : {k m : ℕ} → LeadingInside low high marks k → LeadingInside low high marks m → k ≡ m
  one_leading {k} {m} a b = of (dec_lt k m) (dec_lt m k)
    where
      of : Dec (k < m) → Dec (m < k) → k ≡ m
      of (yes l) d = absurd (no_further a b l)
      of (no i) (yes l) = absurd (no_further b a l)
      of (no i) (no j) = omega arith

  -- behind k marks of which none is outside
  pub leading_next : (k n : ℕ) → k ≤ length marks → ((j : ℕ) → j < k → ¬ Outside low high (get_or marks j 0))
      → LeadingInside low high (drop k marks) n → LeadingInside low high marks (k + n)
  leading_next k n h none f = record {
    inside = λ j l. of j l (dec_lt j k);
    ends = ⊎_elim (λ e. inl (omega (arith, e, length-drop k marks))) (λ u. inr (omega (arith, u.0, length-drop k marks), rw (← get_or-drop k marks n 0) u.1)) f.ends;
  }
    where
      of : (j : ℕ) → j < k + n → Dec (j < k) → ¬ Outside low high (get_or marks j 0)
      of j l (yes i) = none j i
      of j l (no i) = let e : k + (j - k) ≡ j = omega arith in λ o. f.inside (j - k) (omega arith) (rw (get_or-drop k marks (j - k) 0) (rw e o))

  -- chunks of which none has a mark outside
  pub inside_chunks : (n : ℕ) → n * 64 ≤ length marks → ((k : ℕ) → k < n → ¬ SomeOutside low high (take 64 (drop (k * 64) marks)))
      → (j : ℕ) → j < n * 64 → ¬ Outside low high (get_or marks j 0)
  inside_chunks n h none j l o =
      let k = j / 64 in
      let i = j % 64 in
      let e : k * 64 + i ≡ j = omega arith in
      let small : i < 64 = omega arith in
      none k (omega arith) (i, simp (length-take, length-drop) (omega arith), simp (get_or-take, get_or-drop) (rw e o))

-- what two runs say of an item that they share
pub same_item : {A : Type 0} {P Q : A → Type 0} (o o' : Option A) {x : A} → option_map (λ y. y) o ≡ Some x → o' ≡ o → IfSome o P → IfSome o' Q
    → ((y : A) → P y → Q y → ⊥) → ⊥
same_item {Q = Q} (Some y) (Some z) e f p q k = let g : z ≡ y = cc in k y p (subst Q g q)
same_item (Some y) None e f p q k = absurd cc
same_item None o' e f p q k = absurd cc
