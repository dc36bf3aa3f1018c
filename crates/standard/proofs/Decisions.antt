-- Decisions that compute: of sums, of bounded searches, and of a list of reasons, of which the first that holds is found.
use mathlib.Core.Path.{◌≡◌, refl, subst}
use mathlib.Core.List.{List, [], ◌∷◌, ◌++◌}
use mathlib.Core.Logic.{◌⊎◌, inl, inr}
use Prim.Native.Nat.{ℕ, zero, suc, ◌<◌}
use native.Mathlib.Decide.{ℕ_discrete}
use native.Mathlib.Nat.{not-suc-le-zero, le_refl}
use native.Mathlib.Omega.{arith}
use Rattle.standard.specs.Refusals.{Reason, First, Clear}

pub differ : {X : Type 0} → ◌≡◌ {A = ℕ} 0 1 → X
differ z = absurd (omega arith)

abbrev pub by_iff : {A B : Type 0} → (A → B) → (B → A) → Dec A → Dec B
by_iff f g (yes a) = yes (f a)
by_iff f g (no n) = no (λ b. n (g b))

unfoldable pub or? : {A B : Type 0} → Dec A → Dec B → Dec (A ⊎ B)
or? (yes a) b = yes (inl a)
or? (no n) (yes b) = yes (inr b)
or? (no n) (no m) = no (λ t. elim t [ inl a ↦ n a | inr b ↦ m b ])

-- ---- some or all of the numbers below n

one_more : {n : ℕ} {P : ℕ → Type 0} → ¬ P n → Dec ((i : ℕ) × (i < n) × P i) → Dec ((i : ℕ) × (i < suc n) × P i)
one_more k (yes t) = yes (t.0, omega arith, t.2)
one_more {n} {P} k (no m) = no (λ t. go t (ℕ_discrete t.0 n))
  where
    go : (t : (i : ℕ) × (i < suc n) × P i) → Dec (t.0 ≡ n) → ⊥
    go t (yes e) = k (subst P e t.2)
    go t (no e) = m (t.0, omega (arith, t.1), t.2)

unfoldable pub some? : (n : ℕ) {P : ℕ → Type 0} → ((i : ℕ) → Dec (P i)) → Dec ((i : ℕ) × (i < n) × P i)
unfolding one_more
some? zero d = no (λ t. not-suc-le-zero t.1)
some? (suc n) d = elim (d n) [ yes h ↦ yes (n, le_refl (suc n), h) | no k ↦ one_more k (some? n d) ]

-- ---- the first reason that holds

pub data Verdict (rs : List Reason) : Type 0 where
  refusal : (n : ℕ) → First rs n → Verdict rs
  clear : Clear rs → Verdict rs

abbrev pub Decided : List Reason → Type 0
Decided [] = Unit {0}
Decided (r ∷ rs) = Dec r.holds × Decided rs

-- of two parts
abbrev pub both? : (front back : List Reason) → Decided front → Decided back → Decided (front ++ back)
both? [] back d e = e
both? (r ∷ rs) back d e = (d.0, both? rs back d.1 e)

later : {r : Reason} {rs : List Reason} → ¬ r.holds → Verdict rs → Verdict (r ∷ rs)
later k (refusal n f) = refusal n (inr (k, f))
later k (clear c) = clear (k, c)

unfoldable pub judge : (rs : List Reason) → Decided rs → Verdict rs
unfolding later
judge [] ds = clear tt
judge (r ∷ rs) ds = elim ds.0 [ yes h ↦ refusal r.number (inl (h, refl)) | no k ↦ later k (judge rs ds.1) ]

-- the number of a verdict, 0 for none
abbrev pub number_in : {rs : List Reason} → Verdict rs → ℕ
number_in (refusal n f) = n
number_in (clear c) = 0

abbrev pub IsRefusal : {rs : List Reason} → Verdict rs → Type 0
IsRefusal (refusal n f) = Unit {0}
IsRefusal (clear c) = ⊥

-- a verdict that computes to a refusal with this number, and one that computes to none
pub refused_with : {rs : List Reason} (v : Verdict rs) → IsRefusal v → First rs (number_in v)
refused_with (refusal n f) h = f
refused_with (clear c) h = absurd h

pub accepted : {rs : List Reason} (v : Verdict rs) → ¬ IsRefusal v → Clear rs
accepted (refusal n f) h = absurd (h tt)
accepted (clear c) h = c
