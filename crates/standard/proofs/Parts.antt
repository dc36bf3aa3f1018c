-- Reasons judged in two parts: the first that holds of the front, or of the back where none of the front does, is the first of all.
use mathlib.Core.Path.{◌≡◌, refl, sym, ◌∙◌, subst}
use mathlib.Core.List.{List, [], ◌∷◌, ◌++◌}
use mathlib.Core.Logic.{◌⊎◌, inl, inr}
use Prim.Native.Nat.{ℕ}
use Rattle.std.specs.Prelude.{Result, Ok, Err, IsErrAnd}
use Rattle.standard.specs.declared.Refusal.{Refusal}
use Rattle.standard.specs.Refusals.{Reason, First, Clear, number_of}
use Rattle.standard.specs.Ensures.{Judged, Decides}

pub clear_front : (front back : List Reason) → Clear (front ++ back) → Clear front
clear_front [] back c = tt
clear_front (r ∷ rs) back c = (c.0, clear_front rs back c.1)

pub clear_back : (front back : List Reason) → Clear (front ++ back) → Clear back
clear_back [] back c = c
clear_back (r ∷ rs) back c = clear_back rs back c.1

pub clear_both : (front back : List Reason) → Clear front → Clear back → Clear (front ++ back)
clear_both [] back c d = d
clear_both (r ∷ rs) back c d = (c.0, clear_both rs back c.1 d)

pub first_front : (front back : List Reason) (n : ℕ) → First front n → First (front ++ back) n
first_front [] back n f = absurd f
first_front (r ∷ rs) back n (inl h) = inl h
first_front (r ∷ rs) back n (inr h) = inr (h.0, first_front rs back n h.1)

pub first_back : (front back : List Reason) (n : ℕ) → Clear front → First back n → First (front ++ back) n
first_back [] back n c f = f
first_back (r ∷ rs) back n c f = inr (c.0, first_back rs back n c.1 f)

-- a reason of the front, or one of the back where none of the front holds
pub first_either : (front back : List Reason) (n : ℕ) → First (front ++ back) n → First front n ⊎ (Clear front × First back n)
first_either [] back n f = inr (tt, f)
first_either (r ∷ rs) back n (inl h) = inl (inl h)
first_either (r ∷ rs) back n (inr h) = go (first_either rs back n h.1)
  where
    go : First rs n ⊎ (Clear rs × First back n) → First (r ∷ rs) n ⊎ (Clear (r ∷ rs) × First back n)
    go (inl f) = inl (inr (h.0, f))
    go (inr f) = inr ((h.0, f.0), f.1)

-- reasons of the same numbers that hold in the same cases
abbrev pub Same : List Reason → List Reason → Type 0
Same [] [] = Unit {0}
Same [] (t ∷ ts) = ⊥
Same (r ∷ rs) [] = ⊥
Same (r ∷ rs) (t ∷ ts) = ((r.number ≡ t.number) × (r.holds → t.holds) × (t.holds → r.holds)) × Same rs ts

pub same_itself : (rs : List Reason) → Same rs rs
same_itself [] = tt
same_itself (r ∷ rs) = ((refl, λ h. h, λ h. h), same_itself rs)

pub same_both : (front front' back back' : List Reason) → Same front front' → Same back back' → Same (front ++ back) (front' ++ back')
same_both [] [] back back' s t = t
same_both [] (r ∷ rs) back back' s t = absurd s
same_both (r ∷ rs) [] back back' s t = absurd s
same_both (r ∷ rs) (u ∷ us) back back' s t = (s.0, same_both rs us back back' s.1 t)

same_first : (rs ts : List Reason) (n : ℕ) → Same rs ts → First rs n → First ts n
same_first [] ts n s f = absurd f
same_first (r ∷ rs) [] n s f = absurd s
same_first (r ∷ rs) (t ∷ ts) n s (inl h) = inl (s.0.1 h.0, h.1 ∙ s.0.0)
same_first (r ∷ rs) (t ∷ ts) n s (inr h) = inr (λ k. h.0 (s.0.2 k), same_first rs ts n s.1 h.1)

same_clear : (rs ts : List Reason) → Same rs ts → Clear rs → Clear ts
same_clear [] [] s c = tt
same_clear [] (t ∷ ts) s c = absurd s
same_clear (r ∷ rs) [] s c = absurd s
same_clear (r ∷ rs) (t ∷ ts) s c = (λ k. c.0 (s.0.2 k), same_clear rs ts s.1 c.1)

pub same_judged : {T : Type 0} (rs ts : List Reason) (a : Result T Refusal) → Same rs ts → Judged rs a → Judged ts a
same_judged rs ts (Ok x) s c = same_clear rs ts s c
same_judged rs ts (Err r) s f = same_first rs ts (number_of r) s f

-- a verdict on the back, where none of the front holds
pub judged_back : {T : Type 0} (front back : List Reason) (a : Result T Refusal) → Clear front → Judged back a → Judged (front ++ back) a
judged_back front back (Ok x) c d = clear_both front back c d
judged_back front back (Err r) c f = first_back front back (number_of r) c f

-- and what is decided with it
pub decided_back : {T : Type 0} (front back : List Reason) (a : Result T Refusal) (done : T → Type 0) (before : Type 0) → Clear front → Decides back a done before
    → Decides (front ++ back) a done before
decided_back front back (Ok x) done before c h = (clear_both front back c h.0, h.1)
decided_back front back (Err r) done before c h = (first_back front back (number_of r) c h.0, h.1)

-- a refusal for the front that `?` passes on, and what else is decided with it
pub passed_on : {T : Type 0} (front back : List Reason) (r : Refusal) (a : Result T Refusal) → IsErrAnd a (λ e. e ≡ r) → First front (number_of r) → Judged (front ++ back) a
passed_on front back r (Ok x) e f = absurd e
passed_on front back r (Err t) e f = first_front front back (number_of t) (subst (λ (r : Refusal). First front (number_of r)) (sym e) f)

pub passed_on_with : {T : Type 0} (front back : List Reason) (r : Refusal) (a : Result T Refusal) (done : T → Type 0) {before : Type 0} → IsErrAnd a (λ e. e ≡ r)
    → First front (number_of r) → before → Decides (front ++ back) a done before
passed_on_with front back r (Ok x) done e f b = absurd e
passed_on_with front back r (Err t) done e f b = (first_front front back (number_of t) (subst (λ (r : Refusal). First front (number_of r)) (sym e) f), b)
