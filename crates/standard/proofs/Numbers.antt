-- A call's reasons are read one way: no two refusals share a number and none has 0, one number at most is that of the first reason that holds, and none is where no reason holds.
use mathlib.Core.Path.{◌≡◌, refl, sym, ap, ◌∙◌}
use mathlib.Core.List.{List, [], ◌∷◌}
use mathlib.Core.Logic.{inl, inr}
use Prim.Native.Nat.{ℕ, zero, suc, ◌-◌, ◌<◌}
use native.Mathlib.Omega.{arith}
use lib.ListN.{get_or}
use Rattle.standard.specs.declared.Refusal.{Refusal}
use Rattle.standard.specs.declared.Refusal.TheVariants.{Description, Length, NoSuchBlock, CountTooLarge, TooEarly, BinsRemain, AllRead, SampleTooLarge, DeliveredBefore, NotReady, FilteredBefore, NoBins, NoRoom, Stored}
use Rattle.standard.specs.Refusals.{number_of, Reason, First, Clear}

-- the refusals in the order of their numbers, from 1
abbrev refusals : List Refusal
refusals =
    Description ∷ Length ∷ NoSuchBlock ∷ CountTooLarge ∷ TooEarly ∷ BinsRemain ∷ AllRead ∷ SampleTooLarge
    ∷ DeliveredBefore ∷ NotReady ∷ FilteredBefore ∷ NoBins ∷ NoRoom ∷ Stored ∷ []

pub refusal_of : ℕ → Refusal
refusal_of n = get_or refusals (n - 1) Description

pub refusal_back : (r : Refusal) → refusal_of (number_of r) ≡ r
unfolding refusal_of
refusal_back Description = refl
refusal_back Length = refl
refusal_back NoSuchBlock = refl
refusal_back CountTooLarge = refl
refusal_back TooEarly = refl
refusal_back BinsRemain = refl
refusal_back AllRead = refl
refusal_back SampleTooLarge = refl
refusal_back DeliveredBefore = refl
refusal_back NotReady = refl
refusal_back FilteredBefore = refl
refusal_back NoBins = refl
refusal_back NoRoom = refl
refusal_back Stored = refl

pub number_of_injective : (a b : Refusal) → number_of a ≡ number_of b → a ≡ b
number_of_injective a b e = sym (refusal_back a) ∙ ap refusal_of e ∙ refusal_back b

positive_at : (r : Refusal) (n : ℕ) → number_of r ≡ n → 0 < n
unfolding refusal_of
positive_at r zero e =
    let one : number_of r ≡ 1 = ap number_of (sym (refusal_back r) ∙ ap refusal_of e) in
    omega arith
positive_at r (suc n) e = omega arith

pub number_positive : (r : Refusal) → 0 < number_of r
number_positive r = positive_at r (number_of r) refl

pub first_unique : (rs : List Reason) {m n : ℕ} → First rs m → First rs n → m ≡ n
first_unique [] f g = absurd f
first_unique (r ∷ rs) (inl f) (inl g) = f.1 ∙ sym g.1
first_unique (r ∷ rs) (inl f) (inr g) = absurd (g.0 f.0)
first_unique (r ∷ rs) (inr f) (inl g) = absurd (f.0 g.0)
first_unique (r ∷ rs) (inr f) (inr g) = first_unique rs f.1 g.1

pub first_not_clear : (rs : List Reason) (n : ℕ) → First rs n → Clear rs → ⊥
first_not_clear [] n f c = f
first_not_clear (r ∷ rs) n (inl f) c = c.0 f.0
first_not_clear (r ∷ rs) n (inr f) c = first_not_clear rs n f.1 c.1
