-- How an answer crosses: a refusal as its number, and what is decided of a component's number in a byte as of the number itself.
use mathlib.Core.List.{List}
use mathlib.Core.Logic.{inr}
use mathlib.Core.Path.{◌≡◌, refl, sym, ◌∙◌, subst}
use Prim.Native.Nat.{ℕ, suc, ◌-◌}
use native.Mathlib.Omega.{arith}
use Rattle.std.specs.Prelude.{Result, Ok, Err}
use Rattle.standard.specs.declared.Refusal.{Refusal}
use Rattle.standard.specs.Refusals.{number_of, Reason, First, Clear}
use Rattle.standard.specs.Ensures.{Decides}
use Rattle.standard.proofs.Numbers.{number_positive}
use Rattle.steamgusset.specs.Boundary.{Held, in_byte, code_of}
use Rattle.steamgusset.specs.Exports.{Answers}

-- What an inner call refuses is refused with its number. An answer speaks of what is done or of what is as before: what would be done may be any.
pub refused : {a : List ℕ} {before : Type 0} {n : ℕ} → Held a → (reasons : List Reason) (done : Type 0) (r : Refusal)
    → n ≡ number_of r → First reasons (number_of r) → before → Answers a reasons n done before
refused {a} {before} held reasons done r e f b =
    let behind : number_of r ≡ suc (number_of r - 1) = let positive = number_positive r in omega arith in
    subst (λ (m : ℕ). Answers a reasons m done before) (sym (e ∙ behind)) (inr ((λ k. k held), subst (λ (m : ℕ). First reasons m) behind f), b)

-- the reasons of a call, by the component: those of the byte are those of the number
pub record Crosses (reasons : ℕ → List Reason) : Type 0 where
  pub first : (i n : ℕ) → First (reasons (in_byte i)) n → First (reasons i) n
  pub clear : (i : ℕ) → Clear (reasons (in_byte i)) → in_byte i ≡ i

-- what a call decides of the byte crosses as of the number
pub crossed : {T : Type 0} {a : List ℕ} {reasons : ℕ → List Reason} {before A B : Type 0} {n : ℕ}
    → Crosses reasons → Held a → (i : ℕ) (x : Result T Refusal) (done : T → Type 0) → n ≡ code_of x → Decides (reasons (in_byte i)) x done before
    → (in_byte i ≡ i → (v : T) → x ≡ Ok v → done v → A) → (before → B) → Answers a (reasons i) n A B
crossed {a = a} {reasons = reasons} {A = A} {B = B} c h i (Ok v) done e d f g =
    subst (λ (m : ℕ). Answers a (reasons i) m A B) (sym e)
    (let same = c.clear i d.0 in (((λ k. k h), subst (λ (j : ℕ). Clear (reasons j)) same d.0), f same v refl d.1))
crossed {reasons = reasons} {A = A} c h i (Err r) done e d f g = refused h (reasons i) A r e (c.first i (number_of r) d.0) (g d.1)
