-- What the answer of a test says, how one is given, and that there is one only.
use mathlib.Core.Bool.{Bool, true, false, not}
use mathlib.Core.Path.{◌≡◌, refl, subst}
use Prim.Native.Nat.{ℕ, ◌≤◌}
use native.Mathlib.Omega.{arith}
use borrow.Author.Tests.{leb-true, leb-false, not-true, not-false}
use lib.Dec.{leb}
use Rattle.standard.specs.Refusals.{Tells}

pub told : {P : Type 0} {b : Bool} → Tells P b → b ≡ true → P
told {P} t e = subst (λ (a : Bool). Tells P a) e t

pub told_not : {P : Type 0} {b : Bool} → Tells P b → b ≡ false → ¬ P
told_not {P} t e = subst (λ (a : Bool). Tells P a) e t

-- the same of the answer's negation
pub passed : {P : Type 0} (b : Bool) → Tells P b → not b ≡ false → P
passed b t e = told t (not-false b e)

pub failed : {P : Type 0} (b : Bool) → Tells P b → not b ≡ true → ¬ P
failed b t e = told_not t (not-true b e)

pub tell : {P : Type 0} (b : Bool) → (b ≡ true → P) → (b ≡ false → ¬ P) → Tells P b
tell true y n = y refl
tell false y n = n refl

-- the same answer for what holds in the same cases
pub tell_same : {P Q : Type 0} (b : Bool) → (P → Q) → (Q → P) → Tells P b → Tells Q b
tell_same true f g t = f t
tell_same false f g t = λ q. t (g q)

pub tell_le : (a b : ℕ) → Tells (a ≤ b) (leb a b)
tell_le a b = tell (leb a b) (leb-true a b) (λ e l. let m = leb-false a b e in omega arith)

pub one_answer : (P : Type 0) (a b : Bool) → Tells P a → Tells P b → a ≡ b
one_answer P true true t u = refl
one_answer P true false t u = absurd (u t)
one_answer P false true t u = absurd (t u)
one_answer P false false t u = refl
