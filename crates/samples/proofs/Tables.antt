-- The code's table of steps is the standard's, so the standard's laws of it hold: in each class the second step is the first negated.
use mathlib.Core.Path.{◌≡◌, refl, sym, ap, ◌∙◌}
use mathlib.Core.List.{List, [], ◌∷◌}
use Prim.Native.Nat.{ℕ, zero, suc, ◌≤◌, ◌<◌}
use native.Mathlib.Omega.{arith}
use lib.IntN.{nat_abs}
use Rattle.standard.specs.Samples.{steps_of}
use Rattle.standard.proofs.Tables.{negated, steps_negate}
use Rattle.samples.specs.declared.Step.{Step}
use Rattle.samples.specs.declared.Way.{Way}
use Rattle.samples.specs.declared.Way.TheVariants.{Back, Stay, On}
use Rattle.samples.specs.Steps.{by, step_to, entry_of, ByOne}

abbrev step : Way → Way → Step
step a b = record { dx = a; dy = b }

abbrev pub table : List (List Step)
table =
    (step Back Stay ∷ step On Stay ∷ [])
    ∷ (step Stay Back ∷ step Stay On ∷ [])
    ∷ (step Back Back ∷ step On On ∷ [])
    ∷ (step On Back ∷ step Back On ∷ [])
    ∷ []

-- both steps of a class
pub table_is : (class : ℕ) → class < 4 → (step_to (entry_of table class 0) ≡ (steps_of class).0) × (step_to (entry_of table class 1) ≡ (steps_of class).1)
unfolding steps_of
table_is zero h = (refl, refl)
table_is (suc zero) h = (refl, refl)
table_is (suc (suc zero)) h = (refl, refl)
table_is (suc (suc (suc zero))) h = (refl, refl)
table_is (suc (suc (suc (suc c)))) h = absurd (omega arith)

pub table_negates : (class : ℕ) → class < 4 → step_to (entry_of table class 1) ≡ negated (step_to (entry_of table class 0))
table_negates class h = (table_is class h).1 ∙ steps_negate class ∙ sym (ap negated (table_is class h).0)

-- a step of such a table is by one at most
pub by_one : (s : Step) → ByOne (step_to s)
by_one s = record { across = way_one s.dx; down = way_one s.dy }
  where
    way_one : (w : Way) → nat_abs (by w) ≤ 1
    way_one Back = omega arith
    way_one Stay = omega arith
    way_one On = omega arith
