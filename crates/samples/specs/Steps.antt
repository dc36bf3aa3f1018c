-- Steps from a sample to its neighbours.
use Rattle.std.specs.Prelude.{◌≡◌, true, List, [], ℕ, ◌≤◌, ◌<◌, ℤ, pos, negsuc, nat_abs, neg_ℤ, ◌+ℤ◌, get_or}
use Rattle.standard.specs.declared.Layout.{Layout}
use Rattle.standard.specs.declared.Rectangle.{Rectangle}
use Rattle.standard.specs.Picture.{Inside}
use Rattle.standard.specs.Samples as standard
use Rattle.samples.specs.declared.Step.{Step}
use Rattle.samples.specs.declared.Way.{Way}
use Rattle.samples.specs.declared.Way.TheVariants.{Back, Stay, On}

-- by how much a way leads on
abbrev pub by : Way → ℤ
by Back = negsuc 0
by Stay = pos 0
by On = pos 1

-- the standard's step
abbrev pub step_to : Step → standard.Step
step_to s = record { h = by s.dx; v = by s.dy }

-- of a table of classes by two neighbours, the step to neighbour k
abbrev pub entry_of : List (List Step) → ℕ → ℕ → Step
entry_of table class k = get_or (get_or table class []) k (record { dx = Back; dy = Back })

-- THE TABLE THAT THE CODE HAS: its steps are those of the definitions, and in each class the second is the first negated
pub record Steps (table : List (List Step)) : Type 0 where
  pub first : (class : ℕ) → class < 4 → step_to (entry_of table class 0) ≡ (standard.steps_of class).0
  pub second : (class : ℕ) → class < 4 → step_to (entry_of table class 1) ≡ (standard.steps_of class).1
  pub negated : (class : ℕ) → class < 4 → step_to (entry_of table class 1) ≡ record { h = neg_ℤ (by (entry_of table class 0).dx); v = neg_ℤ (by (entry_of table class 0).dy) }

-- the two steps of a class
pub record StepsOf (class : ℕ) (s : Step × Step) : Type 0 where
  pub first : step_to s.0 ≡ (standard.steps_of class).0
  pub second : step_to s.1 ≡ (standard.steps_of class).1

-- a step by one at most, across and down
pub record ByOne (step : standard.Step) : Type 0 where
  pub across : nat_abs step.h ≤ 1
  pub down : nat_abs step.v ≤ 1

-- the sample that step away from each sample of r is in the picture
abbrev pub Reach : Layout → standard.Step → Rectangle → Type 0
Reach l step r = (x y : ℕ) → Inside r x y → standard.in_picture l.width l.height (pos x +ℤ step.h) (pos y +ℤ step.v) ≡ true
