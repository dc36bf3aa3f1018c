-- What the parts of a read answer: the set that a merge copies, and the reasons of the bins or the set that they mean.
use Rattle.std.specs.Prelude.{◌≡◌, List, ℕ, Option, Some as some, Result, Ok, Err}
use Rattle.standard.specs.declared.State.{State}
use Rattle.standard.specs.declared.CtuSet.{CtuSet}
use Rattle.standard.specs.declared.Refusal.{Refusal}
use Rattle.standard.specs.declared.Refusal.TheVariants.{Stored}
use Rattle.standard.specs.declared.Switches.{Switches}
use Rattle.standard.specs.Bins.{bins_of}
use Rattle.standard.specs.Table.{Sound}
use Rattle.standard.specs.Refusals.{Reason}
use Rattle.standard.specs.Reasons.{TableFits, MeansHere}
use Rattle.standard.specs.Ensures.{Decides}
use Rattle.geometry.specs.declared.due.Due.{Due}
use Rattle.geometry.specs.Dues.{state_of}
use Rattle.sets.specs.Entries.{Holds}

-- the neighbour's set, or that the table holds none for it within the rules
abbrev pub Copied : Switches → List ℕ → Option ℕ → Result CtuSet Refusal → Type 0
Copied s table near (Ok q) = (k : ℕ) × (near ≡ some k) × Holds s table k q
Copied s table near (Err r) = (r ≡ Stored) × ((k : ℕ) → near ≡ some k → ¬ Sound s table k)

-- the first of some reasons, or the set that the bins mean
abbrev pub Answered : State → List ℕ → ℕ → List ℕ → List Reason → Result CtuSet Refusal → Type 0
Answered s bytes count table reasons r = Decides reasons r (λ q. MeansHere s table q (bins_of bytes count)) (Unit {0})

-- the CTU that is due, in whose picture's table its set goes, and the set that the bins mean
pub record HasRead (s : State) (bytes : List ℕ) (count : ℕ) (table : List ℕ) (r : Due × CtuSet) : Type 0 where
  pub due : state_of r.0 ≡ s
  pub fits : TableFits r.0.of.picture table
  pub means : MeansHere s table r.1 (bins_of bytes count)
