-- What stands beside the CTU that is due, as a write finds it; and the reasons of the set itself.
use Rattle.std.specs.Prelude.{◌≡◌, Bool, List, [], ◌∷◌, ℕ, ◌*◌, ◌<◌, length, Option, Result, Ok, Err}
use Rattle.standard.specs.declared.CtuSet.{CtuSet}
use Rattle.standard.specs.declared.Refusal.{Refusal}
use Rattle.standard.specs.declared.Refusal.TheVariants.{Stored}
use Rattle.standard.specs.declared.State.{State}
use Rattle.standard.specs.declared.Switches.{Switches}
use Rattle.standard.specs.Bins.{packed}
use Rattle.standard.specs.Means.{Means, Shortest}
use Rattle.standard.specs.Table.{stored_at}
use Rattle.standard.specs.Refusals.{Reason, ◌if◌}
use Rattle.standard.specs.Reasons.{TableFits, NeighbourOutsideTheRules}
use Rattle.standard.specs.Ensures.{Decides, Wrote}
use Rattle.geometry.specs.declared.due.Due.{Due}
use Rattle.geometry.specs.Dues.{state_of}

-- the neighbour's set, which is within the rules, or none; or an entry outside the rules
abbrev pub FindsBeside : State → List ℕ → Option ℕ → Result (Option CtuSet) Refusal → Type 0
FindsBeside s table k (Ok near) = (near ≡ stored_at table k) × (¬ NeighbourOutsideTheRules s table k)
FindsBeside s table k (Err r) = (r ≡ Stored) × NeighbourOutsideTheRules s table k

-- the reasons of the set alone, where the neighbours' sets are these
abbrev pub spelling_reasons : Switches → Option CtuSet → Option CtuSet → CtuSet → List ℕ → List Reason
spelling_reasons s left up q out =
    (12 if ((bins : List Bool) → ¬ Means s left up q bins))
    ∷ (13 if ((bins : List Bool) × Shortest s left up q bins × (8 * length out < length bins)))
    ∷ []

-- n bins, the shortest that mean the set, are at the front
abbrev pub Spelled : Switches → Option CtuSet → Option CtuSet → CtuSet → List ℕ → List ℕ → ℕ → Type 0
Spelled s left up q out out' n = (bins : List Bool) × Shortest s left up q bins × (n ≡ length bins) × (out' ≡ packed bins out)

abbrev pub SetWritten : Switches → Option CtuSet → Option CtuSet → CtuSet → List ℕ → List ℕ → Result ℕ Refusal → Type 0
SetWritten s left up q out out' r = Decides (spelling_reasons s left up q out) r (Spelled s left up q out out') (out' ≡ out)

-- the CTU that is due, in whose picture's table its set goes, and how many bins are at the front
pub record HasWritten (s : State) (q : CtuSet) (out table out' : List ℕ) (r : Due × ℕ) : Type 0 where
  pub due : state_of r.0 ≡ s
  pub fits : TableFits r.0.of.picture table
  pub wrote : Wrote s q out table r.1 out'
