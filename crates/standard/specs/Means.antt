-- Which bins mean which set (H.265 7.3.8.3 and 7.4.9.3), of a CTU whose left and upper neighbours, where a merge may reach them, have these sets.
use Rattle.std.specs.Prelude.{◌≡◌, Bool, true, false, List, [], ◌∷◌, ◌++◌, ◌≤◌, length}
use Rattle.std.specs.Prelude.{Option, Some as some, None as none}
use Rattle.standard.specs.declared.CtuSet.{CtuSet}
use Rattle.standard.specs.declared.Switches.{Switches}
use Rattle.standard.specs.Sets.{Valid, all_off}
use Rattle.standard.specs.Bins.{full}

abbrev pub either : Bool → Bool → Bool
either true b = true
either false b = b

-- whether a CTU has bins at all
abbrev pub any_on : Switches → Bool
any_on s = either s.luma s.chroma

-- the bin of a merge that is not taken, where the neighbour is there
abbrev pub not_taken : Option CtuSet → List Bool
not_taken none = []
not_taken (some q) = false ∷ []

pub data Means (s : Switches) (left up : Option CtuSet) (q : CtuSet) (bins : List Bool) : Type 0 where
  no_bins : any_on s ≡ false → q ≡ all_off → bins ≡ [] → Means s left up q bins
  -- a merge copies all three components
  merged_left : any_on s ≡ true → left ≡ some q → bins ≡ true ∷ [] → Means s left up q bins
  merged_up : any_on s ≡ true → up ≡ some q → bins ≡ not_taken left ++ (true ∷ []) → Means s left up q bins
  in_full : any_on s ≡ true → Valid s q → bins ≡ not_taken left ++ (not_taken up ++ full s q) → Means s left up q bins

-- the bins end too early: with more of them they would mean a set
abbrev pub Early : Switches → Option CtuSet → Option CtuSet → List Bool → Type 0
Early s left up bins = (b : Bool) × (more : List Bool) × (q : CtuSet) × Means s left up q (bins ++ (b ∷ more))

-- bins remain: the first of them mean a set already
abbrev pub Remain : Switches → Option CtuSet → Option CtuSet → List Bool → Type 0
Remain s left up bins =
    (front : List Bool) × (b : Bool) × (more : List Bool) × (q : CtuSet) × (bins ≡ front ++ (b ∷ more)) × Means s left up q front

-- bins that mean the set, and none that do are fewer
pub record Shortest (s : Switches) (left up : Option CtuSet) (q : CtuSet) (bins : List Bool) : Type 0 where
  pub mean : Means s left up q bins
  pub least : (other : List Bool) → Means s left up q other → length bins ≤ length other
