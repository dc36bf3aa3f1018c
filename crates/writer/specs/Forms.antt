-- The bins that are written for a set, whether or not it is within the rules: none, a merge or the full form.
use Rattle.std.specs.Prelude.{◌≡◌, Bool, true, false, List, [], ◌∷◌, ◌++◌}
use Rattle.std.specs.Prelude.{Option, Some as some}
use Rattle.standard.specs.declared.CtuSet.{CtuSet}
use Rattle.standard.specs.declared.Switches.{Switches}
use Rattle.standard.specs.Bins.{full}
use Rattle.standard.specs.Means.{any_on, not_taken, Means}
use Rattle.writer.specs.declared.Shape.{Shape}
use Rattle.writer.specs.declared.Shape.TheVariants.{Empty, Left, Up, Full}

-- some bins mean the set
abbrev pub Meant : Switches → Option CtuSet → Option CtuSet → CtuSet → Type 0
Meant s left up q = (bins : List Bool) × Means s left up q bins

-- the shape that writing uses: where a CTU has bins, merge left if the left set is equal, else merge up if the upper set is equal, else the
-- full form
abbrev pub Choice : Switches → Option CtuSet → Option CtuSet → CtuSet → Shape → Type 0
Choice s left up q Empty = any_on s ≡ false
Choice s left up q Left = (any_on s ≡ true) × (left ≡ some q)
Choice s left up q Up = (any_on s ≡ true) × (¬ (left ≡ some q)) × (up ≡ some q)
Choice s left up q Full = (any_on s ≡ true) × (¬ (left ≡ some q)) × (¬ (up ≡ some q))

unfoldable pub shape_bins : Switches → Option CtuSet → Option CtuSet → CtuSet → Shape → List Bool
shape_bins s left up q Empty = []
shape_bins s left up q Left = true ∷ []
shape_bins s left up q Up = not_taken left ++ (true ∷ [])
shape_bins s left up q Full = not_taken left ++ (not_taken up ++ full s q)
