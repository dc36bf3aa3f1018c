-- The form of a CTU's bins, by what they mean once the neighbours' sets are known.
use Rattle.std.specs.Prelude.{◌≡◌, Bool, List, Option, Some, Result, Ok, Err, is_some}
use Rattle.standard.specs.declared.CtuSet.{CtuSet}
use Rattle.standard.specs.declared.Switches.{Switches}
use Rattle.standard.specs.Means.{Means, Early, Remain}
use Rattle.bins.specs.declared.BinsError.{BinsError}
use Rattle.bins.specs.declared.BinsError.TheVariants.{TooEarly, BinsRemain}
use Rattle.bins.specs.declared.Form.{Form}
use Rattle.bins.specs.declared.Form.TheVariants.{Left, Up, Full}

-- what an answer says of the bins of a CTU whose neighbours have these sets: a merge, that they mean the neighbour's
abbrev pub Says : Switches → Option CtuSet → Option CtuSet → List Bool → Result Form BinsError → Type 0
Says s left up bins (Ok Left) = (q : CtuSet) × (left ≡ Some q) × Means s left up q bins
Says s left up bins (Ok Up) = (q : CtuSet) × (up ≡ Some q) × Means s left up q bins
Says s left up bins (Ok (Full q)) = Means s left up q bins
Says s left up bins (Err TooEarly) = Early s left up bins
Says s left up bins (Err BinsRemain) = Remain s left up bins

-- the answer is that of the bins: what it says is so whatever the sets of the neighbours that are there
abbrev pub ReadAs : Switches → Bool → Bool → List Bool → Result Form BinsError → Type 0
ReadAs s has_left has_up bins r =
    (left up : Option CtuSet) → is_some left ≡ has_left → is_some up ≡ has_up → Says s left up bins r
