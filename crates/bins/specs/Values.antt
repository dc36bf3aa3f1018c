-- The values that the code takes from bins, and the bins of each, by the standard's definitions.
use Rattle.std.specs.Prelude.{◌≡◌, Bool, true, false, List, [], ◌∷◌, ◌++◌, ℕ, ◌≤◌, ℤ, nat_abs}
use Rattle.standard.specs.declared.Four.{Four}
use Rattle.standard.specs.declared.Offsets.{Offsets}
use Rattle.standard.specs.declared.Offsets.TheVariants.{Off, Edge}
use Rattle.standard.specs.declared.Switches.{Switches}
use Rattle.standard.specs.Sets.{Small, EdgeSigns, Fits, Shares, Ruled, Valid}
use Rattle.standard.specs.Bins.{truncated, type_idx, type_bins, rest, rest_of_cr, when, full}
use Rattle.bins.specs.declared.Form.{Form}
use Rattle.bins.specs.declared.Form.TheVariants.{Left, Up, Full}

-- ---- the syntax elements

-- a bin
abbrev pub AnyBin : Bool → Type 0
AnyBin b = Unit {0}

abbrev pub bin_of : Bool → List Bool
bin_of b = b ∷ []

-- four magnitudes of at most m
abbrev pub MagnitudesFit : ℕ → Four ℕ → Type 0
MagnitudesFit m v = (v.o1 ≤ m) × ((v.o2 ≤ m) × ((v.o3 ≤ m) × (v.o4 ≤ m)))

abbrev pub magnitudes_bins : ℕ → Four ℕ → List Bool
magnitudes_bins m v = truncated m v.o1 ++ (truncated m v.o2 ++ (truncated m v.o3 ++ truncated m v.o4))

-- an offset of magnitude v, and four of these magnitudes
abbrev pub OfSize : ℕ → ℤ → Type 0
OfSize v o = nat_abs o ≡ v

abbrev pub OfSizes : Four ℕ → Four ℤ → Type 0
OfSizes v o = OfSize v.o1 o.o1 × (OfSize v.o2 o.o2 × (OfSize v.o3 o.o3 × OfSize v.o4 o.o4))

-- an edge's offsets
abbrev pub EdgeOffsetsFit : ℕ → Four ℤ → Type 0
EdgeOffsetsFit m o = Small m o × EdgeSigns o

-- ---- a component

-- of a type that is known
abbrev pub OfType : ℕ → ℕ → Offsets → Type 0
OfType t m c = Fits m c × (type_idx c ≡ t)

-- Cr after a Cb, and an edge whose class is Cb's
abbrev pub AfterCb : ℕ → Offsets → Offsets → Type 0
AfterCb m cb c = Fits m c × Shares cb c

abbrev pub EdgeOf : ℕ → ℕ → Offsets → Type 0
EdgeOf m class c = Fits m c × (o : Four ℤ) × (c ≡ Edge class o)

-- Cb and Cr, whose largest magnitudes are m and n
abbrev pub CbAndCrFit : ℕ → ℕ → Offsets × Offsets → Type 0
CbAndCrFit m n t = Fits m t.0 × Fits n t.1 × Shares t.0 t.1

abbrev pub cb_and_cr_bins : ℕ → ℕ → Offsets × Offsets → List Bool
cb_and_cr_bins m n t = type_bins t.0 ++ (rest m t.0 ++ rest_of_cr n t.1)

-- by their switches
abbrev pub LumaBySwitch : Bool → ℕ → Offsets → Type 0
LumaBySwitch on m c = Ruled on (Fits m c) (c ≡ Off)

abbrev pub luma_bins_by_switch : Bool → ℕ → Offsets → List Bool
luma_bins_by_switch on m c = when on (type_bins c ++ rest m c)

abbrev pub ChromaBySwitch : Bool → ℕ → ℕ → Offsets × Offsets → Type 0
ChromaBySwitch on m n t = Ruled on (CbAndCrFit m n t) ((t.0 ≡ Off) × (t.1 ≡ Off))

abbrev pub chroma_bins_by_switch : Bool → ℕ → ℕ → Offsets × Offsets → List Bool
chroma_bins_by_switch on m n t = when on (cb_and_cr_bins m n t)

-- ---- a CTU that has bins

-- whether the merge with a neighbour is taken, where the neighbour is there
abbrev pub MergeFits : Bool → Bool → Type 0
MergeFits there taken = Ruled there (Unit {0}) (taken ≡ false)

abbrev pub merge_bins : Bool → Bool → List Bool
merge_bins there taken = when there (taken ∷ [])

-- a merge needs its neighbour
abbrev pub FormFits : Switches → Bool → Bool → Form → Type 0
FormFits s has_left has_up Left = has_left ≡ true
FormFits s has_left has_up Up = has_up ≡ true
FormFits s has_left has_up (Full q) = Valid s q

abbrev pub bins_of_form : Switches → Bool → Bool → Form → List Bool
bins_of_form s has_left has_up Left = true ∷ []
bins_of_form s has_left has_up Up = merge_bins has_left false ++ (true ∷ [])
bins_of_form s has_left has_up (Full q) = merge_bins has_left false ++ (merge_bins has_up false ++ full s q)
