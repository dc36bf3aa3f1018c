-- Document 01's numbers of the refusals, and how a call's reasons are read.
use Rattle.std.specs.Prelude.{◌≡◌, Bool, true, false, List, [], ◌∷◌, ◌⊎◌, ℕ}
use Rattle.standard.specs.declared.Refusal.{Refusal}
use Rattle.standard.specs.declared.Refusal.TheVariants.{Description, Length, NoSuchBlock, CountTooLarge, TooEarly, BinsRemain, AllRead, SampleTooLarge, DeliveredBefore, NotReady, FilteredBefore, NoBins, NoRoom, Stored}

abbrev pub number_of : Refusal → ℕ
number_of Description = 1
number_of Length = 2
number_of NoSuchBlock = 3
number_of CountTooLarge = 4
number_of TooEarly = 5
number_of BinsRemain = 6
number_of AllRead = 7
number_of SampleTooLarge = 8
number_of DeliveredBefore = 9
number_of NotReady = 10
number_of FilteredBefore = 11
number_of NoBins = 12
number_of NoRoom = 13
number_of Stored = 14

-- a reason to refuse: its number, and when it holds
pub record Reason : Type 1 where
  pub number : ℕ
  pub holds : Type 0

infix 4 ◌if◌
abbrev pub ◌if◌ : ℕ → Type 0 → Reason
n if P = record { number = n; holds = P }

-- n is the number of the first that holds
abbrev pub First : List Reason → ℕ → Type 0
First [] n = ⊥
First (r ∷ rs) n = (r.holds × (n ≡ r.number)) ⊎ ((¬ r.holds) × First rs n)

-- none holds
abbrev pub Clear : List Reason → Type 0
Clear [] = Unit {0}
Clear (r ∷ rs) = (¬ r.holds) × Clear rs

-- the answer of a test whether P
abbrev pub Tells : Type 0 → Bool → Type 0
Tells P true = P
Tells P false = ¬ P
