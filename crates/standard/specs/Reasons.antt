-- Each call's reasons to refuse, in document 01's order: the refusal is the first that holds.
use Rattle.std.specs.Prelude.{◌≡◌, Bool, true, List, [], ◌∷◌, ◌++◌, ◌⊎◌, ℕ, zero, suc, ◌+◌, ◌-◌, ◌*◌, ◌^◌, ◌≤◌, ◌<◌, length, get_or}
use Rattle.std.specs.Prelude.{Option, Some as some, None as none}
use Rattle.standard.specs.declared.Picture.{Picture}
use Rattle.standard.specs.declared.State.{State}
use Rattle.standard.specs.declared.Rectangle.{Rectangle}
use Rattle.standard.specs.declared.CtuSet.{CtuSet}
use Rattle.standard.specs.Picture.{Rules, depth_of, components, plane_width, samples_of, ctu_count, rectangle, address, merge_left, merge_up}
use Rattle.standard.specs.Sets.{switches_of}
use Rattle.standard.specs.Bins.{bins_of}
use Rattle.standard.specs.Means.{not_taken, Means, Early, Remain, Shortest}
use Rattle.standard.specs.Samples.{at, Waits, Scans}
use Rattle.standard.specs.Table.{entry_size, Sound, switches_at, offsets_at, stored_at}
use Rattle.standard.specs.Refusals.{Reason, ◌if◌}

-- ---- what is lent

-- a plane of each component
pub record Planes : Type 0 where
  pub y : List ℕ
  pub cb : List ℕ
  pub cr : List ℕ

abbrev pub plane_of : Planes → ℕ → List ℕ
plane_of planes zero = planes.y
plane_of planes (suc zero) = planes.cb
plane_of planes (suc (suc zero)) = planes.cr
plane_of planes (suc (suc (suc n))) = []

-- of their right lengths
pub record PlanesFit (p : Picture) (planes : Planes) : Type 0 where
  pub y : length planes.y ≡ samples_of p 0
  pub cb : length planes.cb ≡ samples_of p 1
  pub cr : length planes.cr ≡ samples_of p 2

abbrev pub mark_count : Picture → ℕ
mark_count p = components p * ctu_count p

abbrev pub MarksFit : Picture → List ℕ → Type 0
MarksFit p marks = length marks ≡ mark_count p

abbrev pub TableFits : Picture → List ℕ → Type 0
TableFits p table = length table ≡ entry_size * ctu_count p

-- the mark of CTB k of component i: 0 nothing, 1 delivered, 2 filtered
abbrev pub mark_place : Picture → ℕ → ℕ → ℕ
mark_place p i k = i * ctu_count p + k

abbrev pub mark_of : Picture → List ℕ → ℕ → ℕ → ℕ
mark_of p marks i k = get_or marks (mark_place p i k) 0

-- how many samples CTB k has
abbrev pub area : Rectangle → ℕ
area r = (r.x1 - r.x0) * (r.y1 - r.y0)

-- ---- the CTU that is due

-- the sets of the neighbours that a merge of it may reach
abbrev pub left_set : State → List ℕ → Option CtuSet
left_set s table = stored_at table (merge_left s)

abbrev pub upper_set : State → List ℕ → Option CtuSet
upper_set s table = stored_at table (merge_up s)

-- the bins mean q, of that CTU
abbrev pub MeansHere : State → List ℕ → CtuSet → List Bool → Type 0
MeansHere s table q bins = Means (switches_of s) (left_set s table) (upper_set s table) q bins

abbrev pub ShortestHere : State → List ℕ → CtuSet → List Bool → Type 0
ShortestHere s table q bins = Shortest (switches_of s) (left_set s table) (upper_set s table) q bins

-- the bins are a merge with CTU j
pub data Copies (s : State) (table : List ℕ) (bins : List Bool) (j : ℕ) : Type 0 where
  left : merge_left s ≡ some j → bins ≡ true ∷ [] → Copies s table bins j
  up : merge_up s ≡ some j → bins ≡ not_taken (left_set s table) ++ (true ∷ []) → Copies s table bins j

-- ---- the paper's sentences

abbrev pub DescriptionBreaksARule : State → Type 0
DescriptionBreaksARule s = ¬ Rules s.picture

abbrev pub NextAboveTheCount : State → Type 0
NextAboveTheCount s = ctu_count s.picture < s.next

-- what reading and writing need of the state: a CTU is due
abbrev pub UnitIsDue : State → Type 0
UnitIsDue s = s.next < ctu_count s.picture

abbrev pub EveryCtuHasItsSet : State → Type 0
EveryCtuHasItsSet s = ctu_count s.picture ≤ s.next

abbrev pub NoSuchComponent : State → ℕ → Type 0
NoSuchComponent s i = components s.picture ≤ i

abbrev pub NoSuchComponentOrCtb : State → ℕ → ℕ → Type 0
NoSuchComponentOrCtb s i k = NoSuchComponent s i ⊎ (ctu_count s.picture ≤ k)

abbrev pub CountExceedsTheBytes : List ℕ → ℕ → Type 0
CountExceedsTheBytes bytes count = 8 * length bytes < count

abbrev pub BinsEndTooEarly : State → List ℕ → List Bool → Type 0
BinsEndTooEarly s table bins = Early (switches_of s) (left_set s table) (upper_set s table) bins

abbrev pub BinsRemainAfterTheCtu : State → List ℕ → List Bool → Type 0
BinsRemainAfterTheCtu s table bins = Remain (switches_of s) (left_set s table) (upper_set s table) bins

-- by what its own syntax depended on
abbrev pub SetOutsideTheRules : State → List ℕ → ℕ → Type 0
SetOutsideTheRules s table k = ¬ Sound (switches_at s.picture table k) table k

-- a set that a merge reaches, by what the syntax of the CTU that is due depends on
abbrev pub ReachedOutsideTheRules : State → List ℕ → ℕ → Type 0
ReachedOutsideTheRules s table k = ¬ Sound (switches_of s) table k

abbrev pub NeighbourOutsideTheRules : State → List ℕ → Option ℕ → Type 0
NeighbourOutsideTheRules s table none = ⊥
NeighbourOutsideTheRules s table (some k) = ReachedOutsideTheRules s table k

abbrev pub NoBinsMeanThisSet : State → List ℕ → CtuSet → Type 0
NoBinsMeanThisSet s table q = (bins : List Bool) → ¬ MeansHere s table q bins

abbrev pub BinsDoNotFit : State → List ℕ → CtuSet → List ℕ → Type 0
BinsDoNotFit s table q out = (bins : List Bool) × ShortestHere s table q bins × (8 * length out < length bins)

-- a sample exceeds 2^depth - 1
abbrev pub TooLarge : State → ℕ → ℕ → Type 0
TooLarge s i v = 2 ^ depth_of s.picture i ≤ v

abbrev pub DeliveredSampleTooLarge : State → ℕ → List ℕ → Type 0
DeliveredSampleTooLarge s i samples = (n : ℕ) × (n < length samples) × TooLarge s i (get_or samples n 0)

-- filter is ready when the CTU's set is in and the CTBs that it waits for are delivered or filtered; k is the CTU's place in the order of reading
abbrev pub SetIsMissing : State → ℕ → Type 0
SetIsMissing s k = (n : ℕ) → n < s.next → ¬ (address s.picture n ≡ k)

-- a CTB waited for whose mark is as M says
abbrev pub SomeWaited : State → ℕ → ℕ → List ℕ → List ℕ → (ℕ → Type 0) → Type 0
SomeWaited s i k marks table M =
    (j : ℕ) × Waits s.picture (offsets_at table i k) k j × M (mark_of s.picture marks i j)

abbrev pub MarkAboveTwo : ℕ → Type 0
MarkAboveTwo m = 2 < m

abbrev pub NotDelivered : ℕ → Type 0
NotDelivered m = m ≡ 0

abbrev pub DeliveredBefore : ℕ → Type 0
DeliveredBefore m = (m ≡ 1) ⊎ (m ≡ 2)

-- a sample that filter looks at
abbrev pub DeblockedSampleTooLarge : State → ℕ → ℕ → List ℕ → List ℕ → Type 0
DeblockedSampleTooLarge s i k table plane =
    (x : ℕ) × (y : ℕ) × Scans s.picture i (offsets_at table i k) k x y × TooLarge s i (at plane (plane_width s.picture i) x y)

-- ---- the reasons in parts, each in document 01's order

-- the description
abbrev pub description_reasons : State → List Reason
description_reasons s =
    (1 if DescriptionBreaksARule s)
    ∷ []

-- the lengths of planes, marks and table, those that the call is lent
abbrev pub length_reasons : Type 0 → List Reason
length_reasons fit =
    (2 if (¬ fit))
    ∷ []

-- the state
abbrev pub state_reasons : State → List Reason
state_reasons s =
    (14 if NextAboveTheCount s)
    ∷ []

-- these come first in every call, but that opening reads of the state the description alone
abbrev pub lent_reasons : State → Type 0 → List Reason
lent_reasons s fit = description_reasons s ++ length_reasons fit

abbrev pub call_reasons : State → Type 0 → List Reason
call_reasons s fit = lent_reasons s fit ++ state_reasons s

-- read and write: no CTU is due
abbrev pub due_reasons : State → List Reason
due_reasons s =
    (7 if EveryCtuHasItsSet s)
    ∷ []

-- deliver and filter: what the call names
abbrev pub block_reasons : State → ℕ → ℕ → List Reason
block_reasons s i k =
    (3 if NoSuchComponentOrCtb s i k)
    ∷ []

-- read: the count, and the bins
abbrev pub count_reasons : List ℕ → ℕ → List Reason
count_reasons bytes count =
    (4 if CountExceedsTheBytes bytes count)
    ∷ []

abbrev pub bins_reasons : State → List ℕ → ℕ → List ℕ → List Reason
bins_reasons s bytes count table =
    (5 if BinsEndTooEarly s table (bins_of bytes count))
    ∷ (6 if BinsRemainAfterTheCtu s table (bins_of bytes count))
    ∷ (14 if ((j : ℕ) × Copies s table (bins_of bytes count) j × ReachedOutsideTheRules s table j))
    ∷ []

-- write: the neighbours' sets, and the set
abbrev pub set_reasons : State → CtuSet → List ℕ → List ℕ → List Reason
set_reasons s q out table =
    (14 if (NeighbourOutsideTheRules s table (merge_left s) ⊎ NeighbourOutsideTheRules s table (merge_up s)))
    ∷ (12 if NoBinsMeanThisSet s table q)
    ∷ (13 if BinsDoNotFit s table q out)
    ∷ []

-- deliver: the samples, and the CTB's mark
abbrev pub samples_reasons : State → ℕ → ℕ → List ℕ → List ℕ → List Reason
samples_reasons s i k samples marks =
    (2 if (¬ (length samples ≡ area (rectangle s.picture i k))))
    ∷ (14 if MarkAboveTwo (mark_of s.picture marks i k))
    ∷ (9 if DeliveredBefore (mark_of s.picture marks i k))
    ∷ (8 if DeliveredSampleTooLarge s i samples)
    ∷ []

-- filter: marks, and what is not in yet
abbrev pub ready_reasons : State → ℕ → ℕ → List ℕ → List ℕ → List Reason
ready_reasons s i k marks table =
    (14 if SomeWaited s i k marks table MarkAboveTwo)
    ∷ (11 if (mark_of s.picture marks i k ≡ 2))
    ∷ (10 if (SetIsMissing s k ⊎ SomeWaited s i k marks table NotDelivered))
    ∷ []

-- and what is in: the CTU's set, and the deblocked samples
abbrev pub stored_reasons : State → ℕ → ℕ → Planes → List ℕ → List Reason
stored_reasons s i k deblocked table =
    (14 if SetOutsideTheRules s table k)
    ∷ (14 if DeblockedSampleTooLarge s i k table (plane_of deblocked i))
    ∷ []

-- finished rows: the component, and its marks
abbrev pub marks_reasons : State → ℕ → List ℕ → List Reason
marks_reasons s i marks =
    (3 if NoSuchComponent s i)
    ∷ (14 if ((k : ℕ) × (k < ctu_count s.picture) × MarkAboveTwo (mark_of s.picture marks i k)))
    ∷ []

-- ---- the calls

abbrev pub open_reasons : State → List ℕ → List Reason
open_reasons s marks = lent_reasons s (MarksFit s.picture marks)

abbrev pub read_reasons : State → List ℕ → ℕ → List ℕ → List Reason
read_reasons s bytes count table =
    call_reasons s (TableFits s.picture table)
    ++ due_reasons s
    ++ count_reasons bytes count
    ++ bins_reasons s bytes count table

abbrev pub write_reasons : State → CtuSet → List ℕ → List ℕ → List Reason
write_reasons s q out table =
    call_reasons s (TableFits s.picture table)
    ++ due_reasons s
    ++ set_reasons s q out table

abbrev pub deliver_reasons : State → ℕ → ℕ → List ℕ → Planes → List ℕ → List Reason
deliver_reasons s i k samples deblocked marks =
    call_reasons s (PlanesFit s.picture deblocked × MarksFit s.picture marks)
    ++ block_reasons s i k
    ++ samples_reasons s i k samples marks

abbrev pub filter_reasons : State → ℕ → ℕ → Planes → Planes → List ℕ → List ℕ → List Reason
filter_reasons s i k deblocked filtered marks table =
    call_reasons s (PlanesFit s.picture deblocked × PlanesFit s.picture filtered × MarksFit s.picture marks × TableFits s.picture table)
    ++ block_reasons s i k
    ++ ready_reasons s i k marks table
    ++ stored_reasons s i k deblocked table

abbrev pub rows_reasons : State → ℕ → Planes → List ℕ → List Reason
rows_reasons s i filtered marks =
    call_reasons s (PlanesFit s.picture filtered × MarksFit s.picture marks)
    ++ marks_reasons s i marks
