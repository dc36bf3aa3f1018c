-- What each call ensures of its answer, the state that it hands back and every lent buffer at its end, for all inputs: it is refused
-- with the number of the first reason that holds, and then all reads as before; or none holds, and it acts.
use Rattle.std.specs.Prelude.{◌≡◌, Bool, List, [], ℕ, length, Result, Ok, Err}
use Rattle.standard.specs.declared.State.{State}
use Rattle.standard.specs.declared.CtuSet.{CtuSet}
use Rattle.standard.specs.declared.Refusal.{Refusal}
use Rattle.standard.specs.declared.Outcome.{Outcome}
use Rattle.standard.specs.Bins.{bins_of, packed}
use Rattle.standard.specs.Refusals.{number_of, Reason, First, Clear}
use Rattle.standard.specs.Reasons.{Planes, plane_of, MeansHere, ShortestHere, open_reasons, read_reasons, write_reasons, deliver_reasons, filter_reasons, rows_reasons}
use Rattle.standard.specs.Calls.{opened_marks, opened_state, table_with, state_after, marked, Delivered, Filtered, FinishedRows, leading}

-- the verdict alone, whatever the value
abbrev pub Judged : {T : Type 0} → List Reason → Result T Refusal → Type 0
Judged reasons (Ok x) = Clear reasons
Judged reasons (Err r) = First reasons (number_of r)

-- done, with the value of which it holds, or as before
abbrev pub Decides : {T : Type 0} → List Reason → Result T Refusal → (T → Type 0) → Type 0 → Type 0
Decides reasons (Ok x) done before = Clear reasons × done x
Decides reasons (Err r) done before = First reasons (number_of r) × before

-- open, deliver and filter have no value
abbrev pub OpenEnsures : State → List ℕ → Outcome (Unit {0}) → List ℕ → Type 0
OpenEnsures s marks o marks' =
    Decides (open_reasons s marks) o.answer
    (λ x. (o.state ≡ opened_state s) × (marks' ≡ opened_marks s))
    ((o.state ≡ s) × (marks' ≡ marks))

abbrev pub DeliverEnsures : State → ℕ → ℕ → List ℕ → Planes → List ℕ → Outcome (Unit {0}) → Planes → List ℕ → Type 0
DeliverEnsures s i k samples deblocked marks o deblocked' marks' =
    Decides (deliver_reasons s i k samples deblocked marks) o.answer
    (λ x. (o.state ≡ s) × Delivered s i k samples deblocked deblocked' × (marks' ≡ marked s i k 1 marks))
    ((o.state ≡ s) × (deblocked' ≡ deblocked) × (marks' ≡ marks))

abbrev pub FilterEnsures : State → ℕ → ℕ → Planes → Planes → List ℕ → List ℕ → Outcome (Unit {0}) → Planes → List ℕ → Type 0
FilterEnsures s i k deblocked filtered marks table o filtered' marks' =
    Decides (filter_reasons s i k deblocked filtered marks table) o.answer
    (λ x. (o.state ≡ s) × Filtered s i k table deblocked filtered filtered' × (marks' ≡ marked s i k 2 marks))
    ((o.state ≡ s) × (filtered' ≡ filtered) × (marks' ≡ marks))

-- read: the set that the bins mean
abbrev pub ReadEnsures : State → List ℕ → ℕ → List ℕ → Outcome CtuSet → List ℕ → Type 0
ReadEnsures s bytes count table o table' =
    Decides (read_reasons s bytes count table) o.answer
    (λ q. (o.state ≡ state_after s) × MeansHere s table q (bins_of bytes count) × (table' ≡ table_with s q table))
    ((o.state ≡ s) × (table' ≡ table))

-- write: the shortest bins, of which there is one list, at the front of the room
pub record Wrote (s : State) (q : CtuSet) (out table : List ℕ) (n : ℕ) (out' : List ℕ) : Type 0 where
  pub bins : List Bool
  pub shortest : ShortestHere s table q bins
  pub number : n ≡ length bins
  pub bytes : out' ≡ packed bins out

abbrev pub WriteEnsures : State → CtuSet → List ℕ → List ℕ → Outcome ℕ → List ℕ → List ℕ → Type 0
WriteEnsures s q out table o out' table' =
    Decides (write_reasons s q out table) o.answer
    (λ n. (o.state ≡ state_after s) × Wrote s q out table n out' × (table' ≡ table_with s q table))
    ((o.state ≡ s) × (out' ≡ out) × (table' ≡ table))

-- finished rows: the companion's number, and the part that is handed out, empty where the companion refuses
abbrev pub RowsEnsures : State → ℕ → Planes → List ℕ → Outcome ℕ → Type 0
RowsEnsures s i filtered marks o =
    Decides (rows_reasons s i filtered marks) o.answer
    (λ n. (o.state ≡ s) × FinishedRows s i marks n)
    (o.state ≡ s)

pub record PartEnsures (s : State) (i : ℕ) (filtered : Planes) (marks part : List ℕ) : Type 0 where
  pub finished : Clear (rows_reasons s i filtered marks) → (n : ℕ) → FinishedRows s i marks n → part ≡ leading s i n (plane_of filtered i)
  pub refused : (n : ℕ) → First (rows_reasons s i filtered marks) n → part ≡ []
