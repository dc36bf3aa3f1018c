-- What an accepted call leaves. All that is not named here is as it was.
use Rattle.std.specs.Prelude.{◌≡◌, List, ◌⊎◌, ℕ, ◌+◌, ◌-◌, ◌*◌, ◌<◌, min, length, get_or, set, take, replicate}
use Rattle.standard.specs.declared.Picture.{Picture}
use Rattle.standard.specs.declared.State.{State}
use Rattle.standard.specs.declared.Rectangle.{Rectangle}
use Rattle.standard.specs.declared.CtuSet.{CtuSet}
use Rattle.standard.specs.Picture.{plane_width, plane_height, columns, rows, ctb_height, Inside, rectangle, due}
use Rattle.standard.specs.Samples.{at, filtered_sample}
use Rattle.standard.specs.Table.{entered, parameters_in}
use Rattle.standard.specs.Reasons.{Planes, plane_of, mark_count, mark_place, mark_of}

-- open: marks 0, next CTU 0
abbrev pub opened_marks : State → List ℕ
opened_marks s = replicate (mark_count s.picture) 0

abbrev pub opened_state : State → State
opened_state s = record { picture = s.picture; next = 0 }

-- read and write: the set stored, and on to the next CTU
abbrev pub table_with : State → CtuSet → List ℕ → List ℕ
table_with s q table = entered table (due s) q

abbrev pub state_after : State → State
state_after s = record { picture = s.picture; next = s.next + 1 }

-- `after` is the plane `before`, w samples to a row and h rows, with the samples of r as f says
pub record Written (w h : ℕ) (r : Rectangle) (f : ℕ → ℕ → ℕ) (before after : List ℕ) : Type 0 where
  pub long : length after ≡ length before
  pub inside : (x y : ℕ) → x < w → y < h → Inside r x y → at after w x y ≡ f x y
  pub outside : (x y : ℕ) → x < w → y < h → ¬ Inside r x y → at after w x y ≡ at before w x y

-- CTB k of component i's plane as f says; the other planes as they were
pub record BlockWritten (p : Picture) (i k : ℕ) (f : ℕ → ℕ → ℕ) (before after : Planes) : Type 0 where
  pub own : Written (plane_width p i) (plane_height p i) (rectangle p i k) f (plane_of before i) (plane_of after i)
  pub others : (j : ℕ) → ¬ (j ≡ i) → plane_of after j ≡ plane_of before j

-- deliver: the samples, row after row, and mark 1
abbrev pub delivered : Rectangle → List ℕ → ℕ → ℕ → ℕ
delivered r samples x y = get_or samples ((y - r.y0) * (r.x1 - r.x0) + (x - r.x0)) 0

abbrev pub marked : State → ℕ → ℕ → ℕ → List ℕ → List ℕ
marked s i k mark marks = set marks (mark_place s.picture i k) mark

abbrev pub Delivered : State → ℕ → ℕ → List ℕ → Planes → Planes → Type 0
Delivered s i k samples before after = BlockWritten s.picture i k (delivered (rectangle s.picture i k) samples) before after

-- filter: the standard's samples of the CTU's set, and mark 2
abbrev pub Filtered : State → ℕ → ℕ → List ℕ → Planes → Planes → Planes → Type 0
Filtered s i k table deblocked before after =
    BlockWritten s.picture i k (filtered_sample s.picture (parameters_in table) i k (plane_of deblocked i)) before after

-- finished rows: those before the first CTB row that has an unfiltered CTB, or all of them
pub record FinishedRows (s : State) (i : ℕ) (marks : List ℕ) (n : ℕ) : Type 0 where
  -- the CTB rows that are finished
  pub row : ℕ
  pub whole : (r c : ℕ) → r < row → c < columns s.picture → mark_of s.picture marks i (r * columns s.picture + c) ≡ 2
  pub ends : (row ≡ rows s.picture)
      ⊎ ((row < rows s.picture) × ((c : ℕ) × (c < columns s.picture) × (¬ (mark_of s.picture marks i (row * columns s.picture + c) ≡ 2))))
  pub number : n ≡ min (row * ctb_height s.picture i) (plane_height s.picture i)

-- and what is handed out: the plane's first n rows
abbrev pub leading : State → ℕ → ℕ → List ℕ → List ℕ
leading s i n plane = take (n * plane_width s.picture i) plane
