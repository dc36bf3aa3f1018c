-- Finished rows: what the pass over a component's marks tells, the number of rows, and the part.
use mathlib.Core.Path.{◌≡◌, refl, sym, ap, subst, ◌∙◌}
use mathlib.Core.List.{List, []}
use mathlib.Core.Logic.{inl, inr, ⊎_elim}
use Prim.Native.Nat.{ℕ, ◌+◌, ◌*◌, ◌/◌, ◌%◌, ◌≤◌, ◌<◌, min}
use native.Mathlib.Nat.{min-le_right, mul_comm, mul-le-mul_right, div-mul-le_self, mul-div_cancel_left}
use native.Mathlib.Omega.{arith}
use lib.Seq.{length-take-le}
use lib.ListN.{length, get_or, drop}
use Rattle.standard.specs.declared.Picture.{Picture}
use Rattle.standard.specs.declared.State.{State}
use Rattle.standard.specs.Picture.{Rules, plane_width, plane_height, ctb_height, columns, rows, ctu_count}
use Rattle.standard.specs.Refusals.{First, Clear}
use Rattle.standard.specs.Reasons.{Planes, plane_of, mark_of, MarkAboveTwo, rows_reasons}
use Rattle.standard.specs.Calls.{FinishedRows, leading}
use Rattle.standard.specs.Ensures.{PartEnsures}
use Rattle.standard.proofs.Grid.{columns_least}
use Rattle.standard.proofs.Numbers.{first_not_clear}
use Rattle.standard.proofs.Rasters.{down, column_lt, row_lt, place_of}
use Rattle.standard.proofs.Three.{plane_long}
use Rattle.standard.proofs.Granted.{MayCount}
use Rattle.standard.proofs.Finished.{rows_unique}
use Rattle.marks.specs.Marks.{Outside, SomeOutside, LeadingInside}
use Rattle.marks.proofs.Marks.{above_two, not_two, is_two, not_next, leading_few}

-- ---- in one pass

-- the component's own marks, and the first of them that are 2
module _ (s : State) (i : ℕ) (marks own : List ℕ) (long : length own ≡ ctu_count s.picture)
    (each : (k : ℕ) → k < ctu_count s.picture → get_or own k 0 ≡ mark_of s.picture marks i k) {k : ℕ} (f : LeadingInside 2 2 own k) where
  -- none of the first is above 2, so where none of the rest is, none is
  pub none_above : ¬ SomeOutside 0 2 (drop k own) → ¬ ((j : ℕ) × (j < ctu_count s.picture) × MarkAboveTwo (mark_of s.picture marks i j))
  none_above none a = before (not_next 0 2 own k none (a.0, omega (arith, a.1, long), inr (rw (each a.0 a.1) a.2)))
    where
      before : ¬ ((j : ℕ) × (j < k) × Outside 0 2 (get_or own j 0))
      before o = f.inside o.0 o.1 (inr (above_two o.2))

  -- the CTB rows that they fill are finished
  abbrev w : ℕ
  w = columns s.picture

  few_marks : k ≤ ctu_count s.picture
  few_marks = omega (arith, leading_few f, long)

  filled : (r c : ℕ) → r < k / w → c < w → mark_of s.picture marks i (r * w + c) ≡ 2
  filled r c l h =
      let next : r + 1 ≤ k / w = omega arith in
      let before : r * w + c < k = omega (arith, down r w, mul-le-mul_right w next, div-mul-le_self k w) in
      sym (each (r * w + c) (omega (arith, before, few_marks))) ∙ is_two (f.inside (r * w + c) before)

  cut : k < ctu_count s.picture → Outside 2 2 (get_or own k 0)
      → (k / w < rows s.picture) × ((c : ℕ) × (c < w) × (¬ (mark_of s.picture marks i (k / w * w + c) ≡ 2)))
  cut l o = (
    row_lt w (rows s.picture) k l,
    (k % w, column_lt w (rows s.picture) k l, λ e. not_two o (each k l ∙ ap (mark_of s.picture marks i) (sym (place_of w k)) ∙ e)),
  )

  pub finished : {m : ℕ} → Rules s.picture → m ≡ min (k / w * ctb_height s.picture i) (plane_height s.picture i) → FinishedRows s i marks m
  finished rules e = record {
    row = k / w;
    whole = filled;
    ends =
        ⊎_elim (λ q. inl (ap (λ (a : ℕ). a / w) (q ∙ long) ∙ mul-div_cancel_left (rows s.picture) (columns_least rules))) (λ u. inr (cut (omega (arith, u.0, long)) u.1))
        f.ends;
    number = e;
  }

-- of the state they read the picture alone
pub of_picture : {s t : State} {i n : ℕ} {marks : List ℕ} → s.picture ≡ t.picture → FinishedRows s i marks n → FinishedRows t i marks n
of_picture {s} {t} {i} {n} {marks} e f = subst (λ (p : Picture). FinishedRows (record { picture = p; next = t.next }) i marks n) e (record { row = f.row; whole = f.whole; ends = f.ends; number = f.number })

-- ---- the part

pub few : {s : State} {i n : ℕ} {marks : List ℕ} → FinishedRows s i marks n → n ≤ plane_height s.picture i
few f = rw f.number (min-le_right _ _)

module _ (s : State) (i : ℕ) (filtered : Planes) (marks : List ℕ) where
  pub part : {n : ℕ} {l : List ℕ} → Clear (rows_reasons s i filtered marks) → FinishedRows s i marks n
      → l ≡ leading s i n (plane_of filtered i) → PartEnsures s i filtered marks l
  part c f e = record {
    finished = λ d m g. e ∙ ap (λ (a : ℕ). leading s i a (plane_of filtered i)) (rows_unique f g);
    refused = λ m r. absurd (first_not_clear (rows_reasons s i filtered marks) m r c);
  }

  pub empty : (m : ℕ) → First (rows_reasons s i filtered marks) m → PartEnsures s i filtered marks []
  empty m r = record { finished = λ c n f. absurd (first_not_clear (rows_reasons s i filtered marks) m r c); refused = λ n q. refl }

-- the part has as many samples as its rows say
pub leading_long : {s : State} {i n : ℕ} {filtered : Planes} {marks : List ℕ} → MayCount s i filtered marks → FinishedRows s i marks n
    → n * plane_width s.picture i ≡ length (leading s i n (plane_of filtered i))
leading_long {s} {i} {n} {filtered} ok f =
    let w = plane_width s.picture i in
    let h = plane_height s.picture i in
    let long = plane_long i ok.filtered_fits ok.countable.component in
    sym (length-take-le (n * w) (plane_of filtered i) (omega (arith, long, mul_comm w h, mul-le-mul_right w (few f))))
