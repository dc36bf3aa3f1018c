-- Marks scanned row after row are those of a rectangle in the grid of CTBs, and these the marks of the CTBs that are waited for.
use mathlib.Core.Bool.{Bool, true, false}
use mathlib.Core.List.{List}
use mathlib.Core.Logic.{◌⊎◌, inl, inr}
use mathlib.Core.Path.{◌≡◌, sym, ap, ◌∙◌, subst}
use Prim.Native.Nat.{ℕ, ◌+◌, ◌-◌, ◌*◌, ◌/◌, ◌%◌, ◌≤◌, ◌<◌}
use native.Mathlib.Omega.{arith}
use Rattle.std.proofs.Common.{length, get_or, take, drop, length-take, length-drop, get_or-take, get_or-drop, MatchBool}
use Rattle.std.specs.List.{HoldsAt, AllWithin, range_with_len}
use Rattle.std.proofs.lemmas.List.FromFn.{length-range_with_len, get_or-range_with_len}
use Rattle.standard.specs.declared.Picture.{Picture}
use Rattle.standard.specs.declared.State.{State}
use Rattle.standard.specs.declared.Rectangle.{Rectangle}
use Rattle.standard.specs.declared.Offsets.{Offsets}
use Rattle.standard.specs.Picture.{Rules, columns, rows, ctu_count, Inside}
use Rattle.standard.specs.Refusals.{Tells}
use Rattle.standard.specs.Samples.{Waits}
use Rattle.standard.specs.Table.{offsets_at}
use Rattle.standard.specs.Reasons.{mark_of, mark_place, SetIsMissing, SomeWaited, MarkAboveTwo, NotDelivered}
use Rattle.standard.proofs.Answers.{tell_same}
use Rattle.standard.proofs.Rasters.{column_of, row_of, place_of, index_lt}
use Rattle.standard.proofs.Grid.{columns_most, rows_most}
use Rattle.standard.proofs.Seeing.{waits_adjacent, adjacent_waits}
use Rattle.geometry.specs.Geometry.{around}
use Rattle.geometry.proofs.Marks.{mark_from}
use Rattle.geometry.proofs.Neighbours.{adjacent_inside, inside_adjacent, around_ends}
use Rattle.planes.specs.Places.{Placed}
use Rattle.marks.specs.Marks.{Outside, SomeOutside}
use Rattle.marks.proofs.Marks.{is_above, zero_mark}
use Rattle.filtering.specs.Filtering.{RowOutside, MarkOutside, WaitedOutside}

-- ---- a rectangle of marks

-- m marks from mark i on
part_mark : (marks : List ℕ) (i m j : ℕ) → j < m → get_or (take m (drop i marks)) j 0 ≡ get_or marks (i + j) 0
part_mark marks i m j l = get_or-take m (drop i marks) j 0 l ∙ get_or-drop i marks j 0

module _ (low high : ℕ) (marks : List ℕ) (w : ℕ) (r : Rectangle) (y : ℕ) where
  pub tells_row : (i m : ℕ) (b : Bool) → Tells (SomeOutside low high (take m (drop i marks))) b → i ≡ y * w + r.x0 → r.x0 + m ≡ r.x1 → i + m ≤ length marks
      → Tells (RowOutside low high marks w r y) b
  tells_row i m b t e f fits = tell_same b to from t
    where
      to : SomeOutside low high (take m (drop i marks)) → RowOutside low high marks w r y
      to s =
          let l : s.0 < m = omega (arith, s.1, length-take m (drop i marks), length-drop i marks) in
          let g : i + s.0 ≡ y * w + (r.x0 + s.0) = omega (arith, e) in
          (r.x0 + s.0, (omega arith, omega (arith, f)), subst (Outside low high) (part_mark marks i m s.0 l ∙ ap (λ (n : ℕ). get_or marks n 0) g) s.2)

      from : RowOutside low high marks w r y → SomeOutside low high (take m (drop i marks))
      from (x, h, o) =
          let j = x - r.x0 in
          let l : j < m = omega (arith, h.0, h.1, f) in
          let g : i + j ≡ y * w + x = omega (arith, e, h.0) in (
            j,
            omega (arith, length-take m (drop i marks), length-drop i marks, fits),
            subst (Outside low high) (sym (part_mark marks i m j l ∙ ap (λ (n : ℕ). get_or marks n 0) g)) o,
          )

-- of the numbers from a up to and without b, one has P or none has
module _ (a b : ℕ) where
  abbrev all : List ℕ
  all = range_with_len a (b - a)

  pub tells_some : (P : ℕ → Type 0) (t : Bool) → MatchBool t ((k : ℕ) × (k < length all) × HoldsAt P all k) (AllWithin (λ (y : ℕ). ¬ P y) all 0 (length all))
      → Tells ((y : ℕ) × ((a ≤ y) × (y < b)) × P y) t
  tells_some P true h =
      let l : h.0 < b - a = omega (arith, h.1, length-range_with_len a (b - a)) in
      (a + h.0, (omega arith, omega arith), subst P (get_or-range_with_len a (b - a) h.0 0 l) (h.2 0))
  tells_some P false h = λ (y, l, p).
      let k = y - a in
      let m : k < b - a = omega (arith, l.0, l.1) in
      let e : a + k ≡ y = omega (arith, l.0) in
      h k 0 (omega arith) (omega (arith, m, length-range_with_len a (b - a))) (subst P (sym (get_or-range_with_len a (b - a) k 0 m ∙ e)) p)

-- ---- the CTBs that are waited for

module _ {p : Picture} (rules : Rules p) (set : Offsets) {k : ℕ} (there : k < ctu_count p) where
  pub around_placed : Placed (columns p) (rows p) (around p k)
  around_placed =
      let e = around_ends rules k there in
      record {
        wide = omega (arith, columns_most rules);
        high = omega (arith, rows_most rules);
        columns = e.some_columns;
        right = e.right;
        rows = omega (arith, e.some_rows);
        bottom = e.bottom;
      }

  -- in the grid, and by number, of a list that has the component's marks
  module _ (i : ℕ) (marks : List ℕ) (low high : ℕ) where
    module _ (own : List ℕ) (each : (j : ℕ) → j < ctu_count p → get_or own j 0 ≡ mark_of p marks i j) where
      marks_waited : MarkOutside low high own (columns p) (around p k) → WaitedOutside p i set k marks low high
      marks_waited (x, y, h, o) =
          let e = around_ends rules k there in
          let l : x < columns p = omega (arith, h.0.1, e.right) in
          let b : y < rows p = omega (arith, h.1.1, e.bottom) in
          let c = column_of y l in
          let r = row_of y l in
          let j = y * columns p + x in (
            j,
            adjacent_waits p set k j (inside_adjacent rules k j (subst (λ (v : ℕ). Inside (around p k) (j % columns p) v) (sym r) (subst (λ (u : ℕ). Inside (around p k) u y) (sym c) h))),
            subst (Outside low high) (each j (index_lt l b)) o,
          )

      waited_marks : WaitedOutside p i set k marks low high → MarkOutside low high own (columns p) (around p k)
      waited_marks (j, a, o) =
          let n = waits_adjacent p set k j a in (
            j % columns p,
            j / columns p,
            adjacent_inside rules k n,
            subst (Outside low high) (sym (each j n.there) ∙ ap (λ (m : ℕ). get_or own m 0) (sym (place_of (columns p) j))) o,
          )

    pub tells_waited : (from m w : ℕ) (r : Rectangle) (b : Bool) → Tells (MarkOutside low high (take m (drop from marks)) w r) b → from ≡ mark_place p i 0 → m ≡ ctu_count p → w ≡ columns p → r ≡ around p k
        → Tells (WaitedOutside p i set k marks low high) b
    tells_waited from m w r b t e f g h =
        let own = take m (drop from marks) in
        let each : (j : ℕ) → j < ctu_count p → get_or own j 0 ≡ mark_of p marks i j =
        λ j l. part_mark marks from m j (omega (arith, f)) ∙ ap (λ (n : ℕ). get_or marks n 0) (ap (λ (n : ℕ). n + j) e ∙ mark_from p i j) in
        tell_same b (marks_waited own each) (waited_marks own each) (rw (← g, ← h) t)

-- ---- by the set that the table says

module _ (s : State) (i k : ℕ) (marks table : List ℕ) {set : Offsets} (is : set ≡ offsets_at table i k) where
  abbrev waited : ℕ → ℕ → Type 0
  waited low high = WaitedOutside s.picture i set k marks low high

  module _ (n : ¬ waited 0 2) where
    pub none_above : ¬ SomeWaited s i k marks table MarkAboveTwo
    none_above (j, a, l) = n (j, subst (λ (set : Offsets). Waits s.picture set k j) (sym is) a, is_above l)

    -- no mark waited for is above 2, so one outside 1 to 2 is then 0
    pub not_in : SetIsMissing s k ⊎ waited 1 2 → SetIsMissing s k ⊎ SomeWaited s i k marks table NotDelivered
    not_in (inl m) = inl m
    not_in (inr (j, a, o)) = inr (j, subst (λ (set : Offsets). Waits s.picture set k j) is a, zero_mark o (λ l. n (j, a, is_above l)))
