-- Neighbours in the picture: where a step leads from each sample of a row, and that a part of the plane holds the samples there.
use mathlib.Core.Path.{◌≡◌, refl, sym, ap, ◌∙◌, subst}
use mathlib.Core.Bool.{true}
use mathlib.Core.List.{List}
use Rattle.std.specs.Prelude.{Some as some}
use Prim.Native.Nat.{ℕ, ◌+◌, ◌-◌, ◌*◌, ◌≤◌, ◌<◌}
use native.Mathlib.Omega.{arith}
use borrow.Rule.Slice.PartMut.{mid_of}
use lib.IntN.{ℤ, pos, negsuc, nat_abs, ◌+ℤ◌, +ℤ_assoc, +ℤ_comm}
use lib.ListN.{length, get_or}
use Rattle.standard.specs.declared.Layout.{Layout}
use Rattle.standard.specs.Sets.{NotNegative}
use Rattle.standard.specs.Samples.{Step, at, in_picture}
use Rattle.standard.proofs.Counting.{Place, in_place}
use Rattle.planes.specs.Places.{row}
use Rattle.planes.proofs.Blocks.{part_get, part_fits}
use Rattle.samples.specs.Steps.{Reach}
use Rattle.samples.specs.Blocks.{beside}

-- a place has no coordinate below 0
pub place_across : {w h : ℕ} {u v : ℤ} → Place w h u v → NotNegative u
place_across p = subst NotNegative (sym p.2.0) tt

pub place_down : {w h : ℕ} {u v : ℤ} → Place w h u v → NotNegative v
place_down p = subst NotNegative (sym p.2.1) tt

back : (z : ℤ) → NotNegative z → pos (nat_abs z) ≡ z
back (pos n) t = refl
back (negsuc n) t = absurd t

-- j further on, the step leads j further on
further : (a j : ℕ) (d : ℤ) → NotNegative (pos a +ℤ d) → pos (a + j) +ℤ d ≡ pos (nat_abs (pos a +ℤ d) + j)
further a j d t =
    +ℤ_assoc (pos a) (pos j) d ∙ ap (λ (z : ℤ). pos a +ℤ z) (+ℤ_comm (pos j) d) ∙ sym (+ℤ_assoc (pos a) d (pos j))
    ∙ ap (λ (z : ℤ). z +ℤ pos j) (sym (back (pos a +ℤ d) t))

-- of a row from column x0 on
module _ (l : Layout) (step : Step) (x0 x1 y : ℕ) (some_columns : x0 < x1) (reach : Reach l step (row x0 x1 y)) where
  abbrev pub column : ℕ
  column = nat_abs (pos x0 +ℤ step.h)

  abbrev pub line : ℕ
  line = nat_abs (pos y +ℤ step.v)

  pub start_in : in_picture l.width l.height (pos x0 +ℤ step.h) (pos y +ℤ step.v) ≡ true
  start_in = reach x0 y ((omega arith, some_columns), (omega arith, omega arith))

  start_place : Place l.width l.height (pos x0 +ℤ step.h) (pos y +ℤ step.v)
  start_place = in_place l.width l.height _ _ start_in

  pub row_in : line < l.height
  row_in = start_place.1

  column_at : (j : ℕ) → nat_abs (pos (x0 + j) +ℤ step.h) ≡ column + j
  column_at j = ap nat_abs (further x0 j step.h (place_across start_place))

  pub columns_in : column + (x1 - x0) ≤ l.width
  columns_in =
      let j = x1 - x0 - 1 in
      let p = in_place l.width l.height _ _ (reach (x0 + j) y ((omega arith, omega arith), (omega arith, omega arith))) in
      omega (arith, p.0, column_at j)

  -- sample j of the part that starts there
  pub part_neighbour : (plane : List ℕ) (i k : ℕ) → i ≡ line * l.width + column → k ≡ x1 - x0 → (j : ℕ) → j < k
      → some (get_or (mid_of i k plane) j 0) ≡ some (beside l plane (x0 + j) y step)
  part_neighbour plane i k ei ek j h =
      ap some
      (part_get l.width l.height column (column + (x1 - x0)) line i k (omega arith) columns_in row_in ei (omega arith) plane j h
      ∙ ap (λ (n : ℕ). at plane l.width n line) (sym (column_at j)))

  pub part_inside : (plane : List ℕ) → length plane ≡ l.width * l.height → (i : ℕ) → i ≡ line * l.width + column → i + (x1 - x0) ≤ length plane
  part_inside plane e i ei =
      part_fits l.width l.height column (column + (x1 - x0)) line i (x1 - x0) (omega arith) columns_in row_in ei (omega arith) plane e
