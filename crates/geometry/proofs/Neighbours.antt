-- The rectangle of CTBs around CTB k has exactly those that are adjacent to it, lies in the grid and is not empty;
-- and a neighbour's number fixes the answer that names it.
use Rattle.std.specs.Prelude.{Option}
use mathlib.Core.Path.{◌≡◌, sym, ◌∙◌}
use Prim.Native.Nat.{ℕ, ◌*◌, ◌/◌, ◌%◌, ◌<◌}
use native.Mathlib.Nat.{mul_comm, div-lt_iff_lt-mul}
use native.Mathlib.Omega.{arith}
use Rattle.standard.specs.declared.Picture.{Picture}
use Rattle.standard.specs.Picture.{Rules, columns, rows, ctu_count, Inside, Adjacent}
use Rattle.standard.proofs.Grid.{Ends, columns_least}
use Rattle.standard.proofs.Rasters.{column_lt, row_lt}
use Rattle.geometry.specs.Geometry.{around}

module _ {p : Picture} (rules : Rules p) (k : ℕ) where
  pub adjacent_inside : {j : ℕ} → Adjacent p k j → Inside (around p k) (j % columns p) (j / columns p)
  unfolding around
  adjacent_inside {j} a =
      let c : j % columns p < columns p = column_lt (columns p) (rows p) j a.there in
      let r : j / columns p < rows p = row_lt (columns p) (rows p) j a.there in
      ((omega arith, omega arith), (omega arith, omega arith))

  pub inside_adjacent : (j : ℕ) → Inside (around p k) (j % columns p) (j / columns p) → Adjacent p k j
  unfolding around
  inside_adjacent j h =
      let r : j / columns p < rows p = omega arith in
      let l : j < rows p * columns p = (div-lt_iff_lt-mul (columns_least rules)).0 r in
      record { there = rw (mul_comm (columns p) (rows p)) l; left = omega arith; right = omega arith; above = omega arith; below = omega arith }

  pub around_ends : k < ctu_count p → Ends (columns p) (rows p) (around p k)
  unfolding around
  around_ends l =
      let c : k % columns p < columns p = column_lt (columns p) (rows p) k l in
      let r : k / columns p < rows p = row_lt (columns p) (rows p) k l in
      record {
        some_columns = omega arith;
        right = omega arith;
        wide = omega arith;
        some_rows = omega arith;
        bottom = omega arith;
        high = omega arith;
      }

pub one_near : {a b n : Option ℕ} → a ≡ n → b ≡ n → a ≡ b
one_near e f = e ∙ sym f
