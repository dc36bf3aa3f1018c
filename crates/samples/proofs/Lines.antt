-- One row of a rectangle: what a row function makes of the row's part of the plane.
use mathlib.Core.Path.{◌≡◌}
use mathlib.Core.List.{List}
use Prim.Native.Nat.{ℕ, ◌+◌, ◌-◌, ◌*◌, ◌<◌}
use native.Mathlib.Omega.{arith}
use borrow.Rule.Slice.PartMut.{mid_of, put_mid}
use lib.ListN.{length, get_or}
use Rattle.standard.specs.declared.Layout.{Layout}
use Rattle.standard.specs.Samples.{at}
use Rattle.standard.specs.Calls.{Written}
use Rattle.planes.specs.Places.{row, Filled}
use Rattle.planes.proofs.Blocks.{part_get, part_written}
use Rattle.samples.specs.Blocks.{Lent}

module _ {l : Layout} {x0 x1 y i : ℕ} {plane out : List ℕ} (k : Lent l (row x0 x1 y) plane out) (some : x0 < x1) (place : i ≡ y * l.width + x0) where
  -- how many samples there are, as the machine has it
  abbrev pub many : ℕ
  many = i + (x1 - x0) - i

  pub line_get : (j : ℕ) → j < many → get_or (mid_of i many plane) j 0 ≡ at plane l.width (x0 + j) y
  line_get = part_get l.width l.height x0 x1 y i many some k.right (omega (arith, k.bottom)) place (omega arith) plane

  pub line_written : {f : ℕ → ℕ} {g : ℕ → ℕ → ℕ} {p : List ℕ} → Filled (length (mid_of i many out)) f (mid_of i many out) p
      → ((j : ℕ) → j < many → f j ≡ g (x0 + j) y) → Written l.width l.height (row x0 x1 y) g out (put_mid i many out p)
  line_written {p = p} = part_written l.width l.height x0 x1 y i many some k.right (omega (arith, k.bottom)) place (omega arith) out p k.filtered
