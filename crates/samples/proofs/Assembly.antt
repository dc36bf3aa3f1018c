-- How the parts of a block make the block, and what is lent of each.
use mathlib.Core.List.{List}
use Prim.Native.Nat.{ℕ, ◌≤◌}
use native.Mathlib.Omega.{arith}
use Rattle.standard.specs.Calls.{Written}
use Rattle.planes.specs.Places.{block}
use Rattle.planes.proofs.Blocks.{rows_then, columns_then}

module _ {w h : ℕ} {f : ℕ → ℕ → ℕ} {o o1 o2 o3 : List ℕ} where
  -- columns x0, a, b, x1, each not beyond the next
  pub beside_one_another : (x0 a b x1 y0 y1 : ℕ) → x0 ≤ a → a ≤ b → b ≤ x1
      → Written w h (block x0 a y0 y1) f o o1 → Written w h (block a b y0 y1) f o1 o2 → Written w h (block b x1 y0 y1) f o2 o3 → Written w h (block x0 x1 y0 y1) f o o3
  beside_one_another x0 a b x1 y0 y1 p q r u v w = columns_then x0 b x1 y0 y1 (omega arith) r (columns_then x0 a b y0 y1 p q u v) w

  -- rows y0, c, d, y1
  pub below_one_another : (x0 x1 y0 c d y1 : ℕ) → y0 ≤ c → c ≤ d → d ≤ y1
      → Written w h (block x0 x1 y0 c) f o o1 → Written w h (block x0 x1 c d) f o1 o2 → Written w h (block x0 x1 d y1) f o2 o3 → Written w h (block x0 x1 y0 y1) f o o3
  below_one_another x0 x1 y0 c d y1 p q r u v w = rows_then x0 x1 y0 d y1 (omega arith) r (rows_then x0 x1 y0 c d p q u v) w
