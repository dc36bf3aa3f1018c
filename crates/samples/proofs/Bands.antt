-- The rows between the first and the last are open alike.
use mathlib.Core.Path.{◌≡◌}
use Prim.Native.Nat.{ℕ, ◌+◌, ◌-◌, ◌<◌, max}
use native.Mathlib.Omega.{arith}
use Rattle.standard.specs.declared.Rectangle.{Rectangle}
use Rattle.standard.specs.Samples.{Step}
use Rattle.samples.specs.declared.Around.{Around}
use Rattle.samples.specs.Steps.{ByOne}
use Rattle.samples.specs.Around.{Alike}
use Rattle.samples.proofs.Sides.{open_rows}

pub alike_between : (o : Around) (r : Rectangle) (a b : Step) (u : ℕ) → u ≡ max (r.y0 + 1) (r.y1 - 1) → r.y0 < r.y1 → ByOne a → ByOne b → Alike o r a b (r.y0 + 1) u
alike_between o r a b u is some sa sb x y h k = open_rows o r a b sa sb x y (r.y0 + 1) (omega arith) (omega arith) (omega arith) (omega arith)
