-- A count is one number, whatever its bound; and a component's divisors are not 0.
use mathlib.Core.Path.{◌≡◌, sym, ◌∙◌}
use mathlib.Core.Logic.{⊎_elim}
use Prim.Native.Nat.{ℕ, ◌<◌}
use native.Mathlib.Omega.{arith}
use Rattle.standard.specs.Picture.{divisors}
use Rattle.standard.proofs.Divisors.{across_is, down_is}
use Rattle.geometry.specs.Geometry.{Counted}

pub one_count : {n limit r s : ℕ} → Counted n limit r → Counted n limit s → r ≡ s
one_count a b = a.is ∙ sym b.is

-- in both directions
pub divide : (format i : ℕ) → (0 < (divisors format i).0) × (0 < (divisors format i).1)
divide format i =
    (⊎_elim (λ e. omega arith) (λ e. omega arith) (across_is format i), ⊎_elim (λ e. omega arith) (λ e. omega arith) (down_is format i))
