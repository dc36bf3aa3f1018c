-- A mark of 0 is not that of a CTB that was delivered.
use mathlib.Core.Logic.{⊎_elim}
use mathlib.Core.Path.{◌≡◌}
use Prim.Native.Nat.{ℕ}
use native.Mathlib.Omega.{arith}
use Rattle.standard.specs.Reasons.{DeliveredBefore}

pub not_delivered : {m : ℕ} → m ≡ 0 → ¬ DeliveredBefore m
not_delivered e = ⊎_elim (λ f. omega arith) (λ f. omega arith)
