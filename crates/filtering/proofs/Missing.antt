-- When the set of CTU k is missing: only here is the order of reading looked into.
use mathlib.Core.Path.{refl}
use Prim.Native.Nat.{ℕ, ◌≤◌}
use lib.Dec.{leb}
use native.Mathlib.Decide.{dec_le}
use native.Mathlib.Omega.{arith}
use Rattle.standard.specs.declared.State.{State}
use Rattle.standard.specs.Picture.{address}
use Rattle.standard.specs.Refusals.{Tells}
use Rattle.standard.specs.Reasons.{SetIsMissing}
use Rattle.standard.proofs.Answers.{tell_same, tell_le}

module _ (s : State) (k : ℕ) where
  not_reached : s.next ≤ k → SetIsMissing s k
  unfolding address
  not_reached h n l e = omega arith

  missing : SetIsMissing s k → s.next ≤ k
  unfolding address
  missing h = of (dec_le s.next k)
    where
      of : Dec (s.next ≤ k) → s.next ≤ k
      of (yes l) = l
      of (no l) = absurd (h k (omega arith) refl)

  pub tells_missing : Tells (SetIsMissing s k) (leb s.next k)
  tells_missing = tell_same (leb s.next k) not_reached missing (tell_le s.next k)
