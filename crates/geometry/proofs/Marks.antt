-- Every CTB of every component has a mark of its own among the marks, and a component's marks stand side by side.
use mathlib.Core.Path.{◌≡◌}
use Prim.Native.Nat.{ℕ, ◌+◌, ◌≤◌, ◌<◌}
use native.Mathlib.Nat.{mul_comm, mul-le-mul_right}
use native.Mathlib.Omega.{arith}
use Rattle.standard.specs.declared.Picture.{Picture}
use Rattle.standard.specs.Picture.{components, ctu_count}
use Rattle.standard.specs.Reasons.{mark_count, mark_place}
use Rattle.standard.proofs.Rasters.{down, index_lt, same_place}

module _ (p : Picture) where
  pub mark_lt : {i k : ℕ} → i < components p → k < ctu_count p → mark_place p i k < mark_count p
  mark_lt a b = rw (mul_comm (components p) (ctu_count p)) (index_lt b a)

  pub marks_le : {i : ℕ} → i < components p → mark_place p i 0 + ctu_count p ≤ mark_count p
  marks_le {i} l = let m : i + 1 ≤ components p = omega arith in omega (arith, down i (ctu_count p), mul-le-mul_right (ctu_count p) m)

  pub mark_from : (i k : ℕ) → mark_place p i 0 + k ≡ mark_place p i k
  mark_from i k = omega arith

  pub one_mark : {k k' : ℕ} (i i' : ℕ) → k < ctu_count p → k' < ctu_count p
      → mark_place p i k ≡ mark_place p i' k' → (k ≡ k') × (i ≡ i')
  one_mark i i' a b e = same_place i i' a b e
