-- The order of reading: every CTU is read once, and a merge reaches a CTU that was read before and is adjacent.
use mathlib.Core.Path.{◌≡◌, refl, sym, ap, ◌∙◌}
use mathlib.Core.Bool.{Bool, true, false, cond}
use Rattle.std.specs.Prelude.{Option, Some as some, None as none}
use Prim.Native.Nat.{ℕ, ◌+◌, ◌-◌, ◌*◌, ◌/◌, ◌%◌, ◌≤◌, ◌<◌}
use native.Mathlib.Nat.{mod-lt, mod-le, add-mod_right, add-div_right}
use native.Mathlib.Omega.{arith}
use borrow.Author.Tests.{ltb-false, eqb-false}
use lib.Dec.{eqb, ltb}
use Rattle.standard.specs.declared.Picture.{Picture}
use Rattle.standard.specs.declared.State.{State}
use Rattle.standard.specs.Picture.{Rules, columns, ctu_count, Adjacent, address, left_of, above_of, merge_left, merge_up}
use Rattle.standard.proofs.Rasters.{column_of, row_of, place_of}
use Rattle.standard.proofs.Grid.{columns_least}

-- ---- which CTU is read when

module _ (p : Picture) where
  pub address_lt : {k : ℕ} → k < ctu_count p → address p k < ctu_count p
  unfolding address
  address_lt l = l

  pub address_once : {a b : ℕ} → a < ctu_count p → b < ctu_count p → address p a ≡ address p b → a ≡ b
  unfolding address
  address_once _ _ e = e

  pub address_all : {j : ℕ} → j < ctu_count p → (n : ℕ) × (n < ctu_count p) × (address p n ≡ j)
  unfolding address
  address_all {j} l = (j, l, refl)

-- ---- what a merge reaches

module _ (p : Picture) (k j : ℕ) where
  pub left_is : left_of p k ≡ some j → (0 < k % columns p) × (j + 1 ≡ k)
  unfolding left_of
  left_is h = go (eqb (k % columns p) 0) refl h
    where
      go : (t : Bool) → eqb (k % columns p) 0 ≡ t → cond t none (some (k - 1)) ≡ some j → (0 < k % columns p) × (j + 1 ≡ k)
      go true e f = let z : ◌≡◌ {A = ℕ} 0 1 = cc in absurd (omega arith)
      go false e f =
          let n = eqb-false (k % columns p) 0 e in
          let q : k - 1 ≡ j = cc in
          let l : k % columns p ≤ k = mod-le k (columns p) in
          (omega arith, omega arith)

  pub above_is : above_of p k ≡ some j → j + columns p ≡ k
  unfolding above_of
  above_is h = go (ltb k (columns p)) refl h
    where
      go : (t : Bool) → ltb k (columns p) ≡ t → cond t none (some (k - columns p)) ≡ some j → j + columns p ≡ k
      go true e f = let z : ◌≡◌ {A = ℕ} 0 1 = cc in absurd (omega arith)
      go false e f = let n = ltb-false k (columns p) e in let q : k - columns p ≡ j = cc in omega arith

-- one to the left in a row of c, and one up
left_place : (c k j : ℕ) → 0 < c → (0 < k % c) × (j + 1 ≡ k) → (j % c + 1 ≡ k % c) × (j / c ≡ k / c)
left_place c k j z h =
    let l : k % c < c = mod-lt k z in
    let m : k % c - 1 < c = omega arith in
    let e : j ≡ k / c * c + (k % c - 1) = omega (arith, place_of c k) in
    let a : j % c ≡ k % c - 1 = ap (λ (n : ℕ). n % c) e ∙ column_of (k / c) m in
    (omega arith, ap (λ (n : ℕ). n / c) e ∙ row_of (k / c) m)

above_place : (c k j : ℕ) → 0 < c → j + c ≡ k → (j % c ≡ k % c) × (j / c + 1 ≡ k / c)
above_place c k j z h = (sym (add-mod_right j c) ∙ ap (λ (n : ℕ). n % c) h, sym (add-div_right j z) ∙ ap (λ (n : ℕ). n / c) h)

-- a CTU that was read before, where there is one
abbrev pub Before : State → Option ℕ → Type 0
Before s near = (j : ℕ) → near ≡ some j → (n : ℕ) × (n < s.next) × (j ≡ address s.picture n)

module _ (s : State) (rules : Rules s.picture) where
  pub left_before : Before s (merge_left s)
  unfolding merge_left address
  left_before j h = (j, omega (arith, (left_is s.picture s.next j h).1), refl)

  pub up_before : Before s (merge_up s)
  unfolding merge_up address
  up_before j h = (j, omega (arith, above_is s.picture s.next j h, columns_least rules), refl)

module _ {p : Picture} (rules : Rules p) {k j : ℕ} (there : k < ctu_count p) where
  pub left_adjacent : left_of p k ≡ some j → Adjacent p k j
  left_adjacent h =
      let i = left_is p k j h in
      let e = left_place (columns p) k j (columns_least rules) i in
      record { there = omega arith; left = omega arith; right = omega arith; above = omega arith; below = omega arith }

  pub above_adjacent : above_of p k ≡ some j → Adjacent p k j
  above_adjacent h =
      let i = above_is p k j h in
      let e = above_place (columns p) k j (columns_least rules) i in
      record { there = omega arith; left = omega arith; right = omega arith; above = omega arith; below = omega arith }
