-- One block of one component: where its mark is set or its samples are written, all is as set or written there, and as before elsewhere.
use mathlib.Core.Path.{◌≡◌, sym, ap, ◌∙◌, subst}
use mathlib.Core.List.{List}
use Prim.Native.Nat.{ℕ, ◌<◌}
use native.Mathlib.Nat.{mul_comm}
use native.Mathlib.Decide.{ℕ_discrete}
use lib.ListN.{length, set}
use lib.Seq.{get_or-set_same, get_or-set_other}
use Rattle.standard.specs.declared.Picture.{Picture}
use Rattle.standard.specs.Picture.{Rules, components, plane_width, ctu_count, Inside, rectangle}
use Rattle.standard.specs.Samples.{at}
use Rattle.standard.specs.Reasons.{Planes, plane_of, PlanesFit, MarksFit, mark_place, mark_of}
use Rattle.standard.specs.Calls.{BlockWritten}
use Rattle.standard.proofs.Rasters.{index_lt, same_place}
use Rattle.standard.proofs.Grid.{inside_ctb}

-- block k of component i is not block l of component j
abbrev pub Other : ℕ → ℕ → ℕ → ℕ → Type 0
Other i k j l = ¬ ((i ≡ j) × (k ≡ l))

-- what holds of block k of component i, and of every other block, holds of all
pub here_or_there : (P : ℕ → ℕ → Type 0) (i k j l : ℕ) → P i k → (Other i k j l → P j l) → P j l
here_or_there P i k j l here there = go (ℕ_discrete i j) (ℕ_discrete k l)
  where
    go : Dec (i ≡ j) → Dec (k ≡ l) → P j l
    go (yes e) (yes f) = subst (λ (n : ℕ). P n l) e (subst (P i) f here)
    go (yes e) (no n) = there (λ t. n t.1)
    go (no n) d = there (λ t. n t.0)

-- ---- a mark set

module _ (p : Picture) (marks : List ℕ) {i k : ℕ} (kl : k < ctu_count p) (n : ℕ) where
  pub marked_here : MarksFit p marks → i < components p → mark_of p (set marks (mark_place p i k) n) i k ≡ n
  marked_here fits il =
      get_or-set_same marks (mark_place p i k) n 0
      (subst (λ (m : ℕ). mark_place p i k < m) (mul_comm (ctu_count p) (components p) ∙ sym fits) (index_lt kl il))

  pub marked_there : (j : ℕ) {l : ℕ} → l < ctu_count p → Other i k j l → mark_of p (set marks (mark_place p i k) n) j l ≡ mark_of p marks j l
  marked_there j {l} ll other =
      get_or-set_other marks (mark_place p i k) (mark_place p j l) n 0
      (λ e. let t = same_place j i ll kl e in other (sym t.1, sym t.0))

-- ---- a block written

module _ {p : Picture} (rules : Rules p) {i k : ℕ} {f : ℕ → ℕ → ℕ} {before after : Planes} (b : BlockWritten p i k f before after) where
  pub written_here : {x y : ℕ} → Inside (rectangle p i k) x y → at (plane_of after i) (plane_width p i) x y ≡ f x y
  written_here {x} {y} h = let e = inside_ctb rules i k h in b.own.inside x y e.0 e.1 h

  -- a sample lies in one CTB
  apart : {l x y : ℕ} → ¬ (k ≡ l) → Inside (rectangle p i l) x y → ¬ Inside (rectangle p i k) x y
  apart {l} n h g = n (sym (inside_ctb rules i k g).2 ∙ (inside_ctb rules i l h).2)

  pub written_there : (j l : ℕ) {x y : ℕ} → Other i k j l → Inside (rectangle p j l) x y
      → at (plane_of after j) (plane_width p j) x y ≡ at (plane_of before j) (plane_width p j) x y
  written_there j l {x} {y} other h = go (ℕ_discrete i j)
    where
      here : ¬ (k ≡ l) → Inside (rectangle p i l) x y → at (plane_of after i) (plane_width p i) x y ≡ at (plane_of before i) (plane_width p i) x y
      here n g = let e = inside_ctb rules i l g in b.own.outside x y e.0 e.1 (apart n g)

      go : Dec (i ≡ j) → at (plane_of after j) (plane_width p j) x y ≡ at (plane_of before j) (plane_width p j) x y
      go (yes e) =
          subst
          (λ (m : ℕ). Inside (rectangle p m l) x y → at (plane_of after m) (plane_width p m) x y ≡ at (plane_of before m) (plane_width p m) x y)
          e (here (λ f. other (e, f))) h
      go (no n) = ap (λ (a : List ℕ). at a (plane_width p j) x y) (b.others j (λ e. n (sym e)))

  same_length : (j : ℕ) → length (plane_of after j) ≡ length (plane_of before j)
  same_length j = go (ℕ_discrete i j)
    where
      go : Dec (i ≡ j) → length (plane_of after j) ≡ length (plane_of before j)
      go (yes e) = subst (λ (m : ℕ). length (plane_of after m) ≡ length (plane_of before m)) e b.own.long
      go (no n) = ap length (b.others j (λ e. n (sym e)))

  pub written_fits : PlanesFit p before → PlanesFit p after
  written_fits fits = record { y = same_length 0 ∙ fits.y; cb = same_length 1 ∙ fits.cb; cr = same_length 2 ∙ fits.cr }
