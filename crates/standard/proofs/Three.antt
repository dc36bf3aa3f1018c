-- A picture has three components at most: a plane that fits is as large as its component, and one plane of three is written.
use mathlib.Core.Bool.{Bool, true, false, cond}
use mathlib.Core.List.{List}
use mathlib.Core.Path.{◌≡◌, refl, sym, ap, ◌∙◌, subst}
use Prim.Native.Nat.{ℕ, zero, suc, ◌*◌, ◌≤◌, ◌<◌}
use native.Mathlib.Omega.{arith}
use borrow.Author.Tests.{lt-ltb}
use lib.Dec.{eqb}
use lib.ListN.{length}
use Rattle.standard.specs.declared.Picture.{Picture}
use Rattle.standard.specs.Picture.{components, plane_width, plane_height, samples_of, rectangle}
use Rattle.standard.specs.Reasons.{Planes, plane_of, PlanesFit}
use Rattle.standard.specs.Calls.{Written, BlockWritten}

pub components_most : (p : Picture) → components p ≤ 3
components_most p = of (eqb p.format 0)
  where
    of : (t : Bool) → cond t 1 3 ≤ 3
    of true = omega arith
    of false = omega arith

-- the third arm of a match on the component
pub only_two : (p : Picture) {i : ℕ} → i < components p → ¬ (i ≡ 0) → ¬ (i ≡ 1) → i ≡ 2
only_two p l a b = omega (arith, components_most p)

-- ---- sizes

samples_of_lem : (p : Picture) {i : ℕ} → i < components p → samples_of p i ≡ plane_width p i * plane_height p i
samples_of_lem p {i} l = ap (λ (t : Bool). cond t (plane_width p i * plane_height p i) 0) (lt-ltb i (components p) l)

pub plane_long : {p : Picture} {planes : Planes} (i : ℕ) → PlanesFit p planes → i < components p → length (plane_of planes i) ≡ plane_width p i * plane_height p i
plane_long {p} zero f l = f.y ∙ samples_of_lem p l
plane_long {p} (suc zero) f l = f.cb ∙ samples_of_lem p l
plane_long {p} (suc (suc zero)) f l = f.cr ∙ samples_of_lem p l
plane_long {p} (suc (suc (suc i))) f l = absurd (omega (arith, components_most p))

-- ---- one plane written

-- the planes with another in the place of plane i
abbrev pub put : Planes → ℕ → List ℕ → Planes
put l zero a = record { y = a; cb = l.cb; cr = l.cr }
put l (suc zero) a = record { y = l.y; cb = a; cr = l.cr }
put l (suc (suc i)) a = record { y = l.y; cb = l.cb; cr = a }

put_own : (l : Planes) (i : ℕ) (a : List ℕ) → i < 3 → plane_of (put l i a) i ≡ a
put_own l zero a h = refl
put_own l (suc zero) a h = refl
put_own l (suc (suc zero)) a h = refl
put_own l (suc (suc (suc i))) a h = absurd (omega arith)

put_other : (l : Planes) (i j : ℕ) (a : List ℕ) → i < 3 → ¬ (j ≡ i) → plane_of (put l i a) j ≡ plane_of l j
put_other l zero zero a h n = absurd (n refl)
put_other l zero (suc zero) a h n = refl
put_other l zero (suc (suc zero)) a h n = refl
put_other l (suc zero) zero a h n = refl
put_other l (suc zero) (suc zero) a h n = absurd (n refl)
put_other l (suc zero) (suc (suc zero)) a h n = refl
put_other l (suc (suc i)) zero a h n = refl
put_other l (suc (suc i)) (suc zero) a h n = refl
put_other l (suc (suc zero)) (suc (suc zero)) a h n = absurd (n refl)
put_other l (suc (suc (suc i))) (suc (suc zero)) a h n = absurd (omega arith)
put_other l i (suc (suc (suc j))) a h n = refl

-- plane j is component i's
pub block_written : {p : Picture} {i k : ℕ} {f : ℕ → ℕ → ℕ} {a : List ℕ} (l : Planes) (j : ℕ) → i ≡ j → j < 3
    → Written (plane_width p i) (plane_height p i) (rectangle p i k) f (plane_of l j) a → BlockWritten p i k f l (put l j a)
block_written {p} {i} {k} {f} {a} l j e h w = record { own = own; others = λ n d. put_other l j n a h (λ q. d (q ∙ sym e)) }
  where
    As : List ℕ → List ℕ → Type 0
    As before after = Written (plane_width p i) (plane_height p i) (rectangle p i k) f before after

    at_j : As (plane_of l j) (plane_of (put l j a) j)
    at_j = subst (As (plane_of l j)) (sym (put_own l j a h)) w

    own : As (plane_of l i) (plane_of (put l j a) i)
    own = subst (λ (n : ℕ). As (plane_of l n) (plane_of (put l j a) n)) (sym e) at_j
