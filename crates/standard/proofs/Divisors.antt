-- What a component's width and height are divided by is 1 or 2, and what follows of planes and CTBs: only here is `divisors` unfolded.
use mathlib.Core.Path.{◌≡◌, refl, sym, ap, ◌∙◌, subst}
use mathlib.Core.Bool.{Bool, true, false, cond}
use mathlib.Core.Logic.{◌⊎◌, inl, inr, ⊎_elim}
use Prim.Native.Nat.{ℕ, zero, suc, ◌*◌, ◌/◌, ◌%◌, ◌≤◌, ◌<◌}
use native.Mathlib.Nat.{mul-le-mul}
use native.Mathlib.Omega.{arith}
use borrow.Author.Tests.{ne_eqb}
use lib.Dec.{eqb}
use Rattle.standard.specs.declared.Picture.{Picture}
use Rattle.standard.specs.Picture.{Side, Rules, divisors, plane_width, plane_height, ctb_width, ctb_height}

-- ---- format by format

pub of_luma_lem : (format : ℕ) {i : ℕ} → i ≡ 0 → divisors format i ≡ (1, 1)
unfolding divisors
of_luma_lem format e = rw e

of_chroma : (format i : ℕ) → ¬ (i ≡ 0) → divisors format i ≡ cond (eqb format 1) (2, 2) (cond (eqb format 2) (2, 1) (1, 1))
unfolding divisors
of_chroma format zero n = absurd (n refl)
of_chroma format (suc i) n = refl

module _ (format i : ℕ) (chroma : ¬ (i ≡ 0)) where
  pub of_420 : format ≡ 1 → divisors format i ≡ (2, 2)
  of_420 e = ap (λ (f : ℕ). divisors f i) e ∙ of_chroma 1 i chroma

  pub of_422 : format ≡ 2 → divisors format i ≡ (2, 1)
  of_422 e = ap (λ (f : ℕ). divisors f i) e ∙ of_chroma 2 i chroma

  -- of 4:4:4, and of a format without chroma
  pub of_444 : ¬ (format ≡ 1) → ¬ (format ≡ 2) → divisors format i ≡ (1, 1)
  of_444 m n = simp (of_chroma format i chroma, ne_eqb _ _ m, ne_eqb _ _ n)

-- ---- over every format

-- what holds of the three pairs holds of every component in every format
of_each_lem : (P : ℕ × ℕ → Type 0) → P (1, 1) → P (2, 1) → P (2, 2) → (format i : ℕ) → P (divisors format i)
unfolding divisors
of_each_lem P whole wide half format zero = whole
of_each_lem P whole wide half format (suc i) = chroma (eqb format 1) (eqb format 2)
  where
    chroma : (one two : Bool) → P (cond one (2, 2) (cond two (2, 1) (1, 1)))
    chroma true two = half
    chroma false true = wide
    chroma false false = whole

pub across_is : (format i : ℕ) → ((divisors format i).0 ≡ 1) ⊎ ((divisors format i).0 ≡ 2)
across_is = of_each_lem (λ d. (d.0 ≡ 1) ⊎ (d.0 ≡ 2)) (inl refl) (inr refl) (inr refl)

pub down_is : (format i : ℕ) → ((divisors format i).1 ≡ 1) ⊎ ((divisors format i).1 ≡ 2)
down_is = of_each_lem (λ d. (d.1 ≡ 1) ⊎ (d.1 ≡ 2)) (inl refl) (inl refl) (inr refl)

-- side s of a plane, where the picture's is n and d divides it
pub record PlaneSide (d n s : ℕ) : Type 0 where
  pub divisor : 0 < d
  pub whole : d * s ≡ n
  pub four : s % 4 ≡ 0
  pub least : 4 ≤ s
  pub most : s ≤ 8192

-- side s of a CTB, where luma's is n
pub record CtbSide (d n s : ℕ) : Type 0 where
  pub divisor : 0 < d
  pub whole : d * s ≡ n
  pub least : 8 ≤ s
  pub most : s ≤ 64

one_or_two : (P : ℕ → Type 0) (d : ℕ) → (d ≡ 1) ⊎ (d ≡ 2) → P 1 → P 2 → P d
one_or_two P d h a b = ⊎_elim (λ e. subst P (sym e) a) (λ e. subst P (sym e) b) h

plane_side : (d n : ℕ) → (d ≡ 1) ⊎ (d ≡ 2) → Side n → PlaneSide d n (n / d)
plane_side d n h s =
    one_or_two (λ (m : ℕ). PlaneSide m n (n / m)) d h
    (record { divisor = omega arith; whole = omega arith; four = omega arith; least = omega arith; most = omega arith })
    (record { divisor = omega arith; whole = omega arith; four = omega arith; least = omega arith; most = omega arith })

-- all that is needed of a CTB's size
size_range : (n : ℕ) → (n ≡ 16) ⊎ ((n ≡ 32) ⊎ (n ≡ 64)) → (n % 16 ≡ 0) × (16 ≤ n) × (n ≤ 64)
size_range n s =
    ⊎_elim (λ e. (omega arith, omega arith, omega arith))
    (⊎_elim (λ e. (omega arith, omega arith, omega arith)) (λ e. (omega arith, omega arith, omega arith))) s

ctb_side : (d n : ℕ) → (d ≡ 1) ⊎ (d ≡ 2) → (n ≡ 16) ⊎ ((n ≡ 32) ⊎ (n ≡ 64)) → CtbSide d n (n / d)
ctb_side d n h s =
    let z = size_range n s in
    one_or_two (λ (m : ℕ). CtbSide m n (n / m)) d h
    (record { divisor = omega arith; whole = omega arith; least = omega arith; most = omega arith })
    (record { divisor = omega arith; whole = omega arith; least = omega arith; most = omega arith })

pub ctb_size : {p : Picture} → Rules p → (p.ctb % 16 ≡ 0) × (16 ≤ p.ctb) × (p.ctb ≤ 64)
ctb_size {p} rules = size_range p.ctb rules.size

module _ {p : Picture} (rules : Rules p) (i : ℕ) where
  pub plane_width_lem : PlaneSide (divisors p.format i).0 p.width (plane_width p i)
  plane_width_lem = plane_side (divisors p.format i).0 p.width (across_is p.format i) rules.width

  pub plane_height_lem : PlaneSide (divisors p.format i).1 p.height (plane_height p i)
  plane_height_lem = plane_side (divisors p.format i).1 p.height (down_is p.format i) rules.height

  pub ctb_width_lem : CtbSide (divisors p.format i).0 p.ctb (ctb_width p i)
  ctb_width_lem = ctb_side (divisors p.format i).0 p.ctb (across_is p.format i) rules.size

  pub ctb_height_lem : CtbSide (divisors p.format i).1 p.ctb (ctb_height p i)
  ctb_height_lem = ctb_side (divisors p.format i).1 p.ctb (down_is p.format i) rules.size

  pub area_most : plane_width p i * plane_height p i ≤ 67108864
  area_most = mul-le-mul plane_width_lem.most plane_height_lem.most
