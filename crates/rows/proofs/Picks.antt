-- Of four offsets, that of an index: each of them where a number says so and 0 elsewhere, summed up at 16 bits.
use mathlib.Core.Path.{◌≡◌, refl, sym, ap, ap₂, ◌∙◌, subst}
use mathlib.Core.Bool.{cond}
use mathlib.Core.Logic.{◌⊎◌, inl, inr}
use Prim.Native.Nat.{ℕ, zero, suc, ◌+◌, ◌-◌, ◌/◌, ◌^◌, ◌≤◌, ◌<◌}
use native.Mathlib.Nat.{div-lt_iff_lt-mul}
use native.Mathlib.Omega.{arith}
use borrow.Author.Tests.{le-ltb}
use lib.Dec.{T, ltb, lit<}
use lib.Pow.{pow_mono}
use lib.IntN.{ℤ, pos, negsuc, ◌+ℤ◌, +ℤ_idl, +ℤ_idr}
use lib.Signed.{mag, non_neg}
use mir.Syntax.{w16}
use mir.Val.{SFits}
use mir.Facts.{to_z-of_z}
use Rattle.standard.specs.Samples.{edge_idx}
use Rattle.standard.proofs.Tables.{category, category_is_edge_idx}
use Rattle.standard.specs.declared.Four.{Four}
use Rattle.rows.specs.Moves.{value_of}
use Rattle.rows.specs.Sample.{Only, Within}
use Rattle.rows.proofs.Widths.{back}

-- one of two is v, and the other 0
abbrev Two : ℤ → ℤ → ℤ → Type 0
Two v x y = ((x ≡ v) × (y ≡ pos 0)) ⊎ ((x ≡ pos 0) × (y ≡ v))

two_sum : {v x y : ℤ} → SFits w16 v → Two v x y → back x +ℤ back y ≡ v
two_sum {v} f (inl (p, q)) = ap₂ (λ (a b : ℤ). back a +ℤ back b) p q ∙ ap (λ (z : ℤ). z +ℤ pos 0) (to_z-of_z f) ∙ +ℤ_idr v
two_sum {v} f (inr (p, q)) = ap₂ (λ (a b : ℤ). back a +ℤ back b) p q ∙ ap (λ (z : ℤ). pos 0 +ℤ z) (to_z-of_z f) ∙ +ℤ_idl v

two_as : {v x y z : ℤ} → z ≡ x → Two v x y → Two v z y
two_as e (inl (p, q)) = inl (e ∙ p, q)
two_as e (inr (p, q)) = inr (e ∙ p, q)

-- one of four is v, and the others 0: u and t are the sums of two and of three
pub record Sole (v a b c d : ℤ) : Type 0 where
  u : ℤ
  t : ℤ
  u_fits : SFits w16 u
  t_fits : SFits w16 t
  v_fits : SFits w16 v
  two : Two u a b
  three : Two t u c
  four : Two v t d

zero_fits : SFits w16 (pos 0)
zero_fits = record { sfits = lit< tt }

module _ {v a b c d : ℤ} (f : SFits w16 v) where
  first : a ≡ v → b ≡ pos 0 → c ≡ pos 0 → d ≡ pos 0 → Sole v a b c d
  first p q r s = record { u = v; t = v; u_fits = f; t_fits = f; v_fits = f; two = inl (p, q); three = inl (refl, r); four = inl (refl, s) }

  second : a ≡ pos 0 → b ≡ v → c ≡ pos 0 → d ≡ pos 0 → Sole v a b c d
  second p q r s = record { u = v; t = v; u_fits = f; t_fits = f; v_fits = f; two = inr (p, q); three = inl (refl, r); four = inl (refl, s) }

  third : a ≡ pos 0 → b ≡ pos 0 → c ≡ v → d ≡ pos 0 → Sole v a b c d
  third p q r s = record { u = pos 0; t = v; u_fits = zero_fits; t_fits = f; v_fits = f; two = inl (p, q); three = inr (refl, r); four = inl (refl, s) }

  fourth : a ≡ pos 0 → b ≡ pos 0 → c ≡ pos 0 → d ≡ v → Sole v a b c d
  fourth p q r s = record { u = pos 0; t = pos 0; u_fits = zero_fits; t_fits = zero_fits; v_fits = f; two = inl (p, q); three = inl (refl, r); four = inr (refl, s) }

none : {a b c d : ℤ} → a ≡ pos 0 → b ≡ pos 0 → c ≡ pos 0 → d ≡ pos 0 → Sole (pos 0) a b c d
none = first zero_fits

-- the sums as the machine has them
module _ {v a b c d : ℤ} (s : Sole v a b c d) where
  sum2 : back a +ℤ back b ≡ s.u
  sum2 = two_sum s.u_fits s.two

  sum3 : back (back a +ℤ back b) +ℤ back c ≡ s.t
  sum3 = two_sum s.t_fits (two_as sum2 s.three)

  pub fits3 : SFits w16 (back (back a +ℤ back b) +ℤ back c)
  fits3 = subst (λ (z : ℤ). SFits w16 z) (sym sum3) s.t_fits

  sum4 : back (back (back a +ℤ back b) +ℤ back c) +ℤ back d ≡ v
  sum4 = two_sum s.v_fits (two_as sum3 s.four)

  pub fits4 : SFits w16 (back (back (back a +ℤ back b) +ℤ back c) +ℤ back d)
  fits4 = subst (λ (z : ℤ). SFits w16 z) (sym sum4) s.v_fits

  pub sole_is : back (back (back (back a +ℤ back b) +ℤ back c) +ℤ back d) ≡ v
  sole_is = to_z-of_z fits4 ∙ sum4

-- an offset that is a struct's field is handed on as the machine reads it, and so is a number that is signed
pub only_back : {n k o r : ℤ} → SFits w16 n → SFits w16 o → Only (back n) k (back o) r → Only n k o r
only_back h f p = record { same = λ e. p.same (to_z-of_z h ∙ e) ∙ to_z-of_z f; other = λ g. p.other (λ e. g (sym (to_z-of_z h) ∙ e)) }

pub within_back : {k from to : ℕ} {o r : ℤ} → SFits w16 o → Within k from to (back o) r → Within k from to o r
within_back f p = record { below = p.below; inside = λ g h. p.inside g h ∙ to_z-of_z f; above = p.above }

-- ---- the sum of two signs says so for an edge sample, and the place for a band sample

mag_differ : {x y : ℤ} → (mag x ≡ mag y → ⊥) → x ≡ y → ⊥
mag_differ f e = f (ap mag e)

sign_differ : {m k : ℕ} → pos m ≡ negsuc k → ⊥
sign_differ e = subst (λ (z : ℤ). T (non_neg z)) e tt

module _ (o : Four ℤ) {a b c d : ℤ} (f1 : SFits w16 o.o1) (f2 : SFits w16 o.o2) (f3 : SFits w16 o.o3) (f4 : SFits w16 o.o4) where
  category_sole : (n : ℤ) → Only n (negsuc 1) o.o1 a → Only n (negsuc 0) o.o2 b → Only n (pos 1) o.o3 c → Only n (pos 2) o.o4 d
      → Sole (value_of o (category n)) a b c d
  category_sole (pos zero) p q r s =
      none (p.other sign_differ) (q.other sign_differ) (r.other (mag_differ (λ e. omega arith))) (s.other (mag_differ (λ e. omega arith)))
  category_sole (pos (suc zero)) p q r s =
      third f3 (p.other sign_differ) (q.other sign_differ) (r.same refl) (s.other (mag_differ (λ e. omega arith)))
  category_sole (pos (suc (suc zero))) p q r s =
      fourth f4 (p.other sign_differ) (q.other sign_differ) (r.other (mag_differ (λ e. omega arith))) (s.same refl)
  category_sole (pos (suc (suc (suc n)))) p q r s =
      none (p.other sign_differ) (q.other sign_differ) (r.other (mag_differ (λ e. omega arith))) (s.other (mag_differ (λ e. omega arith)))
  category_sole (negsuc zero) p q r s =
      second f2 (p.other (mag_differ (λ e. omega arith))) (q.same refl) (r.other (λ e. sign_differ (sym e))) (s.other (λ e. sign_differ (sym e)))
  category_sole (negsuc (suc zero)) p q r s =
      first f1 (p.same refl) (q.other (mag_differ (λ e. omega arith))) (r.other (λ e. sign_differ (sym e))) (s.other (λ e. sign_differ (sym e)))
  category_sole (negsuc (suc (suc n))) p q r s =
      none (p.other (mag_differ (λ e. omega arith))) (q.other (mag_differ (λ e. omega arith))) (r.other (λ e. sign_differ (sym e))) (s.other (λ e. sign_differ (sym e)))

  pub edge_sole : (n : ℤ) → Only n (negsuc 1) o.o1 a → Only n (negsuc 0) o.o2 b → Only n (pos 1) o.o3 c → Only n (pos 2) o.o4 d
      → Sole (value_of o (edge_idx (pos 2 +ℤ n))) a b c d
  edge_sole n p q r s = subst (λ (k : ℕ). Sole (value_of o k) a b c d) (category_is_edge_idx n) (category_sole n p q r s)

  pub band_sole : (k : ℕ) → Within k 0 1 o.o1 a → Within k 1 2 o.o2 b → Within k 2 3 o.o3 c → Within k 3 4 o.o4 d
      → Sole (value_of o (cond (ltb k 4) (k + 1) 0)) a b c d
  band_sole zero p q r s = first f1 (p.inside (omega arith) (omega arith)) (q.below (omega arith)) (r.below (omega arith)) (s.below (omega arith))
  band_sole (suc zero) p q r s = second f2 (p.above (omega arith)) (q.inside (omega arith) (omega arith)) (r.below (omega arith)) (s.below (omega arith))
  band_sole (suc (suc zero)) p q r s = third f3 (p.above (omega arith)) (q.above (omega arith)) (r.inside (omega arith) (omega arith)) (s.below (omega arith))
  band_sole (suc (suc (suc zero))) p q r s = fourth f4 (p.above (omega arith)) (q.above (omega arith)) (r.above (omega arith)) (s.inside (omega arith) (omega arith))
  band_sole (suc (suc (suc (suc k)))) p q r s =
      simp (le-ltb (suc (suc (suc (suc k)))) 4 (omega arith))
      (none (p.above (omega arith)) (q.above (omega arith)) (r.above (omega arith)) (s.above (omega arith)))

-- a band is far below 16 bits, whatever the sample
pub band_small : (depth s : ℕ) → 8 ≤ depth → s ≤ 65535 → s / 2 ^ (depth - 5) < 8192
band_small depth s h k =
    let l : 3 ≤ depth - 5 = omega arith in
    let m : 2 ^ 3 ≤ 2 ^ (depth - 5) = pow_mono l in
    (div-lt_iff_lt-mul {k = 2 ^ (depth - 5)} {x = s} {y = 8192} (omega (arith, m))).1 (omega (arith, m))
