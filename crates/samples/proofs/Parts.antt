-- A side in three parts: its first, those between and its last, each joined to those between where it is like them.
use mathlib.Core.Path.{◌≡◌, refl, sym, ap, ◌∙◌}
use mathlib.Core.Bool.{Bool, true, false, not, beq}
use mathlib.Core.Logic.{◌⊎◌, inl, inr}
use Prim.Native.Nat.{ℕ, ◌+◌, ◌-◌, ◌≤◌, ◌<◌, min}
use native.Mathlib.Decide.{dec_lt}
use native.Mathlib.Omega.{arith}
use mir.Val.{bool_byte}
use Rattle.samples.specs.Around.{Parted}

-- n is 1 where two answers differ, and 0 where they do not
abbrev Differ : Bool → Bool → ℕ → Type 0
Differ p q n = ((p ≡ q) × (n ≡ 0)) ⊎ ((¬ (p ≡ q)) × (n ≡ 1))

differs : (p q : Bool) {n : ℕ} → n ≡ bool_byte (not (beq p q)) → Differ p q n
differs true true e = inl (refl, e)
differs true false e = inr (λ f. cc, e)
differs false true e = inr (λ f. cc, e)
differs false false e = inl (refl, e)

differ_small : {p q : Bool} {n : ℕ} → Differ p q n → n ≤ 1
differ_small (inl e) = omega arith
differ_small (inr e) = omega arith

-- where nothing is left out, they are alike
same_at_zero : {p q : Bool} {n : ℕ} → Differ p q n → n ≡ 0 → p ≡ q
same_at_zero (inl e) z = e.0
same_at_zero (inr e) z = absurd (omega arith)

module _ (f : ℕ → Bool) (a b : ℕ) (some : a < b) (alike : (x x' : ℕ) → a < x → x + 1 < b → a < x' → x' + 1 < b → f x ≡ f x')
    (p q t : Bool) (e n m : ℕ) (ee : e ≡ min (a + 1) (b - 1)) (pe : p ≡ f a) (qe : q ≡ f e) (te : t ≡ f (b - 1)) (ne : n ≡ bool_byte (not (beq p q))) (me : m ≡ bool_byte (not (beq t q))) where
  np : Differ p q n
  np = differs p q ne

  mt : Differ t q m
  mt = differs t q me

  order : Differ p q n → Differ t q m → a + n ≤ b - m
  order (inl g) (inl h) = omega arith
  order (inl g) (inr h) = omega arith
  order (inr g) (inl h) = omega arith
  order (inr g) (inr h) = go (dec_lt (a + 1) b)
    where
      go : Dec (a + 1 < b) → a + n ≤ b - m
      go (yes k) = omega arith
      go (no k) = let z : e ≡ a = omega arith in absurd (g.0 (pe ∙ ap f (sym z) ∙ sym qe))

  first : (x : ℕ) → a ≤ x → x < a + n → f x ≡ p
  first x h k = let z : x ≡ a = omega (arith, differ_small np) in ap f z ∙ sym pe

  last : (x : ℕ) → b - m ≤ x → x < b → f x ≡ t
  last x h k = let z : x ≡ b - 1 = omega (arith, differ_small mt) in ap f z ∙ sym te

  middle : (x : ℕ) → a + n ≤ x → x < b - m → f x ≡ q
  middle x h k = go (dec_lt a x) (dec_lt (x + 1) b)
    where
      go : Dec (a < x) → Dec (x + 1 < b) → f x ≡ q
      go (no i) j = let z : x ≡ a = omega arith in ap f z ∙ sym pe ∙ same_at_zero np (omega arith)
      go (yes i) (no j) = let z : x ≡ b - 1 = omega arith in ap f z ∙ sym te ∙ same_at_zero mt (omega arith)
      go (yes i) (yes j) = alike x e i j (omega arith) (omega arith) ∙ sym qe

  pub parted : Parted f a b (record { c = a + n; d = b - m; first = p; middle = q; last = t })
  parted = record { on = omega arith; order = order np mt; off = omega arith; first = first; middle = middle; last = last }
