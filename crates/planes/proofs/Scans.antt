-- Samples ORed together: no one of them is above that.
use mathlib.Core.Path.{◌≡◌, refl, sym, ap₂, subst, ◌∙◌}
use mathlib.Core.List.{List, [], ◌∷◌, ◌++◌}
use lib.ListN.{length, get_or}
use Prim.Native.Nat.{ℕ, zero, suc, ◌+◌, ◌-◌, ◌≤◌, ◌<◌}
use native.Mathlib.Nat.{le_trans}
use native.Mathlib.Decide.{dec_lt}
use native.Mathlib.Numerals.{add-one}
use native.Mathlib.Omega.{arith}
use lib.Bits.{bit_or}
use Rattle.std.proofs.lemmas.Nat.{le_or_l, le_or_r}
use Rattle.std.proofs.lemmas.List.{length_push, get_or_push, get_or_append_left}
use Rattle.standard.specs.declared.Rectangle.{Rectangle}
use Rattle.standard.specs.Samples.{at}
use Rattle.planes.specs.Scans.{together, row_below, pair_together}

pub none_together : (f : ℕ → ℕ) → 0 ≡ together f 0
unfolding together
none_together f = refl

pub next_together : (f : ℕ → ℕ) (n m v s w : ℕ) → v ≡ together f n → s ≡ f n → m ≡ n + 1 → w ≡ bit_or v s → w ≡ together f m
unfolding together
next_together f n m v s w e g k h = rw (h, e, g, k, add-one) refl

pub together_as : (f g : ℕ → ℕ) (n : ℕ) → ((j : ℕ) → j < n → f j ≡ g j) → together f n ≡ together g n
unfolding together
together_as f g zero e = refl
together_as f g (suc n) e = ap₂ bit_or (together_as f g n (λ j h. e j (omega arith))) (e n (omega arith))

-- one sample more
pub more_together : (samples : List ℕ) (s v w : ℕ) → v ≡ together (λ j. get_or samples j 0) (length samples) → w ≡ bit_or v s
    → w ≡ together (λ j. get_or (samples ++ (s ∷ [])) j 0) (length (samples ++ (s ∷ [])))
more_together samples s v w e h =
    let n = length samples in
    let more = samples ++ (s ∷ []) in
    next_together (λ j. get_or more j 0) n (length more) v s w
    (e ∙ together_as (λ j. get_or samples j 0) (λ j. get_or more j 0) n (λ j l. sym (get_or_append_left samples (s ∷ []) 0 j l)))
    (sym (get_or_push samples s 0 n refl)) (length_push samples s) h

pub none_above : (f : ℕ → ℕ) (n j : ℕ) → j < n → f j ≤ together f n
unfolding together
none_above f zero j h = absurd (omega arith)
none_above f (suc n) j h = of (dec_lt j n) (λ q. none_above f n j q)
  where
    of : Dec (j < n) → (j < n → f j ≤ together f n) → f j ≤ bit_or (together f n) (f n)
    of (yes q) r = le_trans (r q) (le_or_l (together f n) (f n))
    of (no q) r = let e : j ≡ n = omega arith in rw e (le_or_r (together f n) (f n))

-- two rows that stay within the top together
pub pair_within : (plane : List ℕ) (w : ℕ) (r : Rectangle) (y v top : ℕ) → v ≡ pair_together plane w r y → v ≤ top
    → (x : ℕ) → x < r.x1 → r.x0 ≤ x → (at plane w x y ≤ top) × (at plane w x (row_below r y) ≤ top)
pair_within plane w r y v top e h x p q =
    let s : r.x0 + (x - r.x0) ≡ x = omega arith in
    let k : both (r.x0 + (x - r.x0)) ≤ top = omega (arith, none_above (λ j. both (r.x0 + j)) (r.x1 - r.x0) (x - r.x0) (omega arith)) in
    let m : both x ≤ top = subst (λ (u : ℕ). both u ≤ top) s k in
    (le_trans (le_or_l (at plane w x y) (at plane w x (row_below r y))) m, le_trans (le_or_r (at plane w x y) (at plane w x (row_below r y))) m)
  where
    both : ℕ → ℕ
    both u = bit_or (at plane w u y) (at plane w u (row_below r y))

-- what holds of the rows above y, of y and of the row below it, holds of the rows above y + 2
pub two_more : (r : Rectangle) (y : ℕ) (P : ℕ → Type 0) → ((v : ℕ) → v < y → r.y0 ≤ v → v < r.y1 → P v) → P y → P (row_below r y)
    → (v : ℕ) → v < y + 2 → r.y0 ≤ v → v < r.y1 → P v
two_more r y P above here below v h p q = of (dec_lt v y) (dec_lt y v)
  where
    of : Dec (v < y) → Dec (y < v) → P v
    of (yes a) d = above v a p q
    of (no a) (no d) = let e : y ≡ v = omega arith in subst P e here
    of (no a) (yes d) = let e : row_below r y ≡ v = omega arith in subst P e below
