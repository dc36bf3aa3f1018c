-- Bins in bytes: what is packed over fewer bins does not see them, one store into a byte puts the bits that fit there, and puts follow one another.
use mathlib.Core.Path.{◌≡◌, refl, sym, ap, ap₂, ◌∙◌, subst}
use mathlib.Core.Bool.{Bool}
use mathlib.Core.List.{List, [], ◌∷◌, ◌++◌, append_assoc, append-nil}
use Prim.Native.Nat.{ℕ, zero, suc, ◌+◌, ◌-◌, ◌*◌, ◌/◌, ◌%◌, ◌^◌, ◌≤◌, ◌<◌}
use native.Mathlib.Nat.{add-zero, not-suc-le-zero, le_of_suc-le-suc, mod-eq_of_lt, lt_of_le_of_lt, div-mul-le_self}
use native.Mathlib.Omega.{arith}
use lib.ListN.{length, take, drop, get_or, set, length-append, length-set}
use lib.Seq.{take-append-le, take-append-add, drop_at, take_at, length-take-le}
use Rattle.standard.specs.Bins.{fixed_length, bits_of, bins_of, number, bytes_of, packed}
use Rattle.standard.proofs.Bits.{number_nil, number_lt, number_add, number_high, number_take, number_fixed}
use Rattle.standard.proofs.Longest.{fixed_length_lem}
use Rattle.sink.specs.Puts.{Room, placed, Puts}
use Rattle.sink.proofs.Bits.{shl_shr_part}

-- ---- one store

-- a byte that is passed over
packed_cons : (x : ℕ) (w : List Bool) (l : List ℕ) → x < 256 → packed (fixed_length 8 x ++ w) (x ∷ l) ≡ x ∷ packed w l
unfolding packed bytes_of
packed_cons x w l h =
    let n : ℕ = (length w + 7) / 8 in
    let e : (length (fixed_length 8 x ++ w) + 7) / 8 ≡ suc n = omega (arith, length-append (fixed_length 8 x) w, fixed_length_lem 8 x) in
    ap (λ (k : ℕ). bytes_of k (fixed_length 8 x ++ w) ++ drop k (x ∷ l)) e
    ∙ ap₂ (λ (b : ℕ) (r : List Bool). b ∷ (bytes_of n r ++ drop n l)) (number_fixed 8 x w ∙ mod-eq_of_lt h) (drop_at (fixed_length 8 x) w 8 (fixed_length_lem 8 x))

-- the bits of one byte: s that were there, k new ones, and t zeros
byte : (x s k t v : ℕ) → s + (k + t) ≡ 8 → x < 256 → number 8 (take s (fixed_length 8 x) ++ fixed_length k v) ≡ x / 2 ^ (k + t) * 2 ^ (k + t) + v % 2 ^ k * 2 ^ t
byte x s k t v e h =
    let a : List Bool = take s (fixed_length 8 x) in
    let w : List Bool = a ++ fixed_length k v in
    let la : length a ≡ s = length-take-le s (fixed_length 8 x) (omega (arith, fixed_length_lem 8 x)) in
    let old : number s w ≡ x / 2 ^ (k + t) =
    sym (number_take s s w (omega arith)) ∙ ap (number s) (take_at a (fixed_length k v) s la)
    ∙ number_take s s (fixed_length 8 x) (omega arith)
    ∙ sym (number_high s (k + t) (fixed_length 8 x))
    ∙ ap (λ (n : ℕ). number n (fixed_length 8 x) / 2 ^ (k + t)) e
    ∙ ap (λ (l : List Bool). number 8 l / 2 ^ (k + t)) (sym (append-nil (fixed_length 8 x)))
    ∙ ap (λ (n : ℕ). n / 2 ^ (k + t)) (number_fixed 8 x [] ∙ mod-eq_of_lt h) in
    let new : number (k + t) (fixed_length k v) ≡ v % 2 ^ k * 2 ^ t =
    number_add k t (fixed_length k v)
    ∙ ap₂ (λ (l r : List Bool). number k l * 2 ^ t + number t r) (sym (append-nil (fixed_length k v)))
    (ap (drop k) (sym (append-nil (fixed_length k v))) ∙ drop_at (fixed_length k v) [] k (fixed_length_lem k v))
    ∙ ap₂ (λ (i j : ℕ). i * 2 ^ t + j) (number_fixed k v []) (number_nil t)
    ∙ add-zero (v % 2 ^ k * 2 ^ t) in
    ap (λ (n : ℕ). number n w) (sym e)
    ∙ number_add s (k + t) w
    ∙ ap₂ (λ (i : ℕ) (r : List Bool). i * 2 ^ (k + t) + number (k + t) r) old (drop_at a (fixed_length k v) s la)
    ∙ ap (λ (j : ℕ). x / 2 ^ (k + t) * 2 ^ (k + t) + j) new

pub byte_lt : (x s k t v : ℕ) → s + (k + t) ≡ 8 → x < 256 → x / 2 ^ (k + t) * 2 ^ (k + t) + v % 2 ^ k * 2 ^ t < 256
byte_lt x s k t v e h = subst (λ (n : ℕ). n < 256) (byte x s k t v e h) (number_lt 8 (take s (fixed_length 8 x) ++ fixed_length k v))

-- one store into the byte q
stored : (l : List ℕ) (q at s k t v : ℕ) → at ≡ 8 * q + s → s + (k + t) ≡ 8 → 0 < k → q < length l → ((i : ℕ) → get_or l i 0 < 256)
    → set l q (get_or l q 0 / 2 ^ (k + t) * 2 ^ (k + t) + v % 2 ^ k * 2 ^ t) ≡ packed (take at (bits_of l) ++ fixed_length k v) l
unfolding packed bytes_of bits_of
stored [] q at s k t v a e p h b = absurd (not-suc-le-zero h)
stored (x ∷ l) zero at s k t v a e p h b =
    let z : at ≡ s = omega arith in
    let here : take at (bits_of (x ∷ l)) ≡ take s (fixed_length 8 x) =
    ap (λ (n : ℕ). take n (fixed_length 8 x ++ bits_of l)) z ∙ take-append-le s (fixed_length 8 x) (bits_of l) (omega (arith, fixed_length_lem 8 x)) in
    let w : List Bool = take s (fixed_length 8 x) ++ fixed_length k v in
    let one : (length w + 7) / 8 ≡ 1 = omega (arith, length-append (take s (fixed_length 8 x)) (fixed_length k v), fixed_length_lem k v, length-take-le s (fixed_length 8 x) (omega (arith, fixed_length_lem 8 x))) in
    sym
    (ap (λ (r : List Bool). packed (r ++ fixed_length k v) (x ∷ l)) here
    ∙ ap (λ (n : ℕ). bytes_of n w ++ drop n (x ∷ l)) one
    ∙ ap (λ (n : ℕ). n ∷ l) (byte x s k t v e (b 0)))
stored (x ∷ l) (suc q) at s k t v a e p h b =
    let at' : ℕ = 8 * q + s in
    let shift : at ≡ length (fixed_length 8 x) + at' = omega (arith, fixed_length_lem 8 x) in
    let here : take at (bits_of (x ∷ l)) ≡ fixed_length 8 x ++ take at' (bits_of l) =
    ap (λ (n : ℕ). take n (fixed_length 8 x ++ bits_of l)) shift ∙ take-append-add (fixed_length 8 x) (bits_of l) at' in
    ap (λ (r : List ℕ). x ∷ r) (stored l q at' s k t v refl e p (le_of_suc-le-suc h) (λ i. b (suc i)))
    ∙ sym
    (ap (λ (r : List Bool). packed (r ++ fixed_length k v) (x ∷ l)) here
    ∙ ap (λ (r : List Bool). packed r (x ∷ l)) (append_assoc (fixed_length 8 x) (take at' (bits_of l)) (fixed_length k v))
    ∙ packed_cons x (take at' (bits_of l) ++ fixed_length k v) l (b 0))

-- ---- bins placed

placed_some : (at : ℕ) (w : List Bool) (l : List ℕ) → 0 < length w → placed at w l ≡ packed (bins_of l at ++ w) l
unfolding placed
placed_some at [] l h = absurd (not-suc-le-zero h)
placed_some at (b ∷ w) l h = refl

-- ---- puts

pub part_puts : (l : List ℕ) (at k v : ℕ) (exit : List ℕ) (next : ℕ) → at % 8 + k ≤ 8 → 0 < k → at + k ≤ 8 * length l → ((i : ℕ) → get_or l i 0 < 256)
    → exit ≡ set l (at / 8) (get_or l (at / 8) 0 / 2 ^ (8 - at % 8) * 2 ^ (8 - at % 8) + v % 2 ^ k * 2 ^ (8 - at % 8 - k))
    → next ≡ at + k → Puts at (fixed_length k v) l exit next
unfolding bins_of
part_puts l at k v exit next r p f b e n =
    let t : ℕ = 8 - at % 8 - k in
    let kt : 8 - at % 8 ≡ k + t = omega arith in
    let s : exit ≡ packed (take at (bits_of l) ++ fixed_length k v) l =
    e ∙ ap (λ (j : ℕ). set l (at / 8) (get_or l (at / 8) 0 / 2 ^ j * 2 ^ j + v % 2 ^ k * 2 ^ t)) kt
    ∙ stored l (at / 8) at (at % 8) k t v (omega arith) (omega arith) p (omega arith) b in
    record {
      moved = n ∙ ap (λ (j : ℕ). at + j) (sym (fixed_length_lem k v));
      long = ap length e ∙ length-set l (at / 8) _;
      bytes = λ room. s ∙ sym (placed_some at (fixed_length k v) l (omega (arith, fixed_length_lem k v)));
    }

-- the bins are all that was put
placed_first : (a : List Bool) (l : List ℕ) → placed 0 a l ≡ packed a l
unfolding placed packed bytes_of bins_of
placed_first [] l = refl
placed_first (b ∷ a) l = refl

pub puts_packed : {a : List Bool} {l0 l1 : List ℕ} {n : ℕ} → Room 0 (length a) l0 → Puts 0 a l0 l1 n → l1 ≡ packed a l0
puts_packed {a} {l0} r p = p.bytes r ∙ placed_first a l0

-- what was put determines the bytes and the place
pub puts_one : {at : ℕ} {a : List Bool} {l0 l1 l2 : List ℕ} {n1 n2 : ℕ} → Room at (length a) l0 → Puts at a l0 l1 n1 → Puts at a l0 l2 n2 → (l1 ≡ l2) × (n1 ≡ n2)
puts_one r p q = (p.bytes r ∙ sym (q.bytes r), p.moved ∙ sym q.moved)

-- the byte as it is computed
pub part_value : (x r k v : ℕ) → x < 256 → k ≤ r → r ≤ 8 → x / 2 ^ r * 2 ^ r % 2 ^ 32 + v * 2 ^ (32 - k) % 2 ^ 32 / 2 ^ (32 - r) ≡ x / 2 ^ r * 2 ^ r + v % 2 ^ k * 2 ^ (r - k)
part_value x r k v h i j =
    let t : ℕ = r - k in
    let b : ℕ = 32 - r in
    let tb : 32 - k ≡ t + b = omega arith in
    let ktb : 32 ≡ k + (t + b) = omega arith in
    ap₂ (λ (m n : ℕ). m + n)
    (mod-eq_of_lt (lt_of_le_of_lt (div-mul-le_self x (2 ^ r)) (omega arith)))
    (ap₂ (λ (m n : ℕ). v * 2 ^ m % 2 ^ n / 2 ^ b) tb ktb ∙ shl_shr_part v k t b)

pub part_value_lt : (x at k v : ℕ) → x < 256 → at % 8 + k ≤ 8 → x / 2 ^ (8 - at % 8) * 2 ^ (8 - at % 8) % 2 ^ 32 + v * 2 ^ (32 - k) % 2 ^ 32 / 2 ^ (32 - (8 - at % 8)) < 256
part_value_lt x at k v h i =
    let r : ℕ = 8 - at % 8 in
    let e : k + (r - k) ≡ r = omega arith in
    subst (λ (n : ℕ). n < 256)
    (ap (λ (j : ℕ). x / 2 ^ j * 2 ^ j + v % 2 ^ k * 2 ^ (r - k)) e ∙ sym (part_value x r k v h (omega arith) (omega arith)))
    (byte_lt x (at % 8) k (r - k) v (omega arith) h)
