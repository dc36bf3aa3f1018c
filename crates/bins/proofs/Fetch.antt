-- The window: 32 bins out of five bytes, by a shift that leaves them in the middle of a 64-bit word; and the bits past the count cleared.
use mathlib.Core.Path.{◌≡◌, refl, sym, ap, ap₂, ◌∙◌, subst}
use mathlib.Core.Bool.{Bool}
use mathlib.Core.List.{List, [], ◌∷◌}
use Prim.Native.Nat.{ℕ, zero, suc, ◌+◌, ◌-◌, ◌*◌, ◌/◌, ◌%◌, ◌^◌, ◌≤◌, ◌<◌}
use native.Mathlib.Nat.{add-zero, add_comm, add-mul, mul_assoc, sub-zero, suc-sub-suc, le_of_suc-le-suc, not-suc-le-zero, mod-eq_of_lt, lt_of_le_of_lt, div-mul-le_self, le_refl}
use native.Mathlib.Omega.{arith}
use lib.Arith.{digits_lt}
use lib.ListN.{length, take, drop, get_or}
use lib.Pow.{pow-add, high, low, shl_lt}
use lib.Seq.{slice_empty, take-nil, drop-nil, drop-drop, length-take-le}
use Rattle.standard.specs.Bins.{fixed_length, bits_of, bins_of, number}
use Rattle.standard.proofs.Bits.{number_nil, number_lt, number_add, number_high, number_take, number_fixed}
use Rattle.standard.proofs.Packed.{bits_length}

-- ---- bits out of bytes

-- the byte at q is the number at bit 8 * q
byte_number : (bytes : List ℕ) (q : ℕ) → number 8 (drop (8 * q) (bits_of bytes)) ≡ get_or bytes q 0 % 256
unfolding bits_of fixed_length
byte_number [] q = ap (number 8) (drop-nil (8 * q)) ∙ number_nil 8
byte_number (b ∷ bytes) zero = number_fixed 8 b (bits_of bytes)
byte_number (b ∷ bytes) (suc q) =
    ap (λ (k : ℕ). number 8 (drop k (bits_of (b ∷ bytes)))) (eight q) ∙ byte_number bytes q
  where
    eight : (n : ℕ) → 8 * suc n ≡ suc (suc (suc (suc (suc (suc (suc (suc (8 * n))))))))
    eight n = omega arith

-- so a byte stands above the bits after it
byte_step : (s : List ℕ) (q q' k : ℕ) → get_or s q 0 < 256 → q + 1 ≡ q'
    → number (8 + k) (drop (8 * q) (bits_of s)) ≡ get_or s q 0 * 2 ^ k + number k (drop (8 * q') (bits_of s))
byte_step s q q' k h e =
    let next : 8 * q + 8 ≡ 8 * q' = omega arith in
    number_add 8 k (drop (8 * q) (bits_of s))
    ∙ ap₂ (λ (x : ℕ) (l : List Bool). x * 2 ^ k + number k l)
    (byte_number s q ∙ mod-eq_of_lt h)
    (drop-drop 8 (8 * q) (bits_of s) ∙ ap (λ (n : ℕ). drop n (bits_of s)) next)

five_sum : (g0 g1 g2 g3 g4 n40 n32 n24 n16 n8 : ℕ)
    → n40 ≡ g0 * 2 ^ 32 + n32 → n32 ≡ g1 * 2 ^ 24 + n24 → n24 ≡ g2 * 2 ^ 16 + n16 → n16 ≡ g3 * 2 ^ 8 + n8 → n8 ≡ g4
    → g0 * 2 ^ 32 + g1 * 2 ^ 24 + g2 * 2 ^ 16 + g3 * 2 ^ 8 + g4 ≡ n40
five_sum g0 g1 g2 g3 g4 n40 n32 n24 n16 n8 e0 e1 e2 e3 e4 = omega arith

-- forty bits are five bytes
pub five_number : (s : List ℕ) (q : ℕ)
    → get_or s q 0 < 256 → get_or s (q + 1) 0 < 256 → get_or s (q + 2) 0 < 256 → get_or s (q + 3) 0 < 256 → get_or s (q + 4) 0 < 256
    → get_or s q 0 * 2 ^ 32 + get_or s (q + 1) 0 * 2 ^ 24 + get_or s (q + 2) 0 * 2 ^ 16 + get_or s (q + 3) 0 * 2 ^ 8 + get_or s (q + 4) 0
    ≡ number 40 (drop (8 * q) (bits_of s))
five_number s q h0 h1 h2 h3 h4 =
    five_sum (get_or s q 0) (get_or s (q + 1) 0) (get_or s (q + 2) 0) (get_or s (q + 3) 0) (get_or s (q + 4) 0) _ _ _ _ _
    (byte_step s q (q + 1) 32 h0 refl)
    (byte_step s (q + 1) (q + 2) 24 h1 (omega arith))
    (byte_step s (q + 2) (q + 3) 16 h2 (omega arith))
    (byte_step s (q + 3) (q + 4) 8 h3 (omega arith))
    (byte_number s (q + 4) ∙ mod-eq_of_lt h4)

-- ---- the window out of the forty bits

module _ (a x y u t : ℕ) (hx : x < 2 ^ 32) (hy : y < 2 ^ t) (e : u + t ≡ 32) where
  low_part : y * 2 ^ u < 2 ^ 32
  low_part = subst (λ (k : ℕ). y * 2 ^ u < 2 ^ k) (add_comm t u ∙ e) (shl_lt t u hy)

  pow_t : 2 ^ t * 2 ^ u ≡ 2 ^ 32
  pow_t = sym (pow-add 2 t u) ∙ ap (λ (k : ℕ). 2 ^ k) (add_comm t u ∙ e)

  pow_a : 2 ^ (32 + t) * 2 ^ u ≡ 2 ^ 64
  pow_a = ap (λ (k : ℕ). k * 2 ^ u) (pow-add 2 32 t) ∙ mul_assoc (2 ^ 32) (2 ^ t) (2 ^ u) ∙ ap (λ (k : ℕ). 2 ^ 32 * k) pow_t

  shifted : (a * 2 ^ (32 + t) + (x * 2 ^ t + y)) * 2 ^ u ≡ a * 2 ^ 64 + (x * 2 ^ 32 + y * 2 ^ u)
  shifted =
      add-mul (a * 2 ^ (32 + t)) (x * 2 ^ t + y) (2 ^ u)
      ∙ ap₂ (λ (i j : ℕ). i + j)
      (mul_assoc a (2 ^ (32 + t)) (2 ^ u) ∙ ap (λ (k : ℕ). a * k) pow_a)
      (add-mul (x * 2 ^ t) y (2 ^ u) ∙ ap (λ (k : ℕ). k + y * 2 ^ u) (mul_assoc x (2 ^ t) (2 ^ u) ∙ ap (λ (k : ℕ). x * k) pow_t))

  middle : (a * 2 ^ (32 + t) + (x * 2 ^ t + y)) * 2 ^ u % 2 ^ 64 / 2 ^ 32 ≡ x
  middle =
      ap (λ (k : ℕ). k % 2 ^ 64 / 2 ^ 32) shifted
      ∙ ap (λ (k : ℕ). k / 2 ^ 32) (low a 64 (digits_lt {m = 2 ^ 32} {c = 2 ^ 32} hx low_part))
      ∙ high x 32 low_part

pub window_number : (l : List Bool) (n at : ℕ) → n ≡ number 40 (drop (8 * (at / 8)) l)
    → n * 2 ^ (24 + at % 8) % 2 ^ 64 / 2 ^ 32 ≡ number 32 (drop at l)
window_number l n at h =
    let s : ℕ = at % 8 in
    let t : ℕ = 8 - at % 8 in
    let L : List Bool = drop (8 * (at / 8)) l in
    let sums : s + (32 + t) ≡ 40 = omega arith in
    let back : 8 * (at / 8) + s ≡ at = omega arith in
    let here : drop s L ≡ drop at l = drop-drop s (8 * (at / 8)) l ∙ ap (λ (k : ℕ). drop k l) back in
    let parts : n ≡ number s L * 2 ^ (32 + t) + (number 32 (drop at l) * 2 ^ t + number t (drop 32 (drop at l))) =
    h ∙ ap (λ (k : ℕ). number k L) (sym sums) ∙ number_add s (32 + t) L
    ∙ ap (λ (m : List Bool). number s L * 2 ^ (32 + t) + number (32 + t) m) here
    ∙ ap (λ (k : ℕ). number s L * 2 ^ (32 + t) + k) (number_add 32 t (drop at l)) in
    ap (λ (k : ℕ). k * 2 ^ (24 + s) % 2 ^ 64 / 2 ^ 32) parts
    ∙ middle (number s L) (number 32 (drop at l)) (number t (drop 32 (drop at l))) (24 + s) t
    (number_lt 32 (drop at l)) (number_lt t (drop 32 (drop at l))) (omega arith)

-- ---- the bins past the count

number_pad : (r z : ℕ) (l : List Bool) → number (r + z) (take r l) ≡ number r l * 2 ^ z
number_pad r z l =
    number_add r z (take r l)
    ∙ ap₂ (λ (x : ℕ) (m : List Bool). x * 2 ^ z + number z m) (number_take r r l (le_refl r)) (slice_empty r l)
    ∙ ap (λ (k : ℕ). number r l * 2 ^ z + k) (number_nil z)
    ∙ add-zero (number r l * 2 ^ z)

drop_take : (a c : ℕ) (l : List Bool) → a ≤ c → drop a (take c l) ≡ take (c - a) (drop a l)
drop_take zero c l h = ap (λ (k : ℕ). take k l) (sym (sub-zero c))
drop_take (suc a) zero l h = absurd (not-suc-le-zero h)
drop_take (suc a) (suc c) [] h = sym (take-nil (suc c - suc a))
drop_take (suc a) (suc c) (x ∷ l) h = drop_take a c l (le_of_suc-le-suc h) ∙ ap (λ (k : ℕ). take k (drop a l)) (sym (suc-sub-suc c a))

pub bins_whole : (s : List ℕ) (count at : ℕ) → at ≤ count → 32 ≤ count - at → number 32 (drop at (bits_of s)) ≡ number 32 (drop at (bins_of s count))
unfolding bins_of
bins_whole s count at h g =
    sym (ap (number 32) (drop_take at count (bits_of s) h) ∙ number_take 32 (count - at) (drop at (bits_of s)) g)

pub bins_cut : (s : List ℕ) (count at : ℕ) → at ≤ count → count - at < 32
    → number 32 (drop at (bits_of s)) / 2 ^ (32 - (count - at)) * 2 ^ (32 - (count - at)) % 2 ^ 64 ≡ number 32 (drop at (bins_of s count))
unfolding bins_of
bins_cut s count at h g =
    let l : List Bool = drop at (bits_of s) in
    let r : ℕ = count - at in
    let z : ℕ = 32 - r in
    let sums : r + z ≡ 32 = omega arith in
    let fits : number 32 l / 2 ^ z * 2 ^ z < 2 ^ 64 = lt_of_le_of_lt (div-mul-le_self (number 32 l) (2 ^ z)) (omega (arith, number_lt 32 l)) in
    mod-eq_of_lt fits
    ∙ ap (λ (k : ℕ). number k l / 2 ^ z * 2 ^ z) (sym sums)
    ∙ ap (λ (k : ℕ). k * 2 ^ z) (number_high r z l)
    ∙ sym (number_pad r z l)
    ∙ ap (λ (k : ℕ). number k (take r l)) sums
    ∙ ap (number 32) (sym (drop_take at count (bits_of s) h))

-- ---- how many bins there are

pub bins_length : (s : List ℕ) (count : ℕ) → count ≤ 8 * length s → length (bins_of s count) ≡ count
unfolding bins_of
bins_length s count h = length-take-le count (bits_of s) (omega (arith, bits_length s))
