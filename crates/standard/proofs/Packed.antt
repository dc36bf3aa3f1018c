-- Bins that are packed into bytes are read from them again; and how many bits bytes have.
use mathlib.Core.Path.{◌≡◌, refl, sym, ap, ◌∙◌}
use mathlib.Core.Bool.{Bool, true, false}
use mathlib.Core.List.{List, [], ◌∷◌, ◌++◌, append_assoc}
use Prim.Native.Nat.{ℕ, zero, suc, ◌+◌, ◌-◌, ◌*◌, ◌/◌, ◌≤◌}
use native.Mathlib.Nat.{sub-zero, zero-sub, suc-sub-suc}
use native.Mathlib.Omega.{arith}
use lib.ListN.{length, take, drop, length-drop}
use lib.Seq.{take-add, take-nil, take_all, take-append-le}
use Rattle.standard.specs.Bins.{fixed_length, bits_of, bins_of, number, bytes_of, packed}
use Rattle.standard.proofs.Bits.{number_lt}
use Rattle.standard.proofs.Elements.{high_one, high_zero}

pub bits_length : (bytes : List ℕ) → length (bits_of bytes) ≡ 8 * length bytes
unfolding bits_of fixed_length
bits_length [] = refl
bits_length (b ∷ bytes) = omega (arith, bits_length bytes)

bits_append : (a b : List ℕ) → bits_of (a ++ b) ≡ bits_of a ++ bits_of b
unfolding bits_of
bits_append [] b = refl
bits_append (x ∷ a) b = ap (λ (l : List Bool). fixed_length 8 x ++ l) (bits_append a b) ∙ sym (append_assoc (fixed_length 8 x) (bits_of a) (bits_of b))

pub bytes_length : (n : ℕ) (bins : List Bool) → length (bytes_of n bins) ≡ n
unfolding bytes_of
bytes_length zero bins = refl
bytes_length (suc n) bins = ap suc (bytes_length n (drop 8 bins))

-- as many bits as there are bins, of the number of the first n and what follows it
front : (n : ℕ) (bins more : List Bool) → take (length bins) (fixed_length n (number n bins) ++ more) ≡ take n bins ++ take (length bins - n) more
unfolding number fixed_length
front zero bins more = ap (λ (k : ℕ). take k more) (sym (sub-zero (length bins)))
front (suc n) [] more = ap (λ (k : ℕ). take k more) (sym (zero-sub (suc n)))
front (suc n) (true ∷ bins) more =
    ap (λ (l : List Bool). take (suc (length bins)) (l ++ more)) (high_one n (number n bins) (number_lt n bins))
    ∙ ap (λ (l : List Bool). true ∷ l) (front n bins more)
    ∙ ap (λ (k : ℕ). true ∷ (take n bins ++ take k more)) (sym (suc-sub-suc (length bins) n))
front (suc n) (false ∷ bins) more =
    ap (λ (l : List Bool). take (suc (length bins)) (l ++ more)) (high_zero n (number n bins) (number_lt n bins))
    ∙ ap (λ (l : List Bool). false ∷ l) (front n bins more)
    ∙ ap (λ (k : ℕ). false ∷ (take n bins ++ take k more)) (sym (suc-sub-suc (length bins) n))

bytes_back : (n : ℕ) (bins : List Bool) → take (length bins) (bits_of (bytes_of n bins)) ≡ take (8 * n) bins
unfolding bits_of bytes_of
bytes_back zero bins = take-nil (length bins)
bytes_back (suc n) bins =
    let e : 8 + 8 * n ≡ 8 * suc n = omega arith in
    front 8 bins (bits_of (bytes_of n (drop 8 bins)))
    ∙ ap (λ (k : ℕ). take 8 bins ++ take k (bits_of (bytes_of n (drop 8 bins)))) (sym (length-drop 8 bins))
    ∙ ap (λ (l : List Bool). take 8 bins ++ l) (bytes_back n (drop 8 bins))
    ∙ sym (take-add 8 (8 * n) bins)
    ∙ ap (λ (k : ℕ). take k bins) e

pub packed_back : (bins : List Bool) (out : List ℕ) → bins_of (packed bins out) (length bins) ≡ bins
unfolding bins_of packed
packed_back bins out =
    let n : ℕ = (length bins + 7) / 8 in
    let room : length bins ≤ 8 * n = omega arith in
    ap (take (length bins)) (bits_append (bytes_of n bins) (drop n out))
    ∙ take-append-le (length bins) (bits_of (bytes_of n bins)) (bits_of (drop n out)) (omega (arith, bits_length (bytes_of n bins), bytes_length n bins))
    ∙ bytes_back n bins
    ∙ take_all (8 * n) bins room
