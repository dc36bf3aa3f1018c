-- The depth of a component, and what follows from it: the largest magnitude M, and how far offsets are shifted.
-- One law says that M, shifted, is below the sample range, at every depth.
use mathlib.Core.Path.{◌≡◌, refl, ap}
use Prim.Native.Nat.{ℕ, zero, suc, ◌+◌, ◌-◌, ◌*◌, ◌%◌, ◌^◌, ◌≤◌, ◌<◌, min}
use native.Mathlib.Nat.{one-mul, mod-eq_of_lt, lt_of_le_of_lt, lt_of_lt_of_le}
use native.Mathlib.Omega.{arith}
use lib.Dec.{lit<}
use lib.Pow.{pow_pos, pow_mono, shl_lt}
use Rattle.standard.specs.declared.BitDepths.{BitDepths}
use Rattle.standard.specs.declared.Picture.{Picture}
use Rattle.standard.specs.Picture.{Depth, Rules, depth_of}
use Rattle.standard.specs.Sets.{largest}
use Rattle.standard.specs.Samples.{shift_of}

-- ---- the depth and the shift of a component

abbrev pub depths : ℕ → ℕ → BitDepths
depths y c = record { luma = y; chroma = c }

-- luma and chroma of one depth, as document 01 has it
abbrev pub alike : ℕ → BitDepths
alike d = depths d d

pub depth_of_luma : (p : Picture) {i : ℕ} → i ≡ 0 → depth_of p i ≡ p.depth.luma
unfolding depth_of
depth_of_luma p {i = zero} e = refl
depth_of_luma p {i = suc i} e = absurd (omega arith)

pub depth_of_chroma : (p : Picture) {i : ℕ} → ¬ (i ≡ 0) → depth_of p i ≡ p.depth.chroma
unfolding depth_of
depth_of_chroma p {i = zero} n = absurd (n refl)
depth_of_chroma p {i = suc i} n = refl

pub depth_in_range : {p : Picture} → Rules p → (i : ℕ) → Depth (depth_of p i)
unfolding depth_of
depth_in_range rules zero = rules.luma_depth
depth_in_range rules (suc i) = rules.chroma_depth

-- a number that is the depth of a component, whichever
pub depth_at_most_16 : {p : Picture} {n : ℕ} → Rules p → (i : ℕ) → n ≡ depth_of p i → n ≤ 16
depth_at_most_16 rules i e = omega (arith, e, depth_in_range rules i)

pub shift_at_most_6 : {p : Picture} → Rules p → (i : ℕ) → shift_of p i ≤ 6
unfolding shift_of
shift_at_most_6 rules i = omega (arith, depth_in_range rules i)

pub no_shift : (p : Picture) (i : ℕ) → depth_of p i ≤ 10 → shift_of p i ≡ 0
unfolding shift_of
no_shift p i h = omega arith

-- ---- a power of two, as code has it: 1 shifted, in 32 bits

pub one_shifted : {d : ℕ} → d ≤ 16 → (1 * 2 ^ d) % 4294967296 ≡ 2 ^ d
one_shifted h = rw one-mul (mod-eq_of_lt (lt_of_le_of_lt (pow_mono h) (lit< tt)))

-- ---- the largest magnitude

pub largest_monotone : {d e : ℕ} → d ≤ e → largest d ≤ largest e
unfolding largest
largest_monotone {d} {e} h =
    let g : min d 10 - 5 ≤ min e 10 - 5 = omega arith in
    omega (arith, pow_mono g)

pub largest_is_31 : {d : ℕ} → 10 ≤ d → largest d ≡ 31
unfolding largest
largest_is_31 {d} h = let e : min d 10 - 5 ≡ 5 = omega arith in ap (λ (n : ℕ). 2 ^ n - 1) e

pub largest_8 : largest 8 ≡ 7
unfolding largest
largest_8 = refl

pub largest_9 : largest 9 ≡ 15
unfolding largest
largest_9 = refl

pub largest_at_least_7 : {d : ℕ} → 8 ≤ d → 7 ≤ largest d
largest_at_least_7 h = omega (arith, largest_monotone h, largest_8)

pub largest_at_most_31 : (d : ℕ) → largest d ≤ 31
unfolding largest
largest_at_most_31 d =
    let g : min d 10 - 5 ≤ 5 = omega arith in
    omega (arith, pow_mono g)

-- ---- a scaled magnitude is a number of d bits

pub largest_shifted : (d : ℕ) → largest d * 2 ^ (d - min d 10) < 2 ^ d
unfolding largest
largest_shifted d =
    let j = min d 10 - 5 in
    let below : 2 ^ j - 1 < 2 ^ j = omega (arith, pow_pos j) in
    let bits : j + (d - min d 10) ≤ d = omega arith in
    lt_of_lt_of_le (shl_lt j (d - min d 10) below) (pow_mono bits)

pub scaled_in_range : (p : Picture) (i : ℕ) → largest (depth_of p i) * 2 ^ shift_of p i < 2 ^ depth_of p i
unfolding shift_of
scaled_in_range p i = largest_shifted (depth_of p i)
