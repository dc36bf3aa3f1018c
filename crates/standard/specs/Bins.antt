-- The bins of a set's values: binarisation (H.265 9.3.3) and the order of the syntax elements (7.3.8.3).
use Rattle.std.specs.Prelude.{Bool, true, false, List, [], ◌∷◌, ◌++◌, ℕ, zero, suc, ◌+◌, ◌/◌, ◌%◌, ◌^◌, eqb, ℤ, pos, negsuc, nat_abs, length, take, drop}
use Rattle.standard.specs.declared.Four.{Four}
use Rattle.standard.specs.declared.Offsets.{Offsets}
use Rattle.standard.specs.declared.Offsets.TheVariants.{Off, Band, Edge}
use Rattle.standard.specs.declared.CtuSet.{CtuSet}
use Rattle.standard.specs.declared.Switches.{Switches}
use Rattle.standard.specs.Sets.{most}

-- truncated Rice, with no suffix: that many ones and then a zero, except that the largest is all ones
unfoldable pub truncated : ℕ → ℕ → List Bool
truncated zero v = []
truncated (suc largest) zero = false ∷ []
truncated (suc largest) (suc v) = true ∷ truncated largest v

-- fixed length: n bits, the high one first
unfoldable pub fixed_length : ℕ → ℕ → List Bool
fixed_length zero v = []
fixed_length (suc n) v = eqb (v / 2 ^ n % 2) 1 ∷ fixed_length n v

-- sao_offset_abs, four of them
unfoldable pub magnitudes : ℕ → Four ℤ → List Bool
magnitudes m o =
    truncated m (nat_abs o.o1) ++ (truncated m (nat_abs o.o2) ++ (truncated m (nat_abs o.o3) ++ truncated m (nat_abs o.o4)))

-- sao_offset_sign: one bin for a magnitude that is not 0, and 1 is negative
unfoldable pub sign_bins : ℤ → List Bool
sign_bins (pos zero) = []
sign_bins (pos (suc n)) = false ∷ []
sign_bins (negsuc n) = true ∷ []

unfoldable pub signs : Four ℤ → List Bool
signs o = sign_bins o.o1 ++ (sign_bins o.o2 ++ (sign_bins o.o3 ++ sign_bins o.o4))

-- sao_type_idx: 0 off, 1 band, 2 edge
abbrev pub type_idx : Offsets → ℕ
type_idx Off = 0
type_idx (Band position o) = 1
type_idx (Edge class o) = 2

abbrev pub type_bins : Offsets → List Bool
type_bins c = truncated 2 (type_idx c)

-- what follows the type, of luma and Cb: the position has 5 bins, the class 2
unfoldable pub rest : ℕ → Offsets → List Bool
rest m Off = []
rest m (Band position o) = magnitudes m o ++ (signs o ++ fixed_length 5 position)
rest m (Edge class o) = magnitudes m o ++ fixed_length 2 class

-- of Cr, which takes Cb's type and class
unfoldable pub rest_of_cr : ℕ → Offsets → List Bool
rest_of_cr m Off = []
rest_of_cr m (Band position o) = magnitudes m o ++ (signs o ++ fixed_length 5 position)
rest_of_cr m (Edge class o) = magnitudes m o

abbrev pub when : Bool → List Bool → List Bool
when true bins = bins
when false bins = []

-- the full form: luma, then Cb, then Cr
unfoldable pub full : Switches → CtuSet → List Bool
full s q =
    when s.luma (type_bins q.luma ++ rest (most s 0) q.luma)
    ++ when s.chroma (type_bins q.cb ++ (rest (most s 1) q.cb ++ rest_of_cr (most s 2) q.cr))

-- ---- bins in bytes, from the most significant bit of the first

unfoldable pub bits_of : List ℕ → List Bool
bits_of [] = []
bits_of (byte ∷ bytes) = fixed_length 8 byte ++ bits_of bytes

-- the bins of a declared count
unfoldable pub bins_of : List ℕ → ℕ → List Bool
bins_of bytes count = take count (bits_of bytes)

-- the number of n bits, missing ones 0
unfoldable pub number : ℕ → List Bool → ℕ
number zero bins = 0
number (suc n) [] = 0
number (suc n) (true ∷ bins) = 2 ^ n + number n bins
number (suc n) (false ∷ bins) = number n bins

unfoldable pub bytes_of : ℕ → List Bool → List ℕ
bytes_of zero bins = []
bytes_of (suc n) bins = number 8 bins ∷ bytes_of n (drop 8 bins)

-- a buffer with bins at its front: unused low bits of the last byte are 0, bytes beyond as they were
unfoldable pub packed : List Bool → List ℕ → List ℕ
packed bins out = let n = (length bins + 7) / 8 in bytes_of n bins ++ drop n out
