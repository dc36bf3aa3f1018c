-- A set as bytes, in a call and in the table of the sets that are in (docs/CALLS.md): of luma, Cb and Cr each its type, its band position or
-- class, and its four offsets, each plus 128. Off is six bytes of 0.
use Rattle.std.specs.Prelude.{◌≡◌, List, [], ◌∷◌, ◌++◌, ℕ, zero, suc, ◌+◌, ◌-◌, ◌*◌, ℤ, pos, negsuc, get_or, take, drop}
use Rattle.std.specs.Prelude.{Option, Some as some, None as none}
use Rattle.std.proofs.Math.IntN.{sub_ℕ}
use Rattle.standard.specs.declared.Picture.{Picture}
use Rattle.standard.specs.declared.Four.{Four}
use Rattle.standard.specs.declared.Offsets.{Offsets}
use Rattle.standard.specs.declared.Offsets.TheVariants.{Off, Band, Edge}
use Rattle.standard.specs.declared.CtuSet.{CtuSet}
use Rattle.standard.specs.declared.Switches.{Switches}
use Rattle.standard.specs.Sets.{switches_in, four, Valid, component_of}
use Rattle.standard.specs.Samples.{Parameters}

-- how many bytes a set has, and how many an entry of the table has
abbrev pub set_size : ℕ
set_size = 18

abbrev pub entry_size : ℕ
entry_size = set_size

abbrev pub offset_byte : ℤ → ℕ
offset_byte (pos n) = 128 + n
offset_byte (negsuc n) = 127 - n

abbrev pub offset_bytes : Four ℤ → List ℕ
offset_bytes o = offset_byte o.o1 ∷ offset_byte o.o2 ∷ offset_byte o.o3 ∷ offset_byte o.o4 ∷ []

unfoldable pub encode_offsets : Offsets → List ℕ
encode_offsets Off = 0 ∷ 0 ∷ 0 ∷ 0 ∷ 0 ∷ 0 ∷ []
encode_offsets (Band position o) = 1 ∷ position ∷ offset_bytes o
encode_offsets (Edge class o) = 2 ∷ class ∷ offset_bytes o

unfoldable pub encode : CtuSet → List ℕ
encode q = encode_offsets q.luma ++ (encode_offsets q.cb ++ encode_offsets q.cr)

-- an entry: the bytes of its set
unfoldable pub encode_entry : CtuSet → List ℕ
encode_entry q = encode q

-- the bytes of CTU k, and the table with a set put there
unfoldable pub entry : List ℕ → ℕ → List ℕ
entry table k = take entry_size (drop (entry_size * k) table)

unfoldable pub entered : List ℕ → ℕ → CtuSet → List ℕ
entered table k q = take (entry_size * k) table ++ (encode_entry q ++ drop (entry_size * k + entry_size) table)

-- an entry is sound exactly if it is the encoding of a set within the rules
pub record Sound (s : Switches) (table : List ℕ) (k : ℕ) : Type 0 where
  pub set : CtuSet
  pub rules : Valid s set
  pub bytes : entry table k ≡ encode_entry set

-- what the syntax of CTU k, whose set is in, depended on
unfoldable pub switches_at : Picture → List ℕ → ℕ → Switches
switches_at p table k = switches_in p

-- ---- the set that an entry says; bytes that encode no set say some set or other, and are not sound

abbrev pub offsets_by : ℕ → ℕ → Four ℤ → Offsets
offsets_by zero a o = Off
offsets_by (suc zero) a o = Band a o
offsets_by (suc (suc n)) a o = Edge a o

abbrev pub offset_of : ℕ → ℤ
offset_of byte = sub_ℕ byte 128

unfoldable pub decode_offsets : List ℕ → Offsets
decode_offsets e =
    offsets_by (get_or e 0 0) (get_or e 1 0) (four (offset_of (get_or e 2 0)) (offset_of (get_or e 3 0)) (offset_of (get_or e 4 0)) (offset_of (get_or e 5 0)))

unfoldable pub decode : List ℕ → CtuSet
decode e = record { luma = decode_offsets e; cb = decode_offsets (drop 6 e); cr = decode_offsets (drop 12 e) }

unfoldable pub stored : List ℕ → ℕ → CtuSet
stored table k = decode (entry table k)

-- the picture's parameters, as far as they are in
abbrev pub parameters_in : List ℕ → Parameters
parameters_in table = record { sets = stored table }

-- the set of component i of CTU k
abbrev pub offsets_at : List ℕ → ℕ → ℕ → Offsets
offsets_at table i k = component_of (stored table k) i

-- the set of a neighbour, where there is one
abbrev pub stored_at : List ℕ → Option ℕ → Option CtuSet
stored_at table none = none
stored_at table (some k) = some (stored table k)
