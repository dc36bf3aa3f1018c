-- One component's six bytes of an entry, bytes put into a table, and what is found there.
use Rattle.std.specs.Prelude.{◌≡◌, List, [], ◌∷◌, ◌++◌, ◌⊎◌, Option, None, Some, ℕ, ◌+◌, ℤ, pos, length, take, drop}
use Rattle.standard.specs.declared.Four.{Four}
use Rattle.standard.specs.declared.Offsets.{Offsets}
use Rattle.standard.specs.declared.Offsets.TheVariants.{Off, Band}
use Rattle.standard.specs.declared.CtuSet.{CtuSet}
use Rattle.standard.specs.declared.Switches.{Switches}
use Rattle.standard.specs.Sets.{most, four, Fits, Shares, Ruled, Valid}
use Rattle.standard.specs.Table.{offset_of, encode_offsets, decode_offsets, encode_entry, entry, Sound}
use Rattle.sets.specs.declared.Six.{Six}
use Rattle.sets.specs.declared.SetBytes.{SetBytes}

abbrev pub list_of : Six → List ℕ
list_of s = s.kind ∷ s.place ∷ s.offsets.o1 ∷ s.offsets.o2 ∷ s.offsets.o3 ∷ s.offsets.o4 ∷ []

-- the offsets of four bytes
abbrev pub offsets_in : Four ℕ → Four ℤ
offsets_in b = four (offset_of b.o1) (offset_of b.o2) (offset_of b.o3) (offset_of b.o4)

-- what they say, if anything
abbrev pub says : Six → Offsets
says s = decode_offsets (list_of s)

abbrev pub set_of : SetBytes → CtuSet
set_of b = record { luma = says b.luma; cb = says b.cb; cr = says b.cr }

-- the six bytes encode a component, and say it
pub record Coded (o : Offsets) (s : Six) : Type 0 where
  pub bytes : list_of s ≡ encode_offsets o
  pub back : says s ≡ o

-- and the bytes of a set
pub record CodedSet (q : CtuSet) (b : SetBytes) : Type 0 where
  pub luma : Coded q.luma b.luma
  pub cb : Coded q.cb b.cb
  pub cr : Coded q.cr b.cr

-- six bytes encode a component: the one that they say
abbrev pub Encodes : List ℕ → Type 0
Encodes six = six ≡ encode_offsets (decode_offsets six)

-- and each of three in a row
abbrev pub Codes : SetBytes → Type 0
Codes b = Encodes (list_of b.luma) × Encodes (list_of b.cb) × Encodes (list_of b.cr)

-- the two halves of `Valid`
abbrev pub LumaRuled : Switches → Offsets → Type 0
LumaRuled s luma = Ruled s.luma (Fits (most s 0) luma) (luma ≡ Off)

abbrev pub ChromaRuled : Switches → Offsets → Offsets → Type 0
ChromaRuled s cb cr = Ruled s.chroma (Fits (most s 1) cb × Fits (most s 2) cr × Shares cb cr) ((cb ≡ Off) × (cr ≡ Off))

-- a list with others put there, all else as it was
abbrev pub put : List ℕ → ℕ → List ℕ → List ℕ
put l at new = take at l ++ (new ++ drop (at + length new) l)

-- entry k encodes the set, which is within the rules
pub record Holds (s : Switches) (table : List ℕ) (k : ℕ) (q : CtuSet) : Type 0 where
  pub bytes : entry table k ≡ encode_entry q
  pub rules : Valid s q

-- what is found in entry k
abbrev pub Finds : Switches → List ℕ → ℕ → Option CtuSet → Type 0
Finds s table k (Some q) = Holds s table k q
Finds s table k None = ¬ Sound s table k

-- ---- six bytes, and the bytes of a set, outside a table

-- a band at a position that no set within the rules has: what bytes that encode nothing stand for
abbrev pub Unsaid : Offsets
Unsaid = Band 255 (four (pos 0) (pos 0) (pos 0) (pos 0))

abbrev pub Stands : List ℕ → Offsets → Type 0
Stands six o = (Encodes six × (o ≡ decode_offsets six)) ⊎ ((¬ Encodes six) × (o ≡ Unsaid))

-- the set of its bytes, component by component
pub record StandsFor (bytes : List ℕ) (q : CtuSet) : Type 0 where
  pub luma : Stands (take 6 bytes) q.luma
  pub cb : Stands (take 6 (drop 6 bytes)) q.cb
  pub cr : Stands (take 6 (drop 12 bytes)) q.cr
