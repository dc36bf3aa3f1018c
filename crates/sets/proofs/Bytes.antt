-- A component's six bytes: what they say by their type, what encodes a component, and three of them in a row.
use mathlib.Core.Path.{◌≡◌, refl, sym, ap, ap₂, ◌∙◌}
use mathlib.Core.List.{List, [], ◌++◌, append-nil}
use Prim.Native.Nat.{ℕ, zero, suc, ◌≤◌, ◌<◌}
use native.Mathlib.Omega.{arith}
use lib.IntN.{ℤ, pos, negsuc, nat_abs}
use lib.Signed.{mag}
use lib.ListN.{take, drop}
use lib.Seq.{take_at, drop_at}
use Rattle.standard.specs.declared.Four.{Four}
use Rattle.standard.specs.declared.Offsets.{Offsets}
use Rattle.standard.specs.declared.Offsets.TheVariants.{Off, Band, Edge}
use Rattle.standard.specs.declared.CtuSet.{CtuSet}
use Rattle.standard.specs.declared.Switches.{Switches}
use Rattle.standard.specs.Sets.{Small, Valid}
use Rattle.standard.specs.Table.{offsets_by, encode_offsets, decode_offsets, encode, decode}
use Rattle.standard.proofs.Entries.{ByteOffsets, offsets_back, offsets_length, decode_whole, valid_bytes}
use Rattle.sets.specs.declared.Six.{Six}
use Rattle.sets.specs.declared.SetBytes.{SetBytes}
use Rattle.sets.specs.Entries.{list_of, offsets_in, says, set_of, Coded, Codes}

-- ---- what six bytes say, by their type

pub says_off : (s : Six) → s.kind ≡ 0 → says s ≡ Off
unfolding decode_offsets
says_off s e = ap (λ (n : ℕ). offsets_by n s.place (offsets_in s.offsets)) e

pub says_band : (s : Six) → s.kind ≡ 1 → says s ≡ Band s.place (offsets_in s.offsets)
unfolding decode_offsets
says_band s e = ap (λ (n : ℕ). offsets_by n s.place (offsets_in s.offsets)) e

pub says_edge : (s : Six) → 2 ≤ s.kind → says s ≡ Edge s.place (offsets_in s.offsets)
unfolding decode_offsets
says_edge s h = of s.kind h
  where
    of : (n : ℕ) → 2 ≤ n → offsets_by n s.place (offsets_in s.offsets) ≡ Edge s.place (offsets_in s.offsets)
    of zero e = absurd (omega arith)
    of (suc zero) e = absurd (omega arith)
    of (suc (suc n)) e = refl

pub off_says : (s : Six) → says s ≡ Off → s.kind ≡ 0
unfolding decode_offsets
off_says s = of s.kind
  where
    of : (n : ℕ) → offsets_by n s.place (offsets_in s.offsets) ≡ Off → n ≡ 0
    of zero e = refl
    of (suc zero) e = cc
    of (suc (suc n)) e = cc

-- for the functions that go by the type
pub ruleset by_kind = (says_off, says_band, says_edge, off_says)

-- ---- the bytes of a component say it

pub coded : (o : Offsets) (s : Six) → ByteOffsets o → list_of s ≡ encode_offsets o → Coded o s
coded o s h e =
    record { bytes = e; back = ap decode_offsets (e ∙ sym (append-nil (encode_offsets o))) ∙ offsets_back o h [] }

nat_abs_le : (o : ℤ) → mag o < 128 → nat_abs o ≤ 128
nat_abs_le (pos n) h = omega arith
nat_abs_le (negsuc n) h = omega arith

pub four_small : {o : Four ℤ} → mag o.o1 < 128 → mag o.o2 < 128 → mag o.o3 < 128 → mag o.o4 < 128 → Small 128 o
four_small {o} h1 h2 h3 h4 = record { m1 = nat_abs_le o.o1 h1; m2 = nat_abs_le o.o2 h2; m3 = nat_abs_le o.o3 h3; m4 = nat_abs_le o.o4 h4 }

-- ---- the bytes of a set

module _ (b : SetBytes) where
  abbrev pub parts : List ℕ
  parts = list_of b.luma ++ (list_of b.cb ++ list_of b.cr)

  pub parts_say : decode parts ≡ set_of b
  unfolding decode decode_offsets
  parts_say = refl

  -- they encode a set just if each encodes its component
  pub parts_code : Codes b → parts ≡ encode (set_of b)
  unfolding encode
  parts_code k = ap₂ ◌++◌ k.0 (ap₂ ◌++◌ k.1 k.2)

  pub code_parts : parts ≡ encode (set_of b) → Codes b
  unfolding encode
  code_parts e =
      let x = encode_offsets (says b.luma) in
      let y = encode_offsets (says b.cb) in
      let z = encode_offsets (says b.cr) in
      let more = ap (drop 6) e ∙ drop_at x (y ++ z) 6 (offsets_length (says b.luma)) in (
        ap (take 6) e ∙ take_at x (y ++ z) 6 (offsets_length (says b.luma)),
        ap (take 6) more ∙ take_at y z 6 (offsets_length (says b.cb)),
        ap (drop 6) more ∙ drop_at y z 6 (offsets_length (says b.cb)),
      )

  -- a set within the rules that they encode is the one that they say
  pub parts_set : {s : Switches} {q : CtuSet} → Valid s q → parts ≡ encode q → q ≡ set_of b
  parts_set {s} {q} v e = sym (decode_whole q (valid_bytes s v)) ∙ ap decode (sym e) ∙ parts_say
