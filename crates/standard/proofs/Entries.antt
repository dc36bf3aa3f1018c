-- The table: a set that is entered is found again, and the other entries are as they were. An entry decodes to the set that it encodes,
-- so no two sets have the same bytes. Both hold of sets with no magnitude above 128: every set of i8 offsets, and every set within the rules.
use mathlib.Core.Path.{◌≡◌, refl, sym, ap, ◌∙◌, subst}
use mathlib.Core.Bool.{Bool, true, false}
use mathlib.Core.List.{List, [], ◌++◌, append_assoc, append-nil}
use Prim.Native.Nat.{ℕ, ◌+◌, ◌-◌, ◌*◌, ◌≤◌, ◌<◌}
use native.Mathlib.Decide.{dec_lt}
use native.Mathlib.Omega.{arith}
use borrow.Author.Tests.{lt-ltb, le-ltb}
use lib.IntN.{ℤ, pos, negsuc, nat_abs}
use lib.ListN.{length, take, drop, length-append, length-drop, take-append-drop}
use lib.Seq.{take_at, drop_at, take-append-le, drop-append-le, drop-append-add, drop-drop, length-take-le}
use Rattle.standard.specs.declared.Four.{Four}
use Rattle.standard.specs.declared.Offsets.{Offsets}
use Rattle.standard.specs.declared.Offsets.TheVariants.{Off, Band, Edge}
use Rattle.standard.specs.declared.CtuSet.{CtuSet}
use Rattle.standard.specs.declared.Switches.{Switches}
use Rattle.standard.specs.Sets.{depth_in, most, four, Small, Fits, Shares, Ruled, Valid}
use Rattle.standard.specs.Table.{set_size, entry_size, offset_byte, offset_of, encode_offsets, encode, encode_entry, entry, entered, Sound, decode_offsets, decode, stored}
use Rattle.standard.proofs.Depths.{largest_at_most_31}

-- ---- sets whose offsets a byte holds: no magnitude is above 128

abbrev pub ByteOffsets : Offsets → Type 0
ByteOffsets Off = Unit {0}
ByteOffsets (Band position o) = Small 128 o
ByteOffsets (Edge class o) = Small 128 o

pub record Bytes (q : CtuSet) : Type 0 where
  pub luma : ByteOffsets q.luma
  pub cb : ByteOffsets q.cb
  pub cr : ByteOffsets q.cr

pub fits_bytes : (m : ℕ) (c : Offsets) → m ≤ 128 → Fits m c → ByteOffsets c
fits_bytes m Off h f = tt
fits_bytes m (Band position o) h f = omega arith
fits_bytes m (Edge class o) h f = omega arith

most_bytes : (s : Switches) (i : ℕ) (c : Offsets) → Fits (most s i) c → ByteOffsets c
most_bytes s i c f = fits_bytes (most s i) c (omega (arith, largest_at_most_31 (depth_in s i))) f

off_bytes : (c : Offsets) → c ≡ Off → ByteOffsets c
off_bytes c e = subst ByteOffsets (sym e) tt

-- a component is within the rules where its switch is on, and off where not
luma_bytes : (b : Bool) (s : Switches) (c : Offsets) → Ruled b (Fits (most s 0) c) (c ≡ Off) → ByteOffsets c
luma_bytes true s c r = most_bytes s 0 c r
luma_bytes false s c r = off_bytes c r

chroma_bytes : (b : Bool) (s : Switches) (cb cr : Offsets) → Ruled b (Fits (most s 1) cb × Fits (most s 2) cr × Shares cb cr) ((cb ≡ Off) × (cr ≡ Off))
    → ByteOffsets cb × ByteOffsets cr
chroma_bytes true s cb cr r = (most_bytes s 1 cb r.0, most_bytes s 2 cr r.1)
chroma_bytes false s cb cr r = (off_bytes cb r.0, off_bytes cr r.1)

pub valid_bytes : (s : Switches) {q : CtuSet} → Valid s q → Bytes q
valid_bytes s {q} v =
    let chroma = chroma_bytes s.chroma s q.cb q.cr v.chroma in
    record { luma = luma_bytes s.luma s q.luma v.luma; cb = chroma.0; cr = chroma.1 }

-- ---- an entry, and back

pub offset_back : (o : ℤ) → nat_abs o ≤ 128 → offset_of (offset_byte o) ≡ o
offset_back (pos n) h = rw (le-ltb (128 + n) 128 (omega arith)) (ap pos (omega arith))
offset_back (negsuc n) h = rw (lt-ltb (127 - n) 128 (omega arith)) (ap negsuc (omega arith))

four_offsets_back : (o : Four ℤ) → Small 128 o
    → four (offset_of (offset_byte o.o1)) (offset_of (offset_byte o.o2)) (offset_of (offset_byte o.o3)) (offset_of (offset_byte o.o4)) ≡ o
four_offsets_back o h i = four (offset_back o.o1 h.m1 i) (offset_back o.o2 h.m2 i) (offset_back o.o3 h.m3 i) (offset_back o.o4 h.m4 i)

pub offsets_back : (c : Offsets) → ByteOffsets c → (r : List ℕ) → decode_offsets (encode_offsets c ++ r) ≡ c
unfolding decode_offsets encode_offsets
offsets_back Off h r = refl
offsets_back (Band position o) h r =
    λ i. Band position (four_offsets_back o h i)
offsets_back (Edge class o) h r =
    λ i. Edge class (four_offsets_back o h i)

pub offsets_length : (c : Offsets) → length (encode_offsets c) ≡ 6
unfolding encode_offsets
offsets_length Off = refl
offsets_length (Band position o) = refl
offsets_length (Edge class o) = refl

pub encode_length : (q : CtuSet) → length (encode q) ≡ set_size
unfolding encode
encode_length q =
    let whole = length-append (encode_offsets q.luma) (encode_offsets q.cb ++ encode_offsets q.cr) in
    let chroma = length-append (encode_offsets q.cb) (encode_offsets q.cr) in
    omega (arith, offsets_length q.luma, offsets_length q.cb, offsets_length q.cr)

-- three parts of six, one after the other
module _ (a b c r : List ℕ) (la : length a ≡ 6) (lb : length b ≡ 6) where
  second : drop 6 (a ++ (b ++ (c ++ r))) ≡ b ++ (c ++ r)
  second = drop_at a (b ++ (c ++ r)) 6 la

  third : drop 12 (a ++ (b ++ (c ++ r))) ≡ c ++ r
  third = sym (drop-drop 6 6 (a ++ (b ++ (c ++ r)))) ∙ ap (drop 6) second ∙ drop_at b (c ++ r) 6 lb

encode_parts : (q : CtuSet) (r : List ℕ) → encode q ++ r ≡ encode_offsets q.luma ++ (encode_offsets q.cb ++ (encode_offsets q.cr ++ r))
unfolding encode
encode_parts q r = simp append_assoc

pub decode_encode : (q : CtuSet) → Bytes q → (r : List ℕ) → decode (encode q ++ r) ≡ q
unfolding decode
decode_encode q h r = ap decode (encode_parts q r) ∙ λ i. record {
  luma = offsets_back q.luma h.luma (b ++ (c ++ r)) i;
  cb = (ap decode_offsets (second a b c r la lb) ∙ offsets_back q.cb h.cb (c ++ r)) i;
  cr = (ap decode_offsets (third a b c r la lb) ∙ offsets_back q.cr h.cr r) i;
}
  where
    a : List ℕ
    a = encode_offsets q.luma

    b : List ℕ
    b = encode_offsets q.cb

    c : List ℕ
    c = encode_offsets q.cr

    la : length a ≡ 6
    la = offsets_length q.luma

    lb : length b ≡ 6
    lb = offsets_length q.cb

pub decode_whole : (q : CtuSet) → Bytes q → decode (encode q) ≡ q
decode_whole q h = ap decode (sym (append-nil (encode q))) ∙ decode_encode q h []

pub encode_injective : (p q : CtuSet) → Bytes p → Bytes q → encode p ≡ encode q → p ≡ q
encode_injective p q hp hq e = sym (decode_whole p hp) ∙ ap decode e ∙ decode_whole q hq

-- ---- an entry

pub entry_set : (q : CtuSet) → encode_entry q ≡ encode q
unfolding encode_entry
entry_set q = refl

entry_length : (q : CtuSet) → length (encode_entry q) ≡ entry_size
entry_length q = ap length (entry_set q) ∙ encode_length q

decode_entry : (q : CtuSet) → Bytes q → decode (encode_entry q) ≡ q
decode_entry q h = ap decode (entry_set q) ∙ decode_whole q h

-- ---- a sound entry says its set

pub stored_sound : {s : Switches} {table : List ℕ} {k : ℕ} (sound : Sound s table k) → stored table k ≡ sound.set
unfolding stored
stored_sound {s} sound = ap decode sound.bytes ∙ decode_entry sound.set (valid_bytes s sound.rules)

-- ---- a set entered

module _ (table : List ℕ) (k : ℕ) (q : CtuSet) (room : entry_size * k + entry_size ≤ length table) where
  front_length : length (take (entry_size * k) table) ≡ entry_size * k
  front_length = length-take-le (entry_size * k) table (omega arith)

  pub entered_length : length (entered table k q) ≡ length table
  unfolding entered
  entered_length =
      let whole = length-append (take (entry_size * k) table) (encode_entry q ++ drop (entry_size * k + entry_size) table) in
      let back = length-append (encode_entry q) (drop (entry_size * k + entry_size) table) in
      omega (arith, front_length, entry_length q, length-drop (entry_size * k + entry_size) table)

  pub entry_same : entry (entered table k q) k ≡ encode_entry q
  unfolding entry entered
  entry_same =
      ap (take entry_size) (drop_at (take (entry_size * k) table) (encode_entry q ++ drop (entry_size * k + entry_size) table) (entry_size * k) front_length)
      ∙ take_at (encode_entry q) (drop (entry_size * k + entry_size) table) entry_size (entry_length q)

  pub stored_same : Bytes q → stored (entered table k q) k ≡ q
  unfolding stored
  stored_same h = ap decode entry_same ∙ decode_entry q h

  -- an entry before lies in the part in front of k, whatever follows that part
  before : (j : ℕ) → j < k → (r : List ℕ) → take entry_size (drop (entry_size * j) (take (entry_size * k) table ++ r)) ≡ take entry_size (drop (entry_size * j) (take (entry_size * k) table))
  before j h r =
      ap (take entry_size) (drop-append-le (entry_size * j) (take (entry_size * k) table) r (omega (arith, front_length)))
      ∙ take-append-le entry_size (drop (entry_size * j) (take (entry_size * k) table)) r (omega (arith, front_length, length-drop (entry_size * j) (take (entry_size * k) table)))

  entry_before : (j : ℕ) → j < k → entry (entered table k q) j ≡ entry table j
  unfolding entry entered
  entry_before j h =
      before j h (encode_entry q ++ drop (entry_size * k + entry_size) table) ∙ sym (before j h (drop (entry_size * k) table))
      ∙ ap (λ (l : List ℕ). take entry_size (drop (entry_size * j) l)) (take-append-drop (entry_size * k) table)

  -- what comes after is as it was
  entered_after : (n : ℕ) → drop (entry_size * k + entry_size + n) (entered table k q) ≡ drop (entry_size * k + entry_size + n) table
  unfolding entered
  entered_after n =
      ap (drop (entry_size * k + entry_size + n)) (sym (append_assoc (take (entry_size * k) table) (encode_entry q) (drop (entry_size * k + entry_size) table)))
      ∙ ap (λ (m : ℕ). drop (m + n) (head ++ drop (entry_size * k + entry_size) table)) (sym head_length)
      ∙ drop-append-add head (drop (entry_size * k + entry_size) table) n
      ∙ drop-drop n (entry_size * k + entry_size) table
    where
      head : List ℕ
      head = take (entry_size * k) table ++ encode_entry q

      head_length : length head ≡ entry_size * k + entry_size
      head_length = omega (arith, length-append (take (entry_size * k) table) (encode_entry q), front_length, entry_length q)

  entry_after : (j : ℕ) → k < j → entry (entered table k q) j ≡ entry table j
  unfolding entry
  entry_after j h =
      let e : entry_size * k + entry_size + (entry_size * j - (entry_size * k + entry_size)) ≡ entry_size * j = omega arith in
      ap (take entry_size) (rw e at (entered_after (entry_size * j - (entry_size * k + entry_size))))

  pub entry_other : (j : ℕ) → ¬ (j ≡ k) → entry (entered table k q) j ≡ entry table j
  entry_other j other = go (dec_lt j k)
    where
      go : Dec (j < k) → entry (entered table k q) j ≡ entry table j
      go (yes h) = entry_before j h
      go (no h) = entry_after j (omega arith)

  pub stored_other : (j : ℕ) → ¬ (j ≡ k) → stored (entered table k q) j ≡ stored table j
  unfolding stored
  stored_other j other = ap decode (entry_other j other)

  pub sound_same : {s : Switches} → Valid s q → Sound s (entered table k q) k
  sound_same valid = record { set = q; rules = valid; bytes = entry_same }

  pub sound_other : {s : Switches} (j : ℕ) → ¬ (j ≡ k) → Sound s table j → Sound s (entered table k q) j
  sound_other j other sound = record { set = sound.set; rules = sound.rules; bytes = entry_other j other ∙ sound.bytes }
