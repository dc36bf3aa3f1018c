-- What the bytes of a set stand for: a set's own bytes for it, and any bytes for some set. Where six of them encode nothing, the set is not within the
-- rules and so is no copy of a neighbour's that is: no bins mean it, and write refuses it.
use mathlib.Core.Path.{◌≡◌, refl, sym, ap, ◌∙◌, subst}
use mathlib.Core.Bool.{Bool, true, false}
use mathlib.Core.List.{List, [], ◌++◌, append-nil}
use mathlib.Core.Logic.{◌⊎◌, inl, inr}
use Rattle.std.specs.Prelude.{Option, Some as some, None as none}
use Prim.Native.Nat.{ℕ, zero, suc}
use native.Mathlib.Omega.{arith}
use lib.ListN.{take, drop}
use lib.Seq.{take_at, drop_at, drop-drop}
use Rattle.standard.specs.declared.Offsets.{Offsets}
use Rattle.standard.specs.declared.Offsets.TheVariants.{Off}
use Rattle.standard.specs.declared.CtuSet.{CtuSet}
use Rattle.standard.specs.declared.State.{State}
use Rattle.standard.specs.Picture.{merge_left, merge_up}
use Rattle.standard.specs.declared.Switches.{Switches}
use Rattle.standard.specs.Sets.{switches_of, most, Fits, Shares, Ruled, Valid, all_off}
use Rattle.standard.specs.Means.{no_bins, merged_left, merged_up, in_full}
use Rattle.standard.specs.Table.{encode_offsets, decode_offsets, encode, stored, stored_at}
use Rattle.standard.specs.Reasons.{NeighbourOutsideTheRules, NoBinsMeanThisSet}
use Rattle.standard.proofs.Decisions.{differ}
use Rattle.standard.proofs.Granted.{may_write}
use Rattle.standard.proofs.Judging.{same_bytes?}
use Rattle.standard.proofs.Entries.{ByteOffsets, Bytes, offsets_back, offsets_length, stored_sound}
use Rattle.sets.specs.Entries.{Unsaid, Encodes, Stands, StandsFor}
use Rattle.steamgusset.specs.Boundary.{state_of}
use Rattle.steamgusset.specs.Exports.{WriteCrosses}

-- ---- all bytes stand for a set

offsets_some : (six : List ℕ) → (o : Offsets) × Stands six o
offsets_some six = go (same_bytes? six (encode_offsets (decode_offsets six)))
  where
    go : Dec (Encodes six) → (o : Offsets) × Stands six o
    go (yes e) = (decode_offsets six, inl (e, refl))
    go (no n) = (Unsaid, inr (n, refl))

pub stands_some : (bytes : List ℕ) → (q : CtuSet) × StandsFor bytes q
stands_some bytes =
    let luma = offsets_some (take 6 bytes) in
    let cb = offsets_some (take 6 (drop 6 bytes)) in
    let cr = offsets_some (take 6 (drop 12 bytes)) in
    (record { luma = luma.0; cb = cb.0; cr = cr.0 }, record { luma = luma.1; cb = cb.1; cr = cr.1 })

-- ---- a set's bytes stand for it

offsets_stand : (o : Offsets) (six : List ℕ) → ByteOffsets o → six ≡ encode_offsets o → Stands six o
offsets_stand o six h e =
    let back : decode_offsets six ≡ o = ap decode_offsets (e ∙ sym (append-nil (encode_offsets o))) ∙ offsets_back o h [] in
    inl (e ∙ ap encode_offsets (sym back), sym back)

pub stands_encode : (q : CtuSet) → Bytes q → StandsFor (encode q) q
unfolding encode
stands_encode q h = record {
  luma = offsets_stand q.luma (take 6 (encode q)) h.luma (take_at a (b ++ c) 6 (offsets_length q.luma));
  cb = offsets_stand q.cb (take 6 (drop 6 (encode q))) h.cb (ap (take 6) second ∙ take_at b c 6 (offsets_length q.cb));
  cr = offsets_stand q.cr (take 6 (drop 12 (encode q))) h.cr (ap (take 6) third ∙ take_at c [] 6 (offsets_length q.cr));
}
  where
    a : List ℕ
    a = encode_offsets q.luma

    b : List ℕ
    b = encode_offsets q.cb

    c : List ℕ
    c = encode_offsets q.cr

    second : drop 6 (a ++ (b ++ c)) ≡ b ++ c
    second = drop_at a (b ++ c) 6 (offsets_length q.luma)

    third : drop 12 (a ++ (b ++ c)) ≡ c ++ []
    third = sym (drop-drop 6 6 (a ++ (b ++ c))) ∙ ap (drop 6) second ∙ drop_at b c 6 (offsets_length q.cb) ∙ sym (append-nil c)

-- ---- a set outside the rules has no bins where the neighbours' sets are within them

all_off_valid : (s : Switches) → Valid s all_off
all_off_valid s = record { luma = luma s.luma; chroma = chroma s.chroma }
  where
    luma : (b : Bool) → Ruled b (Fits (most s 0) Off) (Off ≡ Off)
    luma true = tt
    luma false = refl

    chroma : (b : Bool) → Ruled b (Fits (most s 1) Off × Fits (most s 2) Off × Shares Off Off) ((Off ≡ Off) × (Off ≡ Off))
    chroma true = (tt, tt, tt)
    chroma false = (refl, refl)

-- a neighbour that has it is outside them too
neighbour_outside : (s : State) (table : List ℕ) (o : Option ℕ) (q : CtuSet) → ¬ Valid (switches_of s) q
    → stored_at table o ≡ some q → NeighbourOutsideTheRules s table o
neighbour_outside s table none q n e = differ (cc)
neighbour_outside s table (some k) q n e =
    let same : stored table k ≡ q = cc in
    λ sound. n (subst (Valid (switches_of s)) (sym (stored_sound sound) ∙ same) sound.rules)

module _ (s : State) (table : List ℕ) (q : CtuSet)
    (left : ¬ NeighbourOutsideTheRules s table (merge_left s)) (up : ¬ NeighbourOutsideTheRules s table (merge_up s)) where
  pub invalid_no_bins : ¬ Valid (switches_of s) q → NoBinsMeanThisSet s table q
  invalid_no_bins n bins (no_bins f g h) = n (subst (Valid (switches_of s)) (sym g) (all_off_valid (switches_of s)))
  invalid_no_bins n bins (merged_left f g h) = left (neighbour_outside s table (merge_left s) q n g)
  invalid_no_bins n bins (merged_up f g h) = up (neighbour_outside s table (merge_up s) q n g)
  invalid_no_bins n bins (in_full f g h) = n g

-- ---- bytes that encode nothing

-- some component of the set is what no bytes say within the rules
abbrev pub SomeUnsaid : CtuSet → Type 0
SomeUnsaid q = (q.luma ≡ Unsaid) ⊎ ((q.cb ≡ Unsaid) ⊎ (q.cr ≡ Unsaid))

-- six bytes of them encode nothing
abbrev pub SomeEncodeNothing : List ℕ → Type 0
SomeEncodeNothing bytes = (¬ Encodes (take 6 bytes)) ⊎ ((¬ Encodes (take 6 (drop 6 bytes))) ⊎ (¬ Encodes (take 6 (drop 12 bytes))))

unsaid_of : {six : List ℕ} {o : Offsets} → ¬ Encodes six → Stands six o → o ≡ Unsaid
unsaid_of n (inl s) = absurd (n s.0)
unsaid_of n (inr s) = s.1

pub nothing_unsaid : {bytes : List ℕ} {q : CtuSet} → SomeEncodeNothing bytes → StandsFor bytes q → SomeUnsaid q
nothing_unsaid (inl n) s = inl (unsaid_of n s.luma)
nothing_unsaid (inr (inl n)) s = inr (inl (unsaid_of n s.cb))
nothing_unsaid (inr (inr n)) s = inr (inr (unsaid_of n s.cr))

unsaid_unruled : (b : Bool) (m : ℕ) (o : Offsets) → o ≡ Unsaid → ¬ Ruled b (Fits m o) (o ≡ Off)
unsaid_unruled true m o e f = let g : Fits m Unsaid = subst (Fits m) e f in omega arith
unsaid_unruled false m o e f = differ (cc)

-- each half of the rule of chroma
cb_ruled : (b : Bool) (m n : ℕ) (cb cr : Offsets) → Ruled b (Fits m cb × Fits n cr × Shares cb cr) ((cb ≡ Off) × (cr ≡ Off)) → Ruled b (Fits m cb) (cb ≡ Off)
cb_ruled true m n cb cr r = r.0
cb_ruled false m n cb cr r = r.0

cr_ruled : (b : Bool) (m n : ℕ) (cb cr : Offsets) → Ruled b (Fits m cb × Fits n cr × Shares cb cr) ((cb ≡ Off) × (cr ≡ Off)) → Ruled b (Fits n cr) (cr ≡ Off)
cr_ruled true m n cb cr r = r.1
cr_ruled false m n cb cr r = r.1

pub unsaid_invalid : (s : Switches) (q : CtuSet) → SomeUnsaid q → ¬ Valid s q
unsaid_invalid s q (inl e) v = unsaid_unruled s.luma (most s 0) q.luma e v.luma
unsaid_invalid s q (inr (inl e)) v =
    unsaid_unruled s.chroma (most s 1) q.cb e (cb_ruled s.chroma (most s 1) (most s 2) q.cb q.cr v.chroma)
unsaid_invalid s q (inr (inr e)) v =
    unsaid_unruled s.chroma (most s 2) q.cr e (cr_ruled s.chroma (most s 1) (most s 2) q.cb q.cr v.chroma)

-- by reason 12 at the latest
pub unsaid_no_bins : (s : State) (table : List ℕ) (q : CtuSet)
    → ¬ NeighbourOutsideTheRules s table (merge_left s) → ¬ NeighbourOutsideTheRules s table (merge_up s)
    → SomeUnsaid q → NoBinsMeanThisSet s table q
unsaid_no_bins s table q left up e = invalid_no_bins s table q left up (unsaid_invalid (switches_of s) q e)

-- such bytes are never written
pub nothing_refused : (a set out table : List ℕ) (n r : ℕ) (a' out' table' : List ℕ) (n' : ℕ) → SomeEncodeNothing set
    → WriteCrosses a set out table n r a' out' table' n' → ¬ (r ≡ 0)
nothing_refused a set out table n zero a' out' table' n' e w z =
    let s = state_of a in
    let may = may_write s w.0 out table w.2.0.1 in
    may.set.meant (unsaid_no_bins s table w.0 may.set.left may.set.up (nothing_unsaid e w.1))
nothing_refused a set out table n (suc r) a' out' table' n' e w z = omega arith
