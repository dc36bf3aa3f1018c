-- Bytes put into a list, and read out of it, six by six.
use mathlib.Core.Path.{◌≡◌, sym, ap, ap₂, ◌∙◌}
use mathlib.Core.List.{List, ◌++◌, append_assoc, append-nil}
use Prim.Native.Nat.{ℕ, suc, ◌+◌, ◌*◌, ◌≤◌}
use native.Mathlib.Omega.{arith}
use lib.ListN.{length, set, take, drop, length-append, drop_of_length-le}
use lib.Seq.{sets, sets-eq, take_at, drop-append-add, length-take-le, take-add, drop-drop}
use Rattle.standard.specs.declared.CtuSet.{CtuSet}
use Rattle.standard.specs.Table.{set_size, entry_size, encode, entry, entered}
use Rattle.standard.proofs.Entries.{encode_length, entry_set}
use Rattle.sets.specs.declared.Six.{Six}
use Rattle.sets.specs.declared.SetBytes.{SetBytes}
use Rattle.sets.specs.Entries.{list_of, CodedSet, put}

-- ---- put

-- bytes stored one after the other are put there
pub sets_put : (l : List ℕ) (at : ℕ) (new : List ℕ) → at + length new ≤ length l → sets l at new ≡ put l at new
sets_put l at new h = sets-eq new l at h ∙ append_assoc (take at l) new (drop (at + length new) l)

pub six_stored : (l : List ℕ) (at : ℕ) (s : Six) → at + 6 ≤ length l
    → let o = s.offsets in set (set (set (set (set (set l at s.kind) (at + 1) s.place) (at + 2) o.o1) (at + 3) o.o2) (at + 4) o.o3) (at + 5) o.o4 ≡ put l at (list_of s)
six_stored l at s h =
    let e1 : at + 1 ≡ suc at = omega arith in
    let e2 : at + 2 ≡ suc (suc at) = omega arith in
    let e3 : at + 3 ≡ suc (suc (suc at)) = omega arith in
    let e4 : at + 4 ≡ suc (suc (suc (suc at))) = omega arith in
    let e5 : at + 5 ≡ suc (suc (suc (suc (suc at)))) = omega arith in
    rw (e1, e2, e3, e4, e5) (sets_put l at (list_of s) h)

module _ (l : List ℕ) (at : ℕ) (x y : List ℕ) (room : at + length x ≤ length l) where
  abbrev front : List ℕ
  front = take at l ++ x

  front_length : length front ≡ at + length x
  front_length = omega (arith, length-append (take at l) x, length-take-le at l (omega arith))

  put_front : put l at x ≡ front ++ drop (at + length x) l
  put_front = sym (append_assoc (take at l) x (drop (at + length x) l))

  -- and then more behind them
  pub put_more : put (put l at x) (at + length x) y ≡ put l at (x ++ y)
  put_more =
      let n = at + length x in
      let rest = drop (at + length x) l in
      let e : n + length y ≡ at + length (x ++ y) = omega (arith, length-append x y) in
      let tail : drop (n + length y) (front ++ rest) ≡ drop (n + length y) l =
      ap (λ (k : ℕ). drop (k + length y) (front ++ rest)) (sym front_length) ∙ drop-append-add front rest (length y) ∙ drop-drop (length y) n l in
      ap (λ (w : List ℕ). put w n y) put_front
      ∙ ap₂ (λ (u v : List ℕ). u ++ (y ++ v)) (take_at front rest n front_length) tail
      ∙ append_assoc (take at l) x (y ++ drop (n + length y) l)
      ∙ ap (λ (w : List ℕ). take at l ++ w) (sym (append_assoc x y (drop (n + length y) l)) ∙ ap (λ (k : ℕ). (x ++ y) ++ drop k l) e)

-- three components, one behind the other
pub put_set : (l : List ℕ) (at : ℕ) (q : CtuSet) (b : SetBytes) → at + set_size ≤ length l → CodedSet q b
    → put (put (put l at (list_of b.luma)) (at + 6) (list_of b.cb)) (at + 12) (list_of b.cr) ≡ put l at (encode q)
unfolding encode
put_set l at q b h c =
    ap (λ (w : List ℕ). put w (at + 12) (list_of b.cr)) (put_more l at (list_of b.luma) (list_of b.cb) (omega arith))
    ∙ put_more l at (list_of b.luma ++ list_of b.cb) (list_of b.cr) (omega arith)
    ∙ ap (put l at) (ap₂ ◌++◌ c.luma.bytes (ap₂ ◌++◌ c.cb.bytes c.cr.bytes))

-- as an entry of the table, and where there is room for a set only
pub put_entered : (l : List ℕ) (k : ℕ) (q : CtuSet) → put l (entry_size * k) (encode q) ≡ entered l k q
unfolding entered
put_entered l k q =
    ap (λ (n : ℕ). take (entry_size * k) l ++ (encode q ++ drop (entry_size * k + n) l)) (encode_length q)
    ∙ ap (λ (e : List ℕ). take (entry_size * k) l ++ (e ++ drop (entry_size * k + entry_size) l)) (sym (entry_set q))

pub put_alone : (l : List ℕ) (q : CtuSet) → length l ≡ set_size → put l 0 (encode q) ≡ encode q
put_alone l q e = ap (λ (r : List ℕ). encode q ++ r) (drop_of_length-le l {i = 0 + length (encode q)} (omega (arith, encode_length q))) ∙ append-nil (encode q)

-- ---- read

-- an entry is its three components
pub entry_read : (l : List ℕ) (k : ℕ) → entry l k ≡ take 6 (drop (entry_size * k) l) ++ (take 6 (drop (entry_size * k + 6) l) ++ take 6 (drop (entry_size * k + 12) l))
unfolding entry
entry_read l k =
    let twelve : entry_size * k + 6 + 6 ≡ entry_size * k + 12 = omega arith in
    take-add 6 12 (drop (entry_size * k) l)
    ∙ ap (λ (w : List ℕ). take 6 (drop (entry_size * k) l) ++ w)
    (ap (take 12) (drop-drop 6 (entry_size * k) l) ∙ take-add 6 6 (drop (entry_size * k + 6) l)
    ∙ ap (λ (w : List ℕ). take 6 (drop (entry_size * k + 6) l) ++ take 6 w) (drop-drop 6 (entry_size * k + 6) l ∙ ap (λ (n : ℕ). drop n l) twelve))
