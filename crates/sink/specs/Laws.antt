-- Bytes and a count keep the laws of what takes bins. The proofs stand here, since an impl cites none of its own crate's proofs.
use mathlib.Core.Path.{◌≡◌, refl, sym, ap, ap₂, ◌∙◌}
use mathlib.Core.Bool.{Bool}
use mathlib.Core.List.{List, [], ◌∷◌, ◌++◌, append_assoc, append-nil}
use Prim.Native.Nat.{ℕ, ◌+◌, ◌-◌, ◌*◌, ◌/◌, ◌≤◌}
use native.Mathlib.Nat.{add-zero}
use native.Mathlib.Omega.{arith}
use lib.ListN.{length, drop, length-append}
use lib.Seq.{drop-append-add, drop-drop, length-take-le}
use Rattle.standard.specs.Bins.{bits_of, bins_of, bytes_of, packed}
use Rattle.standard.proofs.Packed.{bits_length, bytes_length, packed_back}
use Rattle.sink.specs.Puts.{Room, placed, Puts}
use Rattle.sink.specs.Sinks.{SinkLaws, has_bytes, PutInto, can_count, Counted}

-- ---- packed bins

-- what is packed over fewer bins does not see them
packed_packed : (w v : List Bool) (l : List ℕ) → length v ≤ length w → packed w (packed v l) ≡ packed w l
unfolding packed
packed_packed w v l h =
    let n : ℕ = (length w + 7) / 8 in
    let m : ℕ = (length v + 7) / 8 in
    let e : n ≡ length (bytes_of m v) + (n - m) = omega (arith, bytes_length m v) in
    let s : m + (n - m) ≡ n = omega arith in
    ap (λ (r : List ℕ). bytes_of n w ++ r)
    (ap (λ (k : ℕ). drop k (bytes_of m v ++ drop m l)) e
    ∙ drop-append-add (bytes_of m v) (drop m l) (n - m)
    ∙ drop-drop (n - m) m l
    ∙ ap (λ (k : ℕ). drop k l) s)

bins_length : (l : List ℕ) (at : ℕ) → at ≤ 8 * length l → length (bins_of l at) ≡ at
unfolding bins_of
bins_length l at h = length-take-le at (bits_of l) (omega (arith, bits_length l))

-- over bins that are packed, more are packed as after them
packed_more : (w b : List Bool) (l : List ℕ) (n : ℕ) → length w ≡ n → packed (bins_of (packed w l) n ++ b) (packed w l) ≡ packed (w ++ b) l
packed_more w b l n e =
    ap (λ (r : List Bool). packed (r ++ b) (packed w l)) (ap (bins_of (packed w l)) (sym e) ∙ packed_back w l)
    ∙ packed_packed (w ++ b) w l (omega (arith, length-append w b))

placed_then : (at : ℕ) (a b : List Bool) (l : List ℕ) → at ≤ 8 * length l → placed (at + length a) b (placed at a l) ≡ placed at (a ++ b) l
unfolding placed
placed_then at [] b l h = ap (λ (n : ℕ). placed n b l) (add-zero at)
placed_then at (x ∷ a) [] l h = ap (λ (w : List Bool). packed (bins_of l at ++ (x ∷ w)) l) (sym (append-nil a))
placed_then at (x ∷ a) (y ∷ b) l h =
    let w : List Bool = bins_of l at ++ (x ∷ a) in
    packed_more w (y ∷ b) l (at + length (x ∷ a)) (length-append (bins_of l at) (x ∷ a) ∙ ap (λ (n : ℕ). n + length (x ∷ a)) (bins_length l at h))
    ∙ ap (λ (v : List Bool). packed v l) (append_assoc (bins_of l at) (x ∷ a) (y ∷ b))

-- ---- puts

pub puts_none : (at : ℕ) (l : List ℕ) → Puts at [] l l at
unfolding placed
puts_none at l = record { moved = sym (add-zero at); long = refl; bytes = λ room. refl }

room_fewer : {at n j : ℕ} {l : List ℕ} → j ≤ n → Room at n l → Room at j l
room_fewer h r = record { fits = omega (arith, h, r.fits); small = omega (arith, h, r.small) }

room_left : {at next n : ℕ} {a : List Bool} {l0 l1 : List ℕ} → Room at (length a + n) l0 → Puts at a l0 l1 next → Room next n l1
room_left r p = record { fits = omega (arith, r.fits, p.moved, p.long); small = omega (arith, r.small, p.moved) }

pub puts_then : {at : ℕ} {a b : List Bool} {l0 l1 l2 : List ℕ} {n1 n2 : ℕ} → Puts at a l0 l1 n1 → Puts n1 b l1 l2 n2 → Puts at (a ++ b) l0 l2 n2
puts_then {at} {a} {b} {l0} {l1} {l2} {n1} {n2} p q = record {
  moved = omega (arith, p.moved, q.moved, length-append a b);
  long = q.long ∙ p.long;
  bytes = λ r.
      let room : Room at (length a + length b) l0 = room_fewer (omega (arith, length-append a b)) r in
      q.bytes (room_left room p)
      ∙ ap₂ (λ (n : ℕ) (l : List ℕ). placed n b l) p.moved (p.bytes (room_fewer (omega (arith)) room))
      ∙ placed_then at a b l0 (omega (arith, r.fits));
}

-- ---- the laws

pub put_laws : SinkLaws has_bytes PutInto
put_laws = record {
  nothing = λ p. record { puts = puts_none _ _; same_bytes = refl };
  both = λ a b. record { puts = puts_then a.puts b.puts; same_bytes = b.same_bytes ∙ a.same_bytes };
  fewer = λ h r. room_fewer h r;
  left = λ r p. room_left r p.puts;
}

pub count_laws : SinkLaws can_count Counted
count_laws = record {
  nothing = λ c. sym (add-zero c.bins);
  both = λ {s} {t} {u} {a} {b} h i. omega (arith, h, i, length-append a b);
  fewer = λ h r. omega (arith, h, r);
  left = λ r h. omega (arith, r, h);
}
