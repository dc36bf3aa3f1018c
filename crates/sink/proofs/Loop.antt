-- The loop of `bits`: what is put so far is the number without its low bits that are left, and a part takes more of them.
use mathlib.Core.Path.{◌≡◌, sym, ap, ◌∙◌, subst}
use mathlib.Core.Bool.{Bool}
use mathlib.Core.List.{List, ◌++◌}
use Prim.Native.Nat.{ℕ, ◌+◌, ◌-◌, ◌/◌, ◌^◌, ◌≤◌}
use native.Mathlib.Omega.{arith}
use lib.Pow.{shr-shr}
use Rattle.standard.specs.Bins.{fixed_length}
use Rattle.sink.specs.Puts.{Room, Puts}
use Rattle.standard.proofs.Longest.{fixed_length_lem}
use Rattle.sink.proofs.Bits.{fixed_add}
use Rattle.sink.specs.Laws.{puts_none, puts_then}

pub none : (width value : ℕ) {at : ℕ} {l : List ℕ} → width - width ≡ 0 → Puts at (fixed_length (width - width) (value / 2 ^ width)) l l at
unfolding fixed_length
none width value {at} {l} z = rw z (puts_none at l)

pub one_part : (width left k value : ℕ) {at mid next : ℕ} {l0 l1 l2 : List ℕ} → k ≤ left → left ≤ width
    → Puts at (fixed_length (width - left) (value / 2 ^ left)) l0 l1 mid → Puts mid (fixed_length k (value / 2 ^ (left - k))) l1 l2 next
    → Puts at (fixed_length (width - (left - k)) (value / 2 ^ (left - k))) l0 l2 next
one_part width left k value {at} {mid} {next} {l0} {l1} {l2} h i p q =
    let x : ℕ = value / 2 ^ (left - k) in
    let s : left - k + k ≡ left = omega arith in
    let n : width - left + k ≡ width - (left - k) = omega arith in
    let e : fixed_length (width - left) (value / 2 ^ left) ++ fixed_length k x ≡ fixed_length (width - (left - k)) x =
    ap (λ (y : ℕ). fixed_length (width - left) y ++ fixed_length k x) (sym (shr-shr value (left - k) k ∙ ap (λ (j : ℕ). value / 2 ^ j) s))
    ∙ sym (fixed_add (width - left) k x) ∙ ap (λ (j : ℕ). fixed_length j x) n in
    subst (λ (w : List Bool). Puts at w l0 l2 next) e (puts_then p q)

-- room for the rest is room for the next part
pub room_part : (width left k x : ℕ) {at mid : ℕ} {l0 l1 : List ℕ} → k ≤ left → left ≤ width → Room at width l0 → Puts at (fixed_length (width - left) x) l0 l1 mid → Room mid k l1
room_part width left k x h i r p = record {
  fits = omega (arith, p.moved, p.long, r.fits, fixed_length_lem (width - left) x);
  small = omega (arith, p.moved, r.small, fixed_length_lem (width - left) x);
}
