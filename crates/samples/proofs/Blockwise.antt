-- Where comparing goes by blocks, eight answers about blocks are right for every sample of a CTB.
use mathlib.Core.Path.{◌≡◌, refl, sym, ap, ap₂, ◌∙◌, subst}
use mathlib.Core.Bool.{Bool, true, false, ◌&&◌}
use Prim.Native.Nat.{ℕ, zero, suc, ◌+◌, ◌-◌, ◌*◌, ◌/◌, ◌%◌, ◌≤◌, ◌<◌, min}
use native.Mathlib.Nat.{div-eq_of_lt-le}
use native.Mathlib.Decide.{dec_lt}
use native.Mathlib.Omega.{arith}
use lib.IntN.{ℤ, pos, negsuc, nat_abs, ◌+ℤ◌}
use Rattle.standard.specs.declared.Picture.{Picture}
use Rattle.standard.specs.Picture.{Rules, plane_width, plane_height, ctb_width, ctb_height, columns, ctu_count, Inside, rectangle}
use Rattle.standard.specs.Sets.{NotNegative}
use Rattle.standard.specs.Samples.{Step, steps_of, in_picture}
use Rattle.standard.proofs.Counting.{in_place}
use Rattle.standard.proofs.Divisors.{ctb_width_lem, ctb_height_lem}
use Rattle.standard.proofs.Grid.{ends, inside_ctb}
use Rattle.standard.proofs.Rasters.{down, up}
use Rattle.standard.proofs.Seeing.{Short, steps_short}
use Rattle.samples.specs.declared.Around.{Around}
use Rattle.samples.specs.Around.{side_of, answered, Agrees}
use Rattle.samples.specs.Blockwise.{block_context, shifted, ctb_on, RightBlocks}
use Rattle.samples.proofs.Reach.{place_across, place_down}
use Rattle.samples.proofs.Sides.{minus_one, back_first, back_later, stay, on_last, on_earlier}
use Rattle.samples.proofs.Picture.{side_there, both_sides}

-- ---- one side of the grid: block c, of size s, cut at n

some_of : (c s : ℕ) → 0 < c * s → 0 < c
some_of zero s h = absurd (omega arith)
some_of (suc c) s h = omega arith

module _ (n s c x : ℕ) (size : 0 < s) (h : c * s ≤ x) (k : x < min (c * s + s) n) where
  abbrev end : ℕ
  end = min (c * s + s) n

  -- what is in the block
  in_block : (z : ℕ) → c * s ≤ z → z < end → z / s ≡ c
  in_block z a b = div-eq_of_lt-le s a (omega (arith, down c s))

  back_block : Dec (c * s < x) → Dec (0 < x) → NotNegative (pos x +ℤ negsuc 0) → nat_abs (pos x +ℤ negsuc 0) / s ≡ shifted c (side_of (c * s) end (pos x +ℤ negsuc 0))
  back_block (yes p) q t =
      ap (λ (z : ℤ). nat_abs z / s) (minus_one x (omega arith)) ∙ in_block (x - 1) (omega arith) (omega arith) ∙ sym (ap (shifted c) (back_later (c * s) end x p k))
  back_block (no p) (yes q) t =
      let o : 0 < c = some_of c s (omega arith) in
      let e : c - 1 + 1 ≡ c = omega arith in
      let f : (c - 1 + 1) * s ≡ c * s = ap (λ (m : ℕ). m * s) e in
      ap (λ (z : ℤ). nat_abs z / s) (minus_one x q) ∙ div-eq_of_lt-le s (omega (arith, up c s o)) (omega (arith, up c s o))
      ∙ sym (ap (shifted c) (back_first (c * s) end x (omega arith)))
  back_block (no p) (no q) t = let e : x ≡ 0 = omega arith in absurd (subst (λ (m : ℕ). NotNegative (pos m +ℤ negsuc 0)) e t)

  on_block : Dec (x + 1 < end) → x + 1 < n → (x + 1) / s ≡ shifted c (side_of (c * s) end (pos x +ℤ pos 1))
  on_block (yes p) l = in_block (x + 1) (omega arith) p ∙ sym (ap (shifted c) (on_earlier (c * s) end x h p))
  on_block (no p) l =
      div-eq_of_lt-le s (omega (arith, down c s)) (omega (arith, down c s, down (c + 1) s)) ∙ sym (ap (shifted c) (on_last (c * s) end x h (omega arith)))

  side_block : (d : ℤ) → nat_abs d ≤ 1 → NotNegative (pos x +ℤ d) → nat_abs (pos x +ℤ d) < n
      → nat_abs (pos x +ℤ d) / s ≡ shifted c (side_of (c * s) end (pos x +ℤ d))
  side_block (pos zero) m t l = in_block (x + 0) (omega arith) (omega arith) ∙ sym (ap (shifted c) (stay (c * s) end x h k))
  side_block (pos (suc zero)) m t l = on_block (dec_lt (x + 1) end) l
  side_block (pos (suc (suc d))) m t l = absurd (omega arith)
  side_block (negsuc zero) m t l = back_block (dec_lt (c * s) x) (dec_lt 0 x) t
  side_block (negsuc (suc d)) m t l = absurd (omega arith)

-- ---- a CTB

guarded : (t : Bool) {a b : Bool} → (t ≡ true → a ≡ b) → (t && a) ≡ (t && b)
guarded true e = e refl
guarded false e = refl

module _ {p : Picture} (rules : Rules p) (i k : ℕ) (l : k < ctu_count p) (may : ℕ → ℕ → Bool) (o : Around) (right : RightBlocks p i k may o) where
  says : (x y : ℕ) → Inside (rectangle p i k) x y → (s : Step) → Short s
      → (block_context p i may).counts x y (pos x +ℤ s.h) (pos y +ℤ s.v) ≡ answered o (rectangle p i k) (pos x +ℤ s.h) (pos y +ℤ s.v)
  unfolding answered rectangle
  says x y j s short =
      let r = rectangle p i k in
      let w = ctb_width_lem rules i in
      let h = ctb_height_lem rules i in
      let e = ends rules i l in
      let u = pos x +ℤ s.h in
      let v = pos y +ℤ s.v in
      guarded (in_picture (plane_width p i) (plane_height p i) u v)
      (λ t.
      let q = in_place (plane_width p i) (plane_height p i) u v t in
      ap₂ may (inside_ctb rules i k j).2
      (ap₂ (λ (m n : ℕ). m * columns p + n)
      (side_block (plane_height p i) (ctb_height p i) (k / columns p) y (omega arith) j.1.0 j.1.1 s.v short.down (place_down q) q.1)
      (side_block (plane_width p i) (ctb_width p i) (k % columns p) x (omega arith) j.0.0 j.0.1 s.h short.across (place_across q) q.0)))
      ∙ sym (right _ _
      ∙ ap (λ (t : Bool). t && may k (ctb_on p k (side_of r.x0 r.x1 u) (side_of r.y0 r.y1 v)))
      (ap₂ (λ (a b : Bool). a && b) (side_there (plane_width p i) r.x0 r.x1 x j.0.0 j.0.1 e.right s.h short.across)
      (side_there (plane_height p i) r.y0 r.y1 y j.1.0 j.1.1 e.bottom s.v short.down)
      ∙ both_sides (plane_width p i) (plane_height p i) u v))

  pub blocks_agree : Agrees (block_context p i may) (rectangle p i k) o
  blocks_agree = record {
    counts = λ x y j class h. (says x y j (steps_of class).0 (steps_short class).0, says x y j (steps_of class).1 (steps_short class).1);
    kept = λ x y j. refl;
  }
