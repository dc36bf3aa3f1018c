-- The algebra of `Written` over rectangles, point by point: one rectangle after another, some rows or some columns more,
-- another name for the same samples, a lent part of a row.
use mathlib.Core.Path.{◌≡◌, sym, ap, ap₂, ◌∙◌}
use mathlib.Core.List.{List, ◌++◌}
use mathlib.Core.Logic.{◌⊎◌, inl, inr, ⊎_elim}
use Prim.Native.Nat.{ℕ, ◌+◌, ◌-◌, ◌*◌, ◌≤◌, ◌<◌}
use native.Mathlib.Decide.{dec_lt}
use native.Mathlib.Omega.{arith}
use lib.ListN.{length, get_or, take, drop, length-drop}
use lib.Seq.{length-take-le, get_or-take, get_or-drop}
use Rattle.std.proofs.lemmas.List.{get_or_append_left, get_or-append_right}
use borrow.Rule.Slice.PartMut.{mid_of, post_of, put_mid, same_len_mid}
use Rattle.standard.specs.declared.Rectangle.{Rectangle}
use Rattle.standard.specs.Picture.{Inside}
use Rattle.standard.specs.Samples.{at}
use Rattle.standard.specs.Calls.{Written}
use Rattle.standard.proofs.Rasters.{index_lt, same_place, inside?}
use Rattle.planes.specs.Places.{block, row, Filled}

module _ {w h : ℕ} {f : ℕ → ℕ → ℕ} where
  -- ---- other names

  pub same_samples : {g : ℕ → ℕ → ℕ} {r : Rectangle} {o o' : List ℕ} → ((x y : ℕ) → x < w → y < h → Inside r x y → f x y ≡ g x y) → Written w h r f o o' → Written w h r g o o'
  same_samples e k = record {
    long = k.long;
    inside = λ x y p q i. k.inside x y p q i ∙ e x y p q i;
    outside = k.outside;
  }

  -- ---- one rectangle after another

  -- r and then s, which together have the places of t
  pub one_then : {r s t : Rectangle} {o o' o'' : List ℕ} → ((x y : ℕ) → Inside r x y → Inside t x y) → ((x y : ℕ) → Inside s x y → Inside t x y)
      → ((x y : ℕ) → Inside t x y → Inside r x y ⊎ Inside s x y) → Written w h r f o o' → Written w h s f o' o'' → Written w h t f o o''
  one_then {r} {s} {t} {o} {o'} {o''} left right parts k m = record {
    long = m.long ∙ k.long;
    inside = λ x y p q i. ⊎_elim (λ j. at_first x y p q j (inside? s x y)) (λ j. m.inside x y p q j) (parts x y i);
    outside = λ x y p q i. m.outside x y p q (λ j. i (right x y j)) ∙ k.outside x y p q (λ j. i (left x y j));
  }
    where
      at_first : (x y : ℕ) → x < w → y < h → Inside r x y → Dec (Inside s x y) → at o'' w x y ≡ f x y
      at_first x y p q j (yes i) = m.inside x y p q i
      at_first x y p q j (no n) = m.outside x y p q n ∙ k.inside x y p q j

  -- rows y0 to y1 and then y1 to y2
  pub rows_then : (x0 x1 y0 y1 y2 : ℕ) {o o' o'' : List ℕ} → y0 ≤ y1 → y1 ≤ y2
      → Written w h (block x0 x1 y0 y1) f o o' → Written w h (block x0 x1 y1 y2) f o' o'' → Written w h (block x0 x1 y0 y2) f o o''
  rows_then x0 x1 y0 y1 y2 a b = one_then (λ x y k. omega arith) (λ x y k. omega arith) (λ x y k. go x y k (dec_lt y y1))
    where
      go : (x y : ℕ) → Inside (block x0 x1 y0 y2) x y → Dec (y < y1) → Inside (block x0 x1 y0 y1) x y ⊎ Inside (block x0 x1 y1 y2) x y
      go x y k (yes l) = inl (omega arith)
      go x y k (no n) = inr (omega arith)

  -- columns x0 to x1 and then x1 to x2
  pub columns_then : (x0 x1 x2 y0 y1 : ℕ) {o o' o'' : List ℕ} → x0 ≤ x1 → x1 ≤ x2
      → Written w h (block x0 x1 y0 y1) f o o' → Written w h (block x1 x2 y0 y1) f o' o'' → Written w h (block x0 x2 y0 y1) f o o''
  columns_then x0 x1 x2 y0 y1 a b = one_then (λ x y k. omega arith) (λ x y k. omega arith) (λ x y k. go x y k (dec_lt x x1))
    where
      go : (x y : ℕ) → Inside (block x0 x2 y0 y1) x y → Dec (x < x1) → Inside (block x0 x1 y0 y1) x y ⊎ Inside (block x1 x2 y0 y1) x y
      go x y k (yes l) = inl (omega arith)
      go x y k (no n) = inr (omega arith)

-- ---- a part of a row, lent and written, is a rectangle of one row written

-- sample j of the k samples from a on
pub mid_get : (a k j : ℕ) (xs : List ℕ) → j < k → get_or (mid_of a k xs) j 0 ≡ get_or xs (a + j) 0
mid_get a k j xs h = get_or-take k (drop a xs) j 0 h ∙ get_or-drop a xs j 0

pub mid_long : (a k : ℕ) (xs : List ℕ) → a + k ≤ length xs → length (mid_of a k xs) ≡ k
mid_long a k xs h = length-take-le k (drop a xs) (omega (arith, length-drop a xs))

module _ (a k : ℕ) (xs ys : List ℕ) (fit : a + k ≤ length xs) (long : length ys ≡ k) where
  front : length (take a xs) ≡ a
  front = length-take-le a xs (omega arith)

  put_before : (i : ℕ) → i < a → get_or (put_mid a k xs ys) i 0 ≡ get_or xs i 0
  put_before i h = get_or_append_left (take a xs) (ys ++ post_of a k xs) 0 i (omega (arith, front)) ∙ get_or-take a xs i 0 h

  put_in : (i j : ℕ) → i ≡ a + j → j < k → get_or (put_mid a k xs ys) i 0 ≡ get_or ys j 0
  put_in i j e h =
      let f : i - a ≡ j = omega arith in
      get_or-append_right (take a xs) (ys ++ post_of a k xs) a i 0 front (omega arith)
      ∙ ap (λ (n : ℕ). get_or (ys ++ post_of a k xs) n 0) f
      ∙ get_or_append_left ys (post_of a k xs) 0 j (omega arith)

  put_after : (i : ℕ) → a + k ≤ i → get_or (put_mid a k xs ys) i 0 ≡ get_or xs i 0
  put_after i h =
      let e : a + (k + (i - a - k)) ≡ i = omega arith in
      get_or-append_right (take a xs) (ys ++ post_of a k xs) a i 0 front (omega arith)
      ∙ get_or-append_right ys (post_of a k xs) k (i - a) 0 long (omega arith)
      ∙ get_or-drop k (drop a xs) (i - a - k) 0
      ∙ get_or-drop a xs (k + (i - a - k)) 0
      ∙ ap (λ (n : ℕ). get_or xs n 0) e

-- the part from i on, k samples long, of columns x0 to x1 of row y
module _ (w h x0 x1 y i k : ℕ) (le : x0 < x1) (ri : x1 ≤ w) (yh : y < h) (ei : i ≡ y * w + x0) (ek : k ≡ x1 - x0) where
  pub part_end : i + k ≤ w * h
  part_end = omega (arith, index_lt {w = w} {h = h} {x = x1 - 1} {y = y} (omega arith) yh)

  pub part_fits : (l : List ℕ) → length l ≡ w * h → i + k ≤ length l
  part_fits l e = omega (arith, part_end)

  -- sample j of that part
  pub part_get : (l : List ℕ) (j : ℕ) → j < k → get_or (mid_of i k l) j 0 ≡ at l w (x0 + j) y
  part_get l j q = mid_get i k j l q ∙ ap (λ (n : ℕ). get_or l n 0) (omega arith)

  pub part_written : {f : ℕ → ℕ} {g : ℕ → ℕ → ℕ} (o p : List ℕ) → length o ≡ w * h → Filled (length (mid_of i k o)) f (mid_of i k o) p
      → ((j : ℕ) → j < k → f j ≡ g (x0 + j) y) → Written w h (row x0 x1 y) g o (put_mid i k o p)
  part_written {f} {g} o p lo fl same = record {
    long = same_len_mid i k o p fl.long;
    inside = λ x v r s b. in_part x v r s b;
    outside = λ x v r s b. off_part x v r s b (dec_lt (v * w + x) i) (dec_lt (v * w + x) (i + k));
  }
    where
      fit : i + k ≤ length o
      fit = omega (arith, part_end)

      lp : length p ≡ k
      lp = fl.long ∙ mid_long i k o fit

      in_part : (x v : ℕ) → x < w → v < h → Inside (row x0 x1 y) x v → at (put_mid i k o p) w x v ≡ g x v
      in_part x v r s b =
          let ev : v ≡ y = omega (arith, b.1.0, b.1.1) in
          let ex : x0 + (x - x0) ≡ x = omega (arith, b.0.0) in
          let jk : x - x0 < k = omega (arith, b.0.0, b.0.1) in
          let ep : v * w + x ≡ i + (x - x0) = ap (λ (m : ℕ). m * w + x) ev ∙ omega (arith, b.0.0) in
          put_in i k o p fit lp (v * w + x) (x - x0) ep jk ∙ fl.each (x - x0) (omega (arith, mid_long i k o fit)) ∙ same (x - x0) jk
          ∙ ap₂ g ex (sym ev)

      off_part : (x v : ℕ) → x < w → v < h → ¬ Inside (row x0 x1 y) x v → Dec (v * w + x < i) → Dec (v * w + x < i + k) → at (put_mid i k o p) w x v ≡ at o w x v
      off_part x v r s b (yes c) d = put_before i k o p fit lp (v * w + x) c
      off_part x v r s b (no c) (no d) = put_after i k o p fit lp (v * w + x) (omega arith)
      off_part x v r s b (no c) (yes d) =
          let ex : v * w + x ≡ y * w + (v * w + x - y * w) = omega arith in
          let sp = same_place {w = w} {x = x} {x' = v * w + x - y * w} v y r (omega arith) ex in
          absurd (b ((omega (arith, sp.0), omega (arith, sp.0)), (omega (arith, sp.1), omega (arith, sp.1))))
