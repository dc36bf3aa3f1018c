-- The CTBs of a component: one grid for all components, every sample in exactly one CTB, and the ends of a CTB's rectangle and of what is
-- one sample around it.
use mathlib.Core.Path.{◌≡◌, sym, ap, ap₂, ◌∙◌, subst}
use Prim.Native.Nat.{ℕ, ◌+◌, ◌-◌, ◌*◌, ◌/◌, ◌%◌, ◌≤◌, ◌<◌, min}
use native.Mathlib.Nat.{mul-add, mul-le-mul, mul-le-mul_right, mul-add-div, div-eq_of_lt, div-eq_of_lt-le, div-div-eq-div-mul, div-lt_iff_lt-mul, div-mul-le_self, lt-div-mul-add, lt_of_lt_of_le, mul-pos, add-zero, le-div_iff_mul-le}
use native.Mathlib.Omega.{arith}
use Rattle.standard.specs.declared.Picture.{Picture}
use Rattle.standard.specs.declared.Rectangle.{Rectangle}
use Rattle.standard.specs.Picture.{Rules, plane_width, plane_height, ctb_width, ctb_height, columns, rows, ctu_count, Inside, rectangle, grown, ctb_at}
use Rattle.standard.proofs.Rasters.{down, index_lt, column_of, row_of, column_lt, row_lt, place_of}
use Rattle.standard.proofs.Divisors.{plane_width_lem, plane_height_lem, ctb_width_lem, ctb_height_lem, ctb_size}

-- ---- rounding up

abbrev ceiling : ℕ → ℕ → ℕ
ceiling n s = (n + (s - 1)) / s

-- blocks of s hold n
ceiling_holds : (n s : ℕ) → 0 < s → n ≤ ceiling n s * s
ceiling_holds n s p = let e : n + (s - 1) < (n + (s - 1)) / s * s + s = lt-div-mul-add p in omega arith

-- and none of them is empty
ceiling_needed : (n s k : ℕ) → 0 < s → k < ceiling n s → k * s < n
ceiling_needed n s k p l =
    let e : k + 1 ≤ ceiling n s = omega arith in
    omega (arith, down k s, mul-le-mul_right s e, div-mul-le_self (n + (s - 1)) s)

-- it is the same of both multiplied by d
ceiling_scaled : (d n s : ℕ) → 0 < d → 0 < s → ceiling (d * n) (d * s) ≡ ceiling n s
ceiling_scaled d n s p q = sym (div-div-eq-div-mul (d * n + (d * s - 1)) d s) ∙ ap (λ (m : ℕ). m / s) inner
  where
    split : d * n + (d * s - 1) ≡ d * (n + (s - 1)) + (d - 1)
    split =
        let e : s ≡ s - 1 + 1 = omega arith in
        let f : d * s ≡ d * (s - 1) + d * 1 = ap (λ (m : ℕ). d * m) e ∙ mul-add d (s - 1) 1 in
        omega (arith, mul-add d n (s - 1))

    inner : (d * n + (d * s - 1)) / d ≡ n + (s - 1)
    inner =
        ap (λ (m : ℕ). m / d) split ∙ mul-add-div p (n + (s - 1)) (d - 1)
        ∙ ap (λ (m : ℕ). n + (s - 1) + m) (div-eq_of_lt (omega arith)) ∙ add-zero (n + (s - 1))

ceiling_most : (n s m : ℕ) → 0 < s → n ≤ m * s → ceiling n s ≤ m
ceiling_most n s m p l =
    let f : n + (s - 1) < (m + 1) * s = omega (arith, down m s) in
    omega (arith, (div-lt_iff_lt-mul {x = n + (s - 1)} {y = m + 1} p).1 f)

ceiling_least : (n s : ℕ) → 0 < s → 0 < n → 0 < ceiling n s
ceiling_least n s p l = (le-div_iff_mul-le {k = s} {x = 1} {y = n + (s - 1)} p).1 (omega arith)

-- ---- the grid

module _ {p : Picture} (rules : Rules p) where
  pub columns_least : 0 < columns p
  columns_least = let z = ctb_size rules in let w = rules.width in ceiling_least p.width p.ctb (omega arith) (omega arith)

  pub rows_least : 0 < rows p
  rows_least = let z = ctb_size rules in let w = rules.height in ceiling_least p.height p.ctb (omega arith) (omega arith)

  pub columns_most : columns p ≤ 512
  columns_most = let z = ctb_size rules in let w = rules.width in ceiling_most p.width p.ctb 512 (omega arith) (omega arith)

  pub rows_most : rows p ≤ 512
  rows_most = let z = ctb_size rules in let w = rules.height in ceiling_most p.height p.ctb 512 (omega arith) (omega arith)

  pub count_least : 0 < ctu_count p
  count_least = mul-pos columns_least rows_least

  pub count_most : ctu_count p ≤ 262144
  count_most = mul-le-mul columns_most rows_most

  -- all components have the same columns and rows of CTBs
  pub columns_are : (i : ℕ) → columns p ≡ (plane_width p i + (ctb_width p i - 1)) / ctb_width p i
  columns_are i =
      let w = plane_width_lem rules i in
      let c = ctb_width_lem rules i in
      ap₂ ceiling (sym w.whole) (sym c.whole) ∙ ceiling_scaled _ (plane_width p i) (ctb_width p i) w.divisor (omega arith)

  pub rows_are : (i : ℕ) → rows p ≡ (plane_height p i + (ctb_height p i - 1)) / ctb_height p i
  rows_are i =
      let h = plane_height_lem rules i in
      let c = ctb_height_lem rules i in
      ap₂ ceiling (sym h.whole) (sym c.whole) ∙ ceiling_scaled _ (plane_height p i) (ctb_height p i) h.divisor (omega arith)

-- column x of row y of component i lies in CTB k, by the CTB's column and row
abbrev pub InCtb : Picture → ℕ → ℕ → ℕ → ℕ → Type 0
InCtb p i k x y = (x / ctb_width p i ≡ k % columns p) × (y / ctb_height p i ≡ k / columns p)

-- what is in block k of size s, cut at n
cut_block : (n s k x : ℕ) → (k * s ≤ x) × (x < min (k * s + s) n) → (x < n) × (x / s ≡ k)
cut_block n s k x h = (omega arith, div-eq_of_lt-le s h.0 (omega (arith, down k s)))

block_cut : (n s k x : ℕ) → 0 < s → x < n → x / s ≡ k → (k * s ≤ x) × (x < min (k * s + s) n)
block_cut n s k x p l e =
    let a : x / s * s ≤ x = div-mul-le_self x s in
    let b : x < x / s * s + s = lt-div-mul-add p in
    let f : x / s * s ≡ k * s = ap (λ (m : ℕ). m * s) e in
    (omega arith, omega arith)

-- a rectangle that is not empty, inside a plane of w by h, and at most 64 by 64
pub record Ends (w h : ℕ) (r : Rectangle) : Type 0 where
  pub some_columns : r.x0 < r.x1
  pub right : r.x1 ≤ w
  pub wide : r.x1 - r.x0 ≤ 64
  pub some_rows : r.y0 < r.y1
  pub bottom : r.y1 ≤ h
  pub high : r.y1 - r.y0 ≤ 64

-- ---- the CTBs of component i

module _ {p : Picture} (rules : Rules p) (i : ℕ) where
  -- the columns and rows of CTBs hold the plane
  pub columns_hold : plane_width p i ≤ columns p * ctb_width p i
  columns_hold =
      let w = ctb_width_lem rules i in
      rw (columns_are rules i) (ceiling_holds (plane_width p i) (ctb_width p i) (omega arith))

  pub rows_hold : plane_height p i ≤ rows p * ctb_height p i
  rows_hold =
      let h = ctb_height_lem rules i in
      rw (rows_are rules i) (ceiling_holds (plane_height p i) (ctb_height p i) (omega arith))

  pub column_lt_columns : {x : ℕ} → x < plane_width p i → x / ctb_width p i < columns p
  column_lt_columns l = let w = ctb_width_lem rules i in (div-lt_iff_lt-mul {k = ctb_width p i} (omega arith)).1 (lt_of_lt_of_le l columns_hold)

  pub row_lt_rows : {y : ℕ} → y < plane_height p i → y / ctb_height p i < rows p
  row_lt_rows l = let h = ctb_height_lem rules i in (div-lt_iff_lt-mul {k = ctb_height p i} (omega arith)).1 (lt_of_lt_of_le l rows_hold)

  -- every column and row of CTBs begins in the plane
  pub column_starts : {c : ℕ} → c < columns p → c * ctb_width p i < plane_width p i
  column_starts {c} l =
      let w = ctb_width_lem rules i in
      ceiling_needed (plane_width p i) (ctb_width p i) c (omega arith) (rw (columns_are rules i) at l)

  pub row_starts : {r : ℕ} → r < rows p → r * ctb_height p i < plane_height p i
  row_starts {r} l =
      let h = ctb_height_lem rules i in
      ceiling_needed (plane_height p i) (ctb_height p i) r (omega arith) (rw (rows_are rules i) at l)

  -- a sample is in a CTB
  pub ctb_lt : {x y : ℕ} → x < plane_width p i → y < plane_height p i → ctb_at p i x y < ctu_count p
  ctb_lt a b = index_lt (column_lt_columns a) (row_lt_rows b)

  pub ctb_pair : {k x : ℕ} (y : ℕ) → x < plane_width p i → ctb_at p i x y ≡ k → InCtb p i k x y
  ctb_pair {k} {x} y a e = (
    sym (column_of (y / ctb_height p i) (column_lt_columns a)) ∙ ap (λ (n : ℕ). n % columns p) e,
    sym (row_of (y / ctb_height p i) (column_lt_columns a)) ∙ ap (λ (n : ℕ). n / columns p) e,
  )

  -- and in one only
  pub pair_ctb : (k x y : ℕ) → InCtb p i k x y → ctb_at p i x y ≡ k
  pair_ctb k x y e = ap₂ (λ (m n : ℕ). m * columns p + n) e.1 e.0 ∙ place_of (columns p) k

  pub inside_pair : (k : ℕ) {x y : ℕ} → Inside (rectangle p i k) x y → (x < plane_width p i) × (y < plane_height p i) × InCtb p i k x y
  unfolding rectangle
  inside_pair k {x} {y} h =
      let a = cut_block (plane_width p i) (ctb_width p i) (k % columns p) x h.0 in
      let b = cut_block (plane_height p i) (ctb_height p i) (k / columns p) y h.1 in
      (a.0, b.0, (a.1, b.1))

  pub pair_inside : (k : ℕ) {x y : ℕ} → x < plane_width p i → y < plane_height p i → InCtb p i k x y → Inside (rectangle p i k) x y
  unfolding rectangle
  pair_inside k {x} {y} a b e =
      let w = ctb_width_lem rules i in
      let h = ctb_height_lem rules i in (
        block_cut (plane_width p i) (ctb_width p i) (k % columns p) x (omega arith) a e.0,
        block_cut (plane_height p i) (ctb_height p i) (k / columns p) y (omega arith) b e.1,
      )

  pub inside_ctb : (k : ℕ) {x y : ℕ} → Inside (rectangle p i k) x y → (x < plane_width p i) × (y < plane_height p i) × (ctb_at p i x y ≡ k)
  inside_ctb k {x} {y} h = let e = inside_pair k h in (e.0, e.1, pair_ctb k x y e.2)

  pub ctb_inside : {k x y : ℕ} → x < plane_width p i → y < plane_height p i → ctb_at p i x y ≡ k → Inside (rectangle p i k) x y
  ctb_inside {k} {x} {y} a b e = pair_inside k a b (ctb_pair y a e)

  pub inside_count : (k : ℕ) {x y : ℕ} → Inside (rectangle p i k) x y → k < ctu_count p
  inside_count k {x} {y} h = let e = inside_ctb k h in subst (λ (m : ℕ). m < ctu_count p) e.2 (ctb_lt e.0 e.1)

  pub ends : {k : ℕ} → k < ctu_count p → Ends (plane_width p i) (plane_height p i) (rectangle p i k)
  unfolding rectangle
  ends {k} l =
      let w = ctb_width_lem rules i in
      let h = ctb_height_lem rules i in
      let c : k % columns p < columns p = column_lt (columns p) (rows p) k l in
      let r : k / columns p < rows p = row_lt (columns p) (rows p) k l in
      let a = column_starts c in
      let b = row_starts r in
      record { some_columns = omega arith; right = omega arith; wide = omega arith; some_rows = omega arith; bottom = omega arith; high = omega arith }

-- ---- one sample around a rectangle

-- column x of row y is in r or one sample around it
abbrev pub Around : Rectangle → ℕ → ℕ → Type 0
Around r x y = ((r.x0 ≤ x + 1) × (x ≤ r.x1)) × ((r.y0 ≤ y + 1) × (y ≤ r.y1))

-- the rectangle q holds r, and a plane of w by h holds q
pub record Holds (w h : ℕ) (r q : Rectangle) : Type 0 where
  pub left : q.x0 ≤ r.x0
  pub right : r.x1 ≤ q.x1
  pub width : q.x1 ≤ w
  pub top : q.y0 ≤ r.y0
  pub bottom : r.y1 ≤ q.y1
  pub height : q.y1 ≤ h

module _ (p : Picture) (i : ℕ) {r : Rectangle} where
  pub grown_holds : r.x1 ≤ plane_width p i → r.y1 ≤ plane_height p i → Holds (plane_width p i) (plane_height p i) r (grown p i r)
  unfolding grown
  grown_holds a b = record { left = omega arith; right = omega arith; width = omega arith; top = omega arith; bottom = omega arith; height = omega arith }

  pub grown_around : {x y : ℕ} → Inside (grown p i r) x y → (x < plane_width p i) × (y < plane_height p i) × Around r x y
  unfolding grown
  grown_around h = (omega arith, omega arith, ((omega arith, omega arith), (omega arith, omega arith)))

  pub around_grown : {x y : ℕ} → x < plane_width p i → y < plane_height p i → Around r x y → Inside (grown p i r) x y
  unfolding grown
  around_grown a b h = ((omega arith, omega arith), (omega arith, omega arith))
