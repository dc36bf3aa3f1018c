-- The index of a place in a plane, y * w + x, and planes as the lists of their samples: a plane is determined by its samples,
-- so `Written` has one outcome, and the filtered plane has the filtered sample at each place.
use mathlib.Core.Path.{◌≡◌, refl, sym, ap, ap₂, ◌∙◌, subst}
use mathlib.Core.List.{List}
use mathlib.Core.Logic.Dec
use Prim.Native.Nat.{ℕ, zero, suc, ◌+◌, ◌-◌, ◌*◌, ◌/◌, ◌%◌, ◌≤◌, ◌<◌}
use native.Mathlib.Nat.{zero-mul, add-mul, one-mul, mul_comm, mul-le-mul_right, mul-add-div_right, div-eq_of_lt, mul-add-mod_self_right, mod-eq_of_lt, div-lt_iff_lt-mul, mod-lt, div-add-mod', add-zero, not-suc-le-zero, le_of_suc-le-suc}
use native.Mathlib.Decide.{dec_le, dec_lt}
use native.Mathlib.Omega.{arith}
use lib.ListN.{length, get_or}
use lib.Seq.{ext_get_or}
use Rattle.standard.specs.declared.Picture.{Picture}
use Rattle.standard.specs.declared.Rectangle.{Rectangle}
use Rattle.standard.specs.Picture.{plane_width, plane_height, ctb_at, Inside}
use Rattle.standard.specs.Samples.{Parameters, at, tabulate, plane_by, filtered_sample, filtered_plane}
use Rattle.standard.specs.Calls.{Written}

-- ---- the index of a place

-- the row below, and the row above
pub down : (y w : ℕ) → (y + 1) * w ≡ y * w + w
down y w = add-mul y 1 w ∙ ap (λ (n : ℕ). y * w + n) (one-mul w)

pub up : (y w : ℕ) → 0 < y → y * w ≡ (y - 1) * w + w
up y w h = let e : y ≡ y - 1 + 1 = omega arith in ap (λ (n : ℕ). n * w) e ∙ down (y - 1) w

pub index_lt : {w h x y : ℕ} → x < w → y < h → y * w + x < w * h
index_lt {w} {h} {x} {y} p q =
    let le : y + 1 ≤ h = omega arith in
    omega (arith, down y w, mul-le-mul_right w le, mul_comm w h)

pub row_of : {w x : ℕ} (y : ℕ) → x < w → (y * w + x) / w ≡ y
row_of {w} {x} y p =
    let z : 0 < w = omega arith in
    mul-add-div_right z y x ∙ ap (λ (n : ℕ). y + n) (div-eq_of_lt p) ∙ add-zero y

pub column_of : {w x : ℕ} (y : ℕ) → x < w → (y * w + x) % w ≡ x
column_of {w} {x} y p = mul-add-mod_self_right y w x ∙ mod-eq_of_lt p

-- one index, one place
pub same_place : {w x x' : ℕ} (y y' : ℕ) → x < w → x' < w → y * w + x ≡ y' * w + x' → (x ≡ x') × (y ≡ y')
same_place {w} y y' p q e = (
  sym (column_of y p) ∙ ap (λ (n : ℕ). n % w) e ∙ column_of y' q,
  sym (row_of y p) ∙ ap (λ (n : ℕ). n / w) e ∙ row_of y' q,
)

-- an index below the plane's length is that of a place
some_width : (w h n : ℕ) → n < w * h → 0 < w
some_width zero h n p = let e : 0 * h ≡ 0 = zero-mul h in omega arith
some_width (suc w) h n p = omega arith

pub column_lt : (w h n : ℕ) → n < w * h → n % w < w
column_lt w h n p = mod-lt n (some_width w h n p)

pub row_lt : (w h n : ℕ) → n < w * h → n / w < h
row_lt w h n p = let q : n < h * w = rw (mul_comm h w) p in (div-lt_iff_lt-mul (some_width w h n p)).1 q

pub place_of : (w n : ℕ) → n / w * w + n % w ≡ n
place_of w n = div-add-mod' n w

-- ---- lists by their elements

pub length_tabulate : (n : ℕ) (f : ℕ → ℕ) → length (tabulate n f) ≡ n
unfolding tabulate
length_tabulate zero f = refl
length_tabulate (suc n) f = ap suc (length_tabulate n (λ k. f (suc k)))

pub get_d_tabulate : (n : ℕ) (f : ℕ → ℕ) (k : ℕ) → k < n → get_or (tabulate n f) k 0 ≡ f k
unfolding tabulate
get_d_tabulate zero f k l = absurd (not-suc-le-zero l)
get_d_tabulate (suc n) f zero l = refl
get_d_tabulate (suc n) f (suc k) l = get_d_tabulate n (λ j. f (suc j)) k (le_of_suc-le-suc l)

module _ (w h : ℕ) where
  pub length_plane_by : (f : ℕ → ℕ → ℕ) → length (plane_by w h f) ≡ w * h
  unfolding plane_by
  length_plane_by f = length_tabulate (w * h) (λ n. f (n % w) (n / w))

  pub at_plane_by : (f : ℕ → ℕ → ℕ) {x y : ℕ} → x < w → y < h → at (plane_by w h f) w x y ≡ f x y
  unfolding plane_by
  at_plane_by f {x} {y} p q =
      get_d_tabulate (w * h) (λ n. f (n % w) (n / w)) (y * w + x) (index_lt p q) ∙ ap₂ f (column_of y p) (row_of y p)

  -- a plane is determined by its samples
  pub same_plane : {a b : List ℕ} → length a ≡ w * h → length b ≡ w * h
      → ((x y : ℕ) → x < w → y < h → at a w x y ≡ at b w x y) → a ≡ b
  same_plane {a} {b} la lb e =
      ext_get_or 0 a b (la ∙ sym lb)
      (λ n p. let q : n < w * h = rw (← la) p in
      subst (λ (m : ℕ). get_or a m 0 ≡ get_or b m 0) (place_of w n) (e (n % w) (n / w) (column_lt w h n q) (row_lt w h n q)))

  pub is_plane_by : {a : List ℕ} (f : ℕ → ℕ → ℕ) → length a ≡ w * h → ((x y : ℕ) → x < w → y < h → at a w x y ≡ f x y) → a ≡ plane_by w h f
  is_plane_by f la e = same_plane la (length_plane_by f) (λ x y p q. e x y p q ∙ sym (at_plane_by f p q))

-- ---- what is written

unfoldable pub inside? : (r : Rectangle) (x y : ℕ) → Dec (Inside r x y)
unfolding Dec.and
inside? r x y = Dec.and (Dec.and (dec_le r.x0 x) (dec_lt x r.x1)) (Dec.and (dec_le r.y0 y) (dec_lt y r.y1))

pub written_unique : {w h : ℕ} {r : Rectangle} {f : ℕ → ℕ → ℕ} {a b c : List ℕ}
    → Written w h r f a b → Written w h r f a c → length a ≡ w * h → b ≡ c
written_unique {w} {h} {r} {f} {a} {b} {c} k m la = same_plane w h (k.long ∙ la) (m.long ∙ la) (λ x y p q. go x y p q (inside? r x y))
  where
    go : (x y : ℕ) → x < w → y < h → Dec (Inside r x y) → at b w x y ≡ at c w x y
    go x y p q (yes t) = k.inside x y p q t ∙ sym (m.inside x y p q t)
    go x y p q (no n) = k.outside x y p q n ∙ sym (m.outside x y p q n)

-- ---- the filtered plane

module _ (p : Picture) (ps : Parameters) (i : ℕ) (plane : List ℕ) where
  pub length_filtered : length (filtered_plane p ps i plane) ≡ plane_width p i * plane_height p i
  unfolding filtered_plane
  length_filtered = length_plane_by (plane_width p i) (plane_height p i) _

  pub at_filtered : {x y : ℕ} → x < plane_width p i → y < plane_height p i
      → at (filtered_plane p ps i plane) (plane_width p i) x y ≡ filtered_sample p ps i (ctb_at p i x y) plane x y
  unfolding filtered_plane
  at_filtered a b = at_plane_by (plane_width p i) (plane_height p i) _ a b

  -- a plane that has it at each place is it
  pub is_filtered : {a : List ℕ} → length a ≡ plane_width p i * plane_height p i
      → ((x y : ℕ) → x < plane_width p i → y < plane_height p i → at a (plane_width p i) x y ≡ filtered_sample p ps i (ctb_at p i x y) plane x y)
      → a ≡ filtered_plane p ps i plane
  unfolding filtered_plane
  is_filtered la e = is_plane_by (plane_width p i) (plane_height p i) _ la e
