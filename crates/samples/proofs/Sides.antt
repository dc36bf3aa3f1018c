-- Where the neighbours of a sample lie, and that between the ends of a side every short step stays in the block.
use mathlib.Core.Path.{◌≡◌, refl, sym, ap, ap₂, ◌∙◌}
use mathlib.Core.Bool.{Bool, true, false, ◌&&◌}
use Prim.Native.Nat.{ℕ, zero, suc, ◌+◌, ◌-◌, ◌≤◌, ◌<◌}
use native.Mathlib.Omega.{arith}
use borrow.Author.Tests.{lt-ltb, le-ltb}
use lib.IntN.{ℤ, pos, negsuc, nat_abs, ◌+ℤ◌}
use Rattle.standard.specs.declared.Rectangle.{Rectangle}
use Rattle.standard.specs.Samples.{Step}
use Rattle.samples.specs.declared.Around.{Around}
use Rattle.samples.specs.declared.Side.{Side}
use Rattle.samples.specs.declared.Side.TheVariants.{Before, Within, After}
use Rattle.samples.specs.Steps.{ByOne}
use Rattle.samples.specs.Around.{side_of, answer_of, answered, is_open}

before_is : (a b n : ℕ) → n < a → side_of a b (pos n) ≡ Before
before_is a b n h = simp (lt-ltb n a h)

within_is : (a b n : ℕ) → a ≤ n → n < b → side_of a b (pos n) ≡ Within
within_is a b n h k = simp (le-ltb n a h, lt-ltb n b k)

after_is : (a b n : ℕ) → a ≤ n → b ≤ n → side_of a b (pos n) ≡ After
after_is a b n h k = simp (le-ltb n a h, le-ltb n b k)

pub minus_one : (x : ℕ) → 0 < x → pos x +ℤ negsuc 0 ≡ pos (x - 1)
minus_one x h = simp (le-ltb x 1 h)

-- ---- one step back, none, and one on

at_first : (a b : ℕ) → side_of a b (pos a +ℤ negsuc 0) ≡ Before
at_first zero b = refl
at_first (suc a) b = ap (side_of (suc a) b) (minus_one (suc a) (omega arith)) ∙ before_is (suc a) b (suc a - 1) (omega arith)

pub back_first : (a b x : ℕ) → x ≡ a → side_of a b (pos x +ℤ negsuc 0) ≡ Before
back_first a b x e = ap (λ (n : ℕ). side_of a b (pos n +ℤ negsuc 0)) e ∙ at_first a b

pub back_later : (a b x : ℕ) → a < x → x < b → side_of a b (pos x +ℤ negsuc 0) ≡ Within
back_later a b x h k = ap (side_of a b) (minus_one x (omega arith)) ∙ within_is a b (x - 1) (omega arith) (omega arith)

pub stay : (a b x : ℕ) → a ≤ x → x < b → side_of a b (pos x +ℤ pos 0) ≡ Within
stay a b x h k = within_is a b (x + 0) (omega arith) (omega arith)

pub on_last : (a b x : ℕ) → a ≤ x → x + 1 ≡ b → side_of a b (pos x +ℤ pos 1) ≡ After
on_last a b x h k = after_is a b (x + 1) (omega arith) (omega arith)

pub on_earlier : (a b x : ℕ) → a ≤ x → x + 1 < b → side_of a b (pos x +ℤ pos 1) ≡ Within
on_earlier a b x h k = within_is a b (x + 1) (omega arith) k

-- a neighbour, by its sides
pub free_by : (o : Around) (r : Rectangle) {t : Bool} {across down : Side} (u v : ℤ) → t ≡ answer_of o across down → across ≡ side_of r.x0 r.x1 u → down ≡ side_of r.y0 r.y1 v
    → t ≡ answered o r u v
unfolding answered
free_by o r u v e a d = e ∙ ap₂ (answer_of o) a d

-- and both
pub open_by : (o : Around) (r : Rectangle) (a b : Step) (x y : ℕ) {p q : Bool} → p ≡ answered o r (pos x +ℤ a.h) (pos y +ℤ a.v)
    → q ≡ answered o r (pos x +ℤ b.h) (pos y +ℤ b.v) → (p && q) ≡ is_open o r a b x y
unfolding is_open
open_by o r a b x y f g = ap₂ (λ (s t : Bool). s && t) f g

-- the second decides where the first may, and else the first
pub true_and : {p : Bool} (q : Bool) → p ≡ true → q ≡ (p && q)
true_and q e = ap (λ (t : Bool). t && q) (sym e)

pub false_and : {p : Bool} (q : Bool) → p ≡ false → p ≡ (p && q)
false_and q e = e ∙ ap (λ (t : Bool). t && q) (sym e)

-- ---- between the ends

between : (a b x : ℕ) (d : ℤ) → nat_abs d ≤ 1 → a < x → x + 1 < b → side_of a b (pos x +ℤ d) ≡ Within
between a b x (pos n) s h k = within_is a b (x + n) (omega arith) (omega arith)
between a b x (negsuc zero) s h k = back_later a b x h (omega arith)
between a b x (negsuc (suc n)) s h k = absurd (omega arith)

module _ (o : Around) (r : Rectangle) (a b : Step) (sa : ByOne a) (sb : ByOne b) where
  rows_same : (x y y' : ℕ) → r.y0 < y → y + 1 < r.y1 → r.y0 < y' → y' + 1 < r.y1 → (s : Step) → ByOne s
      → answered o r (pos x +ℤ s.h) (pos y +ℤ s.v) ≡ answered o r (pos x +ℤ s.h) (pos y' +ℤ s.v)
  unfolding answered
  rows_same x y y' f g h i s k =
      ap (answer_of o (side_of r.x0 r.x1 (pos x +ℤ s.h)))
      (between r.y0 r.y1 y s.v k.down f g ∙ sym (between r.y0 r.y1 y' s.v k.down h i))

  columns_same : (x x' y : ℕ) → r.x0 < x → x + 1 < r.x1 → r.x0 < x' → x' + 1 < r.x1 → (s : Step) → ByOne s
      → answered o r (pos x +ℤ s.h) (pos y +ℤ s.v) ≡ answered o r (pos x' +ℤ s.h) (pos y +ℤ s.v)
  unfolding answered
  columns_same x x' y f g h i s k =
      ap (λ (t : Side). answer_of o t (side_of r.y0 r.y1 (pos y +ℤ s.v)))
      (between r.x0 r.x1 x s.h k.across f g ∙ sym (between r.x0 r.x1 x' s.h k.across h i))

  -- the rows between the first and the last are open alike, and so are the columns
  pub open_rows : (x y y' : ℕ) → r.y0 < y → y + 1 < r.y1 → r.y0 < y' → y' + 1 < r.y1 → is_open o r a b x y ≡ is_open o r a b x y'
  unfolding is_open
  open_rows x y y' f g h i =
      ap₂ (λ (s t : Bool). s && t) (rows_same x y y' f g h i _ sa) (rows_same x y y' f g h i _ sb)

  pub open_columns : (x x' y : ℕ) → r.x0 < x → x + 1 < r.x1 → r.x0 < x' → x' + 1 < r.x1 → is_open o r a b x y ≡ is_open o r a b x' y
  unfolding is_open
  open_columns x x' y f g h i =
      ap₂ (λ (s t : Bool). s && t) (columns_same x x' y f g h i _ sa) (columns_same x x' y f g h i _ sb)
