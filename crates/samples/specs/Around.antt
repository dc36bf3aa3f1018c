-- What may be compared across the borders of a block: eight answers, one for each block around it.
use Rattle.std.specs.Prelude.{◌≡◌, Bool, true, false, cond, ◌&&◌, ℕ, ◌≤◌, ◌<◌, ltb, ℤ, pos, negsuc, ◌+ℤ◌}
use Rattle.standard.specs.declared.Rectangle.{Rectangle}
use Rattle.standard.specs.declared.Layout.{Layout}
use Rattle.standard.specs.Picture.{Inside}
use Rattle.standard.specs.Samples.{Context, in_picture, Step, steps_of}
use Rattle.samples.specs.declared.Around.{Around}
use Rattle.samples.specs.declared.Runs.{Runs}
use Rattle.samples.specs.declared.Three.{Three}
use Rattle.samples.specs.declared.Side.{Side}
use Rattle.samples.specs.declared.Side.TheVariants.{Before, Within, After}

-- where a column, or a row, lies, of those from a up to and without b
abbrev pub side_of : ℕ → ℕ → ℤ → Side
side_of a b (pos n) = cond (ltb n a) Before (cond (ltb n b) Within After)
side_of a b (negsuc n) = Before

-- the answers of three blocks beside one another; within the block itself everything may be compared
abbrev pub row_of : Around → Side → Three
row_of o Before = record { before = o.northwest; within = o.north; after = o.northeast }
row_of o Within = record { before = o.west; within = true; after = o.east }
row_of o After = record { before = o.southwest; within = o.south; after = o.southeast }

abbrev pub pick_of : Three → Side → Bool
pick_of t Before = t.before
pick_of t Within = t.within
pick_of t After = t.after

unfoldable pub answer_of : Around → Side → Side → Bool
answer_of o across down = pick_of (row_of o down) across

-- of the answers: whether a sample of r may be compared with that at column u of row v
unfoldable pub answered : Around → Rectangle → ℤ → ℤ → Bool
answered o r u v = answer_of o (side_of r.x0 r.x1 u) (side_of r.y0 r.y1 v)

-- the context that the answers make, in r
abbrev pub context_from : Rectangle → Around → Context
context_from r o = record { counts = λ x y u v. answered o r u v; kept = λ x y. false }

-- whether both neighbours of column x of row y of r, the steps a and b away, may be compared with it
unfoldable pub is_open : Around → Rectangle → Step → Step → ℕ → ℕ → Bool
is_open o r a b x y = answered o r (pos x +ℤ a.h) (pos y +ℤ a.v) && answered o r (pos x +ℤ b.h) (pos y +ℤ b.v)

-- P of both steps of each class
abbrev pub EachStep : (Step → Type 0) → Type 0
EachStep P = (class : ℕ) → class < 4 → P (steps_of class).0 × P (steps_of class).1

-- THE ANSWERS ARE RIGHT: for a sample of r and a step of a class, they say whether the sample a step away counts; and no sample of r is kept
pub record Agrees (context : Context) (r : Rectangle) (o : Around) : Type 0 where
  pub counts : (x y : ℕ) → Inside r x y → EachStep (λ s. context.counts x y (pos x +ℤ s.h) (pos y +ℤ s.v) ≡ answered o r (pos x +ℤ s.h) (pos y +ℤ s.v))
  pub kept : (x y : ℕ) → Inside r x y → context.kept x y ≡ false

-- ---- the picture's border

-- what is inside the picture may be compared, and no sample is kept
abbrev pub picture_context : Layout → Context
picture_context l = record { counts = λ x y u v. in_picture l.width l.height u v; kept = λ x y. false }

-- there is a block on that side, of a side of n
abbrev pub there : ℕ → ℕ → ℕ → Side → Bool
there n a b Before = ltb 0 a
there n a b Within = true
there n a b After = ltb b n

abbrev pub picture_around : Layout → Rectangle → Around
picture_around l r =
    let w = there l.width r.x0 r.x1 in
    let h = there l.height r.y0 r.y1 in
    record {
      northwest = w Before && h Before;
      north = h Before;
      northeast = w After && h Before;
      west = w Before;
      east = w After;
      southwest = w Before && h After;
      south = h After;
      southeast = w After && h After;
    }

-- what may be compared by the answers is in the picture
abbrev pub Reaches : Layout → Rectangle → Around → Type 0
Reaches l r o =
    (x y : ℕ) → Inside r x y
    → EachStep (λ s. answered o r (pos x +ℤ s.h) (pos y +ℤ s.v) ≡ true → in_picture l.width l.height (pos x +ℤ s.h) (pos y +ℤ s.v) ≡ true)

-- and of one step
abbrev pub ReachesBy : Layout → Rectangle → Around → Step → Type 0
ReachesBy l r o s =
    (x y : ℕ) → Inside r x y → answered o r (pos x +ℤ s.h) (pos y +ℤ s.v) ≡ true → in_picture l.width l.height (pos x +ℤ s.h) (pos y +ℤ s.v) ≡ true

-- what may be compared by the answers p may be compared by o
abbrev pub NoMore : Around → Around → Type 0
NoMore p o = (across down : Side) → answer_of p across down ≡ true → answer_of o across down ≡ true

-- ---- the parts of a block

-- nothing is barred
abbrev pub AllOf : Three → Type 0
AllOf t = (across : Side) → pick_of t across ≡ true

abbrev pub AllOpen : Around → Type 0
AllOpen o = (across down : Side) → answer_of o across down ≡ true

-- rows y0 up to and without y1 are open at the same columns
abbrev pub Alike : Around → Rectangle → Step → Step → ℕ → ℕ → Type 0
Alike o r a b y0 y1 = (x y : ℕ) → y0 ≤ y → y < y1 → is_open o r a b x y ≡ is_open o r a b x y0

-- columns a up to and without b in three parts, in each of which f is the same
pub record Parted (f : ℕ → Bool) (a b : ℕ) (k : Runs) : Type 0 where
  pub on : a ≤ k.c
  pub order : k.c ≤ k.d
  pub off : k.d ≤ b
  pub first : (x : ℕ) → a ≤ x → x < k.c → f x ≡ k.first
  pub middle : (x : ℕ) → k.c ≤ x → x < k.d → f x ≡ k.middle
  pub last : (x : ℕ) → k.d ≤ x → x < b → f x ≡ k.last
