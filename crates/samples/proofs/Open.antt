-- A part of a block in which every sample is open, or none is: its neighbours are in the picture, and it is written as the answers say.
use mathlib.Core.Path.{◌≡◌, refl, sym, ap, ap₂, ◌∙◌, subst₂}
use mathlib.Core.Bool.{Bool, true, false, cond, ◌&&◌}
use mathlib.Core.List.{List}
use mathlib.Core.Logic.{◌⊎◌, inl, inr}
use Rattle.std.specs.Prelude.{Option, Some as some, None as none}
use Prim.Native.Nat.{ℕ, ◌≤◌, ◌<◌}
use native.Mathlib.Omega.{arith}
use lib.IntN.{ℤ, pos, ◌+ℤ◌}
use Rattle.standard.specs.declared.Layout.{Layout}
use Rattle.standard.specs.declared.Rectangle.{Rectangle}
use Rattle.standard.specs.Picture.{Inside}
use Rattle.standard.specs.Calls.{Written}
use Rattle.standard.specs.Samples.{Context, in_picture, Step, at, neighbour, edge_idx_of}
use Rattle.standard.proofs.Counting as counting
use Rattle.standard.proofs.Counting.{Place, place_in, both_true}
use Rattle.planes.specs.Places.{block}
use Rattle.planes.proofs.Blocks.{same_samples}
use Rattle.rows.specs.declared.Moves.{Moves}
use Rattle.rows.specs.Moves.{moved}
use Rattle.samples.specs.declared.Around.{Around}
use Rattle.samples.specs.declared.Runs.{Runs}
use Rattle.samples.specs.declared.Side.TheVariants.{Before, Within, After}
use Rattle.samples.specs.Steps.{Reach}
use Rattle.samples.specs.Around.{row_of, answer_of, answered, is_open, context_from, Agrees, Reaches, ReachesBy, AllOf, AllOpen, Alike, Parted}
use Rattle.samples.specs.Blocks.{Under, by_edge, beside, edge_if}

place_is : {w h : ℕ} {u v : ℤ} → Place w h u v → in_picture w h u v ≡ true
place_is {w} {h} p = subst₂ (λ (a b : ℤ). in_picture w h a b ≡ true) (sym p.2.0) (sym p.2.1) (place_in w h _ _ p.0 p.1)

-- answers that agree with a context reach no further than it does
pub agrees_reaches : (l : Layout) {context : Context} {r : Rectangle} {o : Around} → counting.Within l context → Agrees context r o → Reaches l r o
agrees_reaches l w g x y i class h =
    let k = g.counts x y i class h in
    (λ e. place_is (w x y _ _ (k.0 ∙ e)), λ e. place_is (w x y _ _ (k.1 ∙ e)))

either_false : (a b : Bool) → (a && b) ≡ false → (a ≡ false) ⊎ (b ≡ false)
either_false true b e = inr e
either_false false b e = inl refl

none_right : (s : ℕ) (a : Option ℕ) → edge_idx_of s a none ≡ 0
unfolding edge_idx_of
none_right s (some a) = refl
none_right s none = refl

zero_at : (s : ℕ) (a b : Option ℕ) → (a ≡ none) ⊎ (b ≡ none) → edge_idx_of s a b ≡ 0
unfolding edge_idx_of
zero_at s a b (inl e) = ap (λ (o : Option ℕ). edge_idx_of s o b) e
zero_at s a b (inr e) = ap (edge_idx_of s a) e ∙ none_right s a

unmoved : (m : Moves) (s : ℕ) → s ≤ m.top → s ≡ moved m 0 s
unfolding moved
unmoved m s h = omega arith

-- ---- one sample

module _ (l : Layout) (context : Context) (plane : List ℕ) (x y : ℕ) where
  counted : (s : Step) → context.counts x y (pos x +ℤ s.h) (pos y +ℤ s.v) ≡ true → neighbour l context plane x y s ≡ some (beside l plane x y s)
  unfolding neighbour
  counted s e = ap (λ (t : Bool). cond t (some (beside l plane x y s)) none) e

  barred : (s : Step) → context.counts x y (pos x +ℤ s.h) (pos y +ℤ s.v) ≡ false → neighbour l context plane x y s ≡ none
  unfolding neighbour
  barred s e = ap (λ (t : Bool). cond t (some (beside l plane x y s)) none) e

  barred_either : (s u : Step) → (context.counts x y (pos x +ℤ s.h) (pos y +ℤ s.v) ≡ false) ⊎ (context.counts x y (pos x +ℤ u.h) (pos y +ℤ u.v) ≡ false)
      → (neighbour l context plane x y s ≡ none) ⊎ (neighbour l context plane x y u ≡ none)
  barred_either s u (inl e) = inl (barred s e)
  barred_either s u (inr e) = inr (barred u e)

  -- another context that says the same of both neighbours
  pub same_context : (other : Context) (m : Moves) (a b : Step)
      → (context.counts x y (pos x +ℤ a.h) (pos y +ℤ a.v) ≡ other.counts x y (pos x +ℤ a.h) (pos y +ℤ a.v))
      → (context.counts x y (pos x +ℤ b.h) (pos y +ℤ b.v) ≡ other.counts x y (pos x +ℤ b.h) (pos y +ℤ b.v))
      → by_edge l context m a b plane x y ≡ by_edge l other m a b plane x y
  unfolding neighbour
  same_context other m a b e f = λ i.
      moved m
      (edge_idx_of (at plane l.width x y) (cond (e i) (some (beside l plane x y a)) none) (cond (f i) (some (beside l plane x y b)) none))
      (at plane l.width x y)

module _ (l : Layout) (m : Moves) (o : Around) (r : Rectangle) (a b : Step) (plane : List ℕ) where
  pub by_open : (x y : ℕ) (t : Bool) → is_open o r a b x y ≡ t → at plane l.width x y ≤ m.top
      → edge_if t l m a b plane x y ≡ by_edge l (context_from r o) m a b plane x y
  unfolding is_open
  by_open x y true e h =
      let k = both_true _ _ e in
      let c = context_from r o in
      sym (ap₂ (λ (s t : Option ℕ). moved m (edge_idx_of (at plane l.width x y) s t) (at plane l.width x y)) (counted l c plane x y _ k.0) (counted l c plane x y _ k.1))
  by_open x y false e h =
      let k = barred_either l (context_from r o) plane x y a b (either_false _ _ e) in
      unmoved m _ h ∙ sym (ap (λ (n : ℕ). moved m n (at plane l.width x y)) (zero_at _ _ _ k))

pub both_open : (o : Around) (r : Rectangle) (a b : Step) (x y : ℕ) → is_open o r a b x y ≡ true
    → (answered o r (pos x +ℤ a.h) (pos y +ℤ a.v) ≡ true) × (answered o r (pos x +ℤ b.h) (pos y +ℤ b.v) ≡ true)
unfolding is_open
both_open o r a b x y e = both_true _ _ e

-- ---- a part p of r, open or not

abbrev pub Part : Around → Rectangle → Step → Step → Rectangle → Bool → Type 0
Part o r a b p t = (x y : ℕ) → Inside p x y → Inside r x y × (is_open o r a b x y ≡ t)

pub rows_open : (o : Around) → AllOf (row_of o Before) → AllOf (row_of o Within) → AllOf (row_of o After) → AllOpen o
unfolding answer_of
rows_open o a b c across Before = a across
rows_open o a b c across Within = b across
rows_open o a b c across After = c across

pub all_open : (o : Around) (r : Rectangle) (a b : Step) → AllOpen o → Part o r a b r true
unfolding is_open answered
all_open o r a b h x y i = (i, ap₂ (λ (s t : Bool). s && t) (h _ _) (h _ _))

module _ (l : Layout) (o : Around) (r : Rectangle) (a b : Step) (p : Rectangle) (t : Bool) (part : Part o r a b p t) where
  pub part_reach : ReachesBy l r o a → ReachesBy l r o b → t ≡ true → Reach l a p × Reach l b p
  part_reach ra rb e = (
    λ x y i. let k = part x y i in ra x y k.0 (both_open o r a b x y (k.1 ∙ e)).0,
    λ x y i. let k = part x y i in rb x y k.0 (both_open o r a b x y (k.1 ∙ e)).1,
  )

  pub part_is : (m : Moves) (plane : List ℕ) {before after : List ℕ} → Under l m r plane
      → Written l.width l.height p (edge_if t l m a b plane) before after → Written l.width l.height p (by_edge l (context_from r o) m a b plane) before after
  part_is m plane under w = same_samples (λ x y u v i. let k = part x y i in by_open l m o r a b plane x y t k.1 (under x y k.0)) w

-- ---- the three parts of rows that are open alike

module _ (o : Around) (r : Rectangle) (s t : Step) (y0 y1 : ℕ) (top : r.y0 ≤ y0) (bottom : y1 ≤ r.y1) (alike : Alike o r s t y0 y1) (k : Runs)
    (parted : Parted (λ x. is_open o r s t x y0) r.x0 r.x1 k) where
  -- the part from column a up to and without b
  a_part : (a b : ℕ) (q : Bool) → r.x0 ≤ a → b ≤ r.x1 → ((x : ℕ) → a ≤ x → x < b → is_open o r s t x y0 ≡ q) → Part o r s t (block a b y0 y1) q
  a_part a b q h g same x y i =
      (((omega (arith, i.0.0), omega (arith, i.0.1)), (omega (arith, i.1.0), omega (arith, i.1.1))), alike x y i.1.0 i.1.1 ∙ same x i.0.0 i.0.1)

  pub first_part : Part o r s t (block r.x0 k.c y0 y1) k.first
  first_part = a_part r.x0 k.c k.first (omega arith) (omega (arith, parted.order, parted.off)) parted.first

  pub middle_part : Part o r s t (block k.c k.d y0 y1) k.middle
  middle_part = a_part k.c k.d k.middle parted.on parted.off parted.middle

  pub last_part : Part o r s t (block k.d r.x1 y0 y1) k.last
  last_part = a_part k.d r.x1 k.last (omega (arith, parted.on, parted.order)) (omega arith) parted.last
