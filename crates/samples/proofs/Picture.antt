-- The answers that bar what is outside the picture are right where nothing else is barred, and answers that bar more than others reach no further.
use mathlib.Core.Path.{◌≡◌, refl, sym, ap, ap₂, ◌∙◌}
use mathlib.Core.Bool.{Bool, true, false, ◌&&◌}
use Prim.Native.Nat.{ℕ, zero, suc, ◌+◌, ◌-◌, ◌≤◌, ◌<◌}
use native.Mathlib.Decide.{dec_lt}
use native.Mathlib.Omega.{arith}
use borrow.Author.Tests.{lt-ltb}
use lib.Dec.{ltb}
use lib.IntN.{ℤ, pos, negsuc, nat_abs, ◌+ℤ◌}
use Rattle.standard.specs.declared.Picture.{Picture}
use Rattle.standard.specs.declared.Layout.{Layout}
use Rattle.standard.specs.declared.Rectangle.{Rectangle}
use Rattle.standard.specs.Samples.{Step, layout_of, Parameters, context_of, in_picture, steps_of}
use Rattle.standard.proofs.Counting.{in_place, counts_inside, none_kept}
use Rattle.standard.proofs.Seeing.{Short, steps_short}
use Rattle.samples.specs.declared.Around.{Around}
use Rattle.samples.specs.declared.Side.{Side}
use Rattle.samples.specs.declared.Side.TheVariants.{Before, Within, After}
use Rattle.samples.specs.Around.{side_of, answer_of, answered, there, context_from, picture_around, picture_context, Agrees, Reaches, NoMore}
use Rattle.samples.proofs.Open.{agrees_reaches}
use Rattle.samples.proofs.Sides.{minus_one, back_first, back_later, stay, on_last, on_earlier}

-- ---- one side

-- within n, and not below 0
abbrev pub in_side : ℕ → ℤ → Bool
in_side n (pos u) = ltb u n
in_side n (negsuc u) = false

module _ (n a b x : ℕ) (h : a ≤ x) (k : x < b) (m : b ≤ n) where
  back_there : Dec (a < x) → there n a b (side_of a b (pos x +ℤ negsuc 0)) ≡ in_side n (pos x +ℤ negsuc 0)
  back_there (yes p) =
      ap (there n a b) (back_later a b x p k) ∙ sym (ap (in_side n) (minus_one x (omega arith)) ∙ lt-ltb (x - 1) n (omega arith))
  back_there (no p) = ap (there n a b) (back_first a b x (omega arith)) ∙ go a (omega arith)
    where
      go : (c : ℕ) → x ≡ c → ltb 0 c ≡ in_side n (pos x +ℤ negsuc 0)
      go zero e = sym (ap (λ (z : ℕ). in_side n (pos z +ℤ negsuc 0)) e)
      go (suc c) e = lt-ltb 0 (suc c) (omega arith) ∙ sym (ap (in_side n) (minus_one x (omega arith)) ∙ lt-ltb (x - 1) n (omega arith))

  on_there : Dec (x + 1 < b) → there n a b (side_of a b (pos x +ℤ pos 1)) ≡ in_side n (pos x +ℤ pos 1)
  on_there (yes p) = ap (there n a b) (on_earlier a b x h p) ∙ sym (lt-ltb (x + 1) n (omega arith))
  on_there (no p) = let e : x + 1 ≡ b = omega arith in ap (there n a b) (on_last a b x h e) ∙ ap (λ (z : ℕ). ltb z n) (sym e)

  pub side_there : (d : ℤ) → nat_abs d ≤ 1 → there n a b (side_of a b (pos x +ℤ d)) ≡ in_side n (pos x +ℤ d)
  side_there (pos zero) s = ap (there n a b) (stay a b x h k) ∙ sym (lt-ltb (x + 0) n (omega arith))
  side_there (pos (suc zero)) s = on_there (dec_lt (x + 1) b)
  side_there (pos (suc (suc d))) s = absurd (omega arith)
  side_there (negsuc zero) s = back_there (dec_lt a x)
  side_there (negsuc (suc d)) s = absurd (omega arith)

-- ---- both sides

and_true : (t : Bool) → t ≡ (t && true)
and_true true = refl
and_true false = refl

by_sides : (l : Layout) (r : Rectangle) (across down : Side)
    → answer_of (picture_around l r) across down ≡ (there l.width r.x0 r.x1 across && there l.height r.y0 r.y1 down)
unfolding answer_of
by_sides l r Before Before = refl
by_sides l r Before Within = and_true _
by_sides l r Before After = refl
by_sides l r Within Before = refl
by_sides l r Within Within = refl
by_sides l r Within After = refl
by_sides l r After Before = refl
by_sides l r After Within = and_true _
by_sides l r After After = refl

and_false : (t : Bool) → (t && false) ≡ false
and_false true = refl
and_false false = refl

pub both_sides : (w h : ℕ) (u v : ℤ) → (in_side w u && in_side h v) ≡ in_picture w h u v
unfolding in_picture
both_sides w h (pos u) (pos v) = refl
both_sides w h (pos u) (negsuc v) = and_false (ltb u w)
both_sides w h (negsuc u) v = refl

module _ (l : Layout) (r : Rectangle) (right : r.x1 ≤ l.width) (bottom : r.y1 ≤ l.height) where
  pub picture_agrees : Agrees (picture_context l) r (picture_around l r)
  unfolding answered
  picture_agrees = record { counts = λ x y i class h. (says x y i (steps_of class).0 (steps_short class).0, says x y i (steps_of class).1 (steps_short class).1); kept = λ x y i. refl }
    where
      says : (x y : ℕ) → ((r.x0 ≤ x) × (x < r.x1)) × ((r.y0 ≤ y) × (y < r.y1)) → (s : Step) → Short s
          → in_picture l.width l.height (pos x +ℤ s.h) (pos y +ℤ s.v)
          ≡ answer_of (picture_around l r) (side_of r.x0 r.x1 (pos x +ℤ s.h)) (side_of r.y0 r.y1 (pos y +ℤ s.v))
      says x y i s k =
          sym (by_sides l r _ _
          ∙ ap₂ (λ (a b : Bool). a && b) (side_there l.width r.x0 r.x1 x i.0.0 i.0.1 right s.h k.across)
          (side_there l.height r.y0 r.y1 y i.1.0 i.1.1 bottom s.v k.down)
          ∙ both_sides l.width l.height _ _)

  pub picture_reaches : Reaches l r (picture_around l r)
  picture_reaches = agrees_reaches l (λ x y u v e. in_place l.width l.height u v e) picture_agrees

-- of component i of a picture
pub component_agrees : (p : Picture) (ps : Parameters) (i : ℕ) (r : Rectangle) → r.x1 ≤ (layout_of p i).width → r.y1 ≤ (layout_of p i).height
    → Agrees (context_of p ps i) r (picture_around (layout_of p i) r)
unfolding layout_of
component_agrees p ps i r right bottom =
    let a = picture_agrees (layout_of p i) r right bottom in
    record {
      counts = λ x y h class cl.
          (counts_inside p ps i x y _ _ ∙ (a.counts x y h class cl).0, counts_inside p ps i x y _ _ ∙ (a.counts x y h class cl).1);
      kept = λ x y h. none_kept p ps i x y;
    }

-- ---- answers that bar more

pub fewer_reach : (l : Layout) (r : Rectangle) (p o : Around) → NoMore p o → Reaches l r o → Reaches l r p
unfolding answered
fewer_reach l r p o fewer reaches x y i class h = let k = reaches x y i class h in (λ e. k.0 (fewer _ _ e), λ e. k.1 (fewer _ _ e))

-- each of the eight by itself
module _ (p o : Around) where
  abbrev pub Fewer : (Around → Bool) → Type 0
  Fewer answer = answer p ≡ true → answer o ≡ true

  pub each_fewer : Fewer (λ a. a.northwest) → Fewer (λ a. a.north) → Fewer (λ a. a.northeast) → Fewer (λ a. a.west) → Fewer (λ a. a.east) → Fewer (λ a. a.southwest)
      → Fewer (λ a. a.south) → Fewer (λ a. a.southeast) → NoMore p o
  unfolding answer_of
  each_fewer nw n ne w e sw s se Before Before = nw
  each_fewer nw n ne w e sw s se Within Before = n
  each_fewer nw n ne w e sw s se After Before = ne
  each_fewer nw n ne w e sw s se Before Within = w
  each_fewer nw n ne w e sw s se Within Within = λ t. t
  each_fewer nw n ne w e sw s se After Within = e
  each_fewer nw n ne w e sw s se Before After = sw
  each_fewer nw n ne w e sw s se Within After = s
  each_fewer nw n ne w e sw s se After After = se

-- answers agree with the context that they make
pub own_agrees : (r : Rectangle) (o : Around) → Agrees (context_from r o) r o
own_agrees r o = record { counts = λ x y i class h. (refl, refl); kept = λ x y i. refl }
