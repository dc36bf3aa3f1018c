-- What the block functions write is the standard's filtered sample.
use mathlib.Core.Path.{◌≡◌, sym, ap, ◌∙◌, subst, subst₂}
use mathlib.Core.Bool.{Bool, false, cond}
use mathlib.Core.List.{List}
use Prim.Native.Nat.{ℕ, ◌<◌}
use native.Mathlib.Omega.{arith}
use lib.IntN.{ℤ}
use Rattle.standard.specs.declared.Four.{Four}
use Rattle.standard.specs.declared.Layout.{Layout}
use Rattle.standard.specs.declared.Offsets.{Offsets}
use Rattle.standard.specs.declared.Offsets.TheVariants.{Off, Band, Edge}
use Rattle.standard.specs.declared.Rectangle.{Rectangle}
use Rattle.standard.specs.Calls.{Written}
use Rattle.standard.specs.Samples.{Context, Step, at, modified, band_sample, edge_sample, band_idx, edge_idx_of, neighbour, steps_of, sample}
use Rattle.planes.proofs.Blocks.{same_samples}
use Rattle.rows.specs.declared.Moves.{Moves}
use Rattle.rows.specs.Moves.{scaled_by, moves_of}
use Rattle.rows.proofs.Moved.{moved_is}
use Rattle.samples.specs.declared.Around.{Around}
use Rattle.samples.specs.Around.{context_from, Agrees}
use Rattle.samples.proofs.Open.{same_context}
use Rattle.samples.specs.Blocks.{Under, Ready, EdgeReady, by_band, by_edge}

-- where no sample is kept
module _ (l : Layout) (context : Context) (plane : List ℕ) (x y : ℕ) (free : context.kept x y ≡ false) where
  unkept : (set : Offsets) → modified l context set plane x y ≡ sample l context set plane x y
  unfolding sample
  unkept set = sym (ap (λ (t : Bool). cond t (at plane l.width x y) (modified l context set plane x y)) free)

  pub off_is : at plane l.width x y ≡ sample l context Off plane x y
  unfolding modified
  off_is = unkept Off

  pub band_is : (position : ℕ) (o : Four ℤ)
      → by_band l (moves_of l.depth (scaled_by l.shift o)) position plane x y ≡ sample l context (Band position o) plane x y
  unfolding modified band_sample
  band_is position o =
      moved_is l.depth l.shift (band_idx l.depth position (at plane l.width x y)) (at plane l.width x y) o
      ∙ unkept (Band position o)

  pub edge_is : (class : ℕ) (o : Four ℤ)
      → by_edge l context (moves_of l.depth (scaled_by l.shift o)) (steps_of class).0 (steps_of class).1 plane x y ≡ sample l context (Edge class o) plane x y
  unfolding modified edge_sample
  edge_is class o =
      moved_is l.depth l.shift
      (edge_idx_of (at plane l.width x y) (neighbour l context plane x y (steps_of class).0) (neighbour l context plane x y (steps_of class).1))
      (at plane l.width x y) o
      ∙ unkept (Edge class o)

-- ---- of the samples of a block

-- a set by another name
by_set : (l : Layout) (context : Context) (plane : List ℕ) {r : Rectangle} {o o' : List ℕ} {s t : Offsets} → t ≡ s
    → Written l.width l.height r (sample l context s plane) o o' → Written l.width l.height r (sample l context t plane) o o'
by_set l context plane {r} {o} {o'} e = subst (λ (k : Offsets). Written l.width l.height r (sample l context k plane) o o') (sym e)

module _ {l : Layout} {set : Offsets} {around : Around} {r : Rectangle} {plane out : List ℕ} (k : Ready l set around r plane out) where
  -- under a context that the answers agree with
  module _ {context : Context} (g : Agrees context r around) where
    pub off_block : {o o' : List ℕ} → set ≡ Off → Written l.width l.height r (at plane l.width) o o'
        → Written l.width l.height r (sample l context set plane) o o'
    off_block e w = by_set l context plane e (same_samples (λ x y p q i. off_is l context plane x y (g.kept x y i)) w)

    pub band_block : {o o' : List ℕ} {m : Moves} {position : ℕ} {offsets : Four ℤ} → set ≡ Band position offsets
        → m ≡ moves_of l.depth (scaled_by l.shift offsets)
        → Written l.width l.height r (by_band l m position plane) o o' → Written l.width l.height r (sample l context set plane) o o'
    band_block {m = m} {position} {offsets} e f w =
        by_set l context plane e
        (same_samples
        (λ x y p q i. ap (λ (v : Moves). by_band l v position plane x y) f ∙ band_is l context plane x y (g.kept x y i) position offsets) w)

    pub edge_block : {o o' : List ℕ} {m : Moves} {class : ℕ} {offsets : Four ℤ} {a b : Step} → class < 4 → a ≡ (steps_of class).0 → b ≡ (steps_of class).1
        → set ≡ Edge class offsets → m ≡ moves_of l.depth (scaled_by l.shift offsets)
        → Written l.width l.height r (by_edge l (context_from r around) m a b plane) o o' → Written l.width l.height r (sample l context set plane) o o'
    edge_block {o} {o'} {m} {class} {offsets} h ea eb e f u =
        let w = subst₂ (λ (a b : Step). Written l.width l.height r (by_edge l (context_from r around) m a b plane) o o') ea eb u in
        by_set l context plane e
        (same_samples
        (λ x y p q i.
        let c = g.counts x y i class h in
        same_context l (context_from r around) plane x y context m (steps_of class).0 (steps_of class).1 (sym c.0) (sym c.1)
        ∙ ap (λ (v : Moves). by_edge l context v (steps_of class).0 (steps_of class).1 plane x y) f ∙ edge_is l context plane x y (g.kept x y i) class offsets) w)

  -- no sample of the block is above the top of the moves
  pub under_top : {m : Moves} (o : Four ℤ) → m ≡ moves_of l.depth o → Under l m r plane
  unfolding moves_of
  under_top o e x y i = let t = ap (λ (v : Moves). v.top) e in omega (arith, t, k.deep x y i)

  -- and so is the filter by edge, by the steps of a class
  pub edge_ready : {m : Moves} (o : Four ℤ) {class : ℕ} {a b : Step} → m ≡ moves_of l.depth o → class < 4 → a ≡ (steps_of class).0 → b ≡ (steps_of class).1
      → EdgeReady l m a b around r plane
  edge_ready {m} o {class} e h ea eb =
      subst₂ (λ (s t : Step). EdgeReady l m s t around r plane) (sym ea) (sym eb)
      (record {
        placed = record { wide = k.lent.wide; high = k.lent.high; columns = k.some_columns; right = k.lent.right; rows = k.lent.rows; bottom = k.lent.bottom };
        some_rows = k.some_rows;
        deblocked = k.lent.deblocked;
        under = under_top o e;
        first_reaches = λ x y i. (k.reaches x y i class h).0;
        second_reaches = λ x y i. (k.reaches x y i class h).1;
      })
