-- What holds of every component's planes and marks at every moment, place by place: a delivered block holds the picture's own samples, a
-- filtered one its final samples, and any other block what it held at opening. Delivering and filtering keep it.
use mathlib.Core.Path.{◌≡◌, refl, sym, ◌∙◌, subst}
use mathlib.Core.List.{List}
use Prim.Native.Nat.{ℕ, ◌^◌, ◌≤◌, ◌<◌}
use native.Mathlib.Omega.{arith}
use lib.ListN.{set, length-set}
use Rattle.standard.specs.declared.Picture.{Picture}
use Rattle.standard.specs.Picture.{Rules, depth_of, components, plane_width, plane_height, ctu_count, Inside, rectangle, ctb_at}
use Rattle.standard.specs.Sets.{component_of}
use Rattle.standard.specs.Samples.{Parameters, at, filtered_sample, Sees, Waits}
use Rattle.standard.specs.Reasons.{Planes, plane_of, PlanesFit, MarksFit, mark_place, mark_of}
use Rattle.standard.specs.Calls.{delivered, BlockWritten}
use Rattle.standard.proofs.Grid.{inside_ctb, ctb_inside, inside_count}
use Rattle.standard.proofs.Seeing.{itself_seen, seen_waited, component_sees, SameFor, filtered_same}
use Rattle.promises.specs.Demands.{Own, IsBlock, final}
use Rattle.promises.proofs.Written.{Other, here_or_there, marked_here, marked_there, written_here, written_there, written_fits}

-- ---- one place

-- the mark of its block, the samples there, deblocked and filtered; and the bound of a sample, the picture's own, that at opening, the final one
pub record Place (mark deblocked filtered bound own first last : ℕ) : Type 0 where
  pub low : 1 ≤ mark → deblocked < bound
  pub its_own : 1 ≤ mark → deblocked ≡ own
  pub final : mark ≡ 2 → filtered ≡ last
  pub before : ¬ (mark ≡ 2) → filtered ≡ first

module _ {m d f bound own first last : ℕ} (v : Place m d f bound own first last) where
  same_place : {m' d' f' : ℕ} → m' ≡ m → d' ≡ d → f' ≡ f → Place m' d' f' bound own first last
  same_place a b c = record {
    low = λ h. subst (λ (n : ℕ). n < bound) (sym b) (v.low (omega arith));
    its_own = λ h. b ∙ v.its_own (omega arith);
    final = λ h. c ∙ v.final (sym a ∙ h);
    before = λ h. c ∙ v.before (λ e. h (a ∙ e));
  }

  delivered_place : {m' d' : ℕ} → m ≡ 0 → m' ≡ 1 → d' < bound → d' ≡ own → Place m' d' f bound own first last
  delivered_place a b l e = record { low = λ h. l; its_own = λ h. e; final = λ h. absurd (omega arith); before = λ h. v.before (λ g. omega arith) }

  filtered_place : {m' f' : ℕ} → 1 ≤ m → m' ≡ 2 → f' ≡ last → Place m' d f' bound own first last
  filtered_place a b e = record { low = λ h. v.low a; its_own = λ h. v.its_own a; final = λ h. e; before = λ h. absurd (h b) }

-- ---- all of them

-- column x of row y of component i, in CTB k
abbrev pub PlaceAt : Own → Planes → Picture → Planes → Planes → List ℕ → ℕ → ℕ → ℕ → ℕ → Type 0
PlaceAt own first p deblocked filtered marks i k x y =
    Place (mark_of p marks i k) (at (plane_of deblocked i) (plane_width p i) x y) (at (plane_of filtered i) (plane_width p i) x y)
    (2 ^ depth_of p i) (at (own.planes i) (plane_width p i) x y) (at (plane_of first i) (plane_width p i) x y) (final own p i k x y)

pub record Blocks (own : Own) (first : Planes) (p : Picture) (deblocked filtered : Planes) (marks : List ℕ) : Type 0 where
  pub deblocked_fits : PlanesFit p deblocked
  pub filtered_fits : PlanesFit p filtered
  pub marks_fit : MarksFit p marks
  pub marks_low : (i k : ℕ) → i < components p → k < ctu_count p → mark_of p marks i k ≤ 2
  pub places : (i k x y : ℕ) → i < components p → Inside (rectangle p i k) x y → PlaceAt own first p deblocked filtered marks i k x y

module _ {own : Own} {first : Planes} {p : Picture} {deblocked filtered : Planes} {marks : List ℕ} (rules : Rules p)
    (v : Blocks own first p deblocked filtered marks) {i k : ℕ} (il : i < components p) (kl : k < ctu_count p) where
  -- a mark of at most 2 keeps all marks low
  low_kept : (n : ℕ) → n ≤ 2 → (j l : ℕ) → j < components p → l < ctu_count p → mark_of p (set marks (mark_place p i k) n) j l ≤ 2
  low_kept n h j l =
      here_or_there (λ (j l : ℕ). j < components p → l < ctu_count p → mark_of p (set marks (mark_place p i k) n) j l ≤ 2) i k j l
      (λ jl ll. subst (λ (m : ℕ). m ≤ 2) (sym (marked_here p marks kl n v.marks_fit il)) h)
      (λ other jl ll. subst (λ (m : ℕ). m ≤ 2) (sym (marked_there p marks kl n j ll other)) (v.marks_low j l jl ll))

  -- a block delivered that was not before: no sample too large, and the picture's own
  pub deliver_kept : (samples : List ℕ) {after : Planes} → mark_of p marks i k ≡ 0
      → ((x y : ℕ) → Inside (rectangle p i k) x y → delivered (rectangle p i k) samples x y < 2 ^ depth_of p i)
      → IsBlock p i k (own.planes i) samples → BlockWritten p i k (delivered (rectangle p i k) samples) deblocked after
      → Blocks own first p after filtered (set marks (mark_place p i k) 1)
  deliver_kept samples {after} new low block b = record {
    deblocked_fits = written_fits rules b v.deblocked_fits;
    filtered_fits = v.filtered_fits;
    marks_fit = length-set marks (mark_place p i k) 1 ∙ v.marks_fit;
    marks_low = low_kept 1 (omega arith);
    places = λ j l x y.
        here_or_there
        (λ (j l : ℕ). j < components p → Inside (rectangle p j l) x y → PlaceAt own first p after filtered (set marks (mark_place p i k) 1) j l x y)
        i k j l (here x y) (there j l x y);
  }
    where
      here : (x y : ℕ) → i < components p → Inside (rectangle p i k) x y → PlaceAt own first p after filtered (set marks (mark_place p i k) 1) i k x y
      here x y _ h =
          let e = written_here rules b h in
          delivered_place (v.places i k x y il h) new (marked_here p marks kl 1 v.marks_fit il)
          (subst (λ (n : ℕ). n < 2 ^ depth_of p i) (sym e) (low x y h)) (e ∙ block x y h)

      there : (j l x y : ℕ) → Other i k j l → j < components p → Inside (rectangle p j l) x y
          → PlaceAt own first p after filtered (set marks (mark_place p i k) 1) j l x y
      there j l x y other jl h =
          same_place (v.places j l x y jl h) (marked_there p marks kl 1 j (inside_count rules j l h) other) (written_there rules b j l other h) refl

  -- a block filtered by its own parameters, with all that it waits for delivered
  module _ (ps : Parameters) (same : SameFor p i k ps own.parameters)
      (waited : (j : ℕ) → Waits p (component_of (ps.sets k) i) k j → 1 ≤ mark_of p marks i j) where
    -- THE KEY: what its samples see is in delivered blocks, and so is the picture's own
    own_seen : {x y a b : ℕ} → Inside (rectangle p i k) x y → a < plane_width p i → b < plane_height p i → Sees (component_of (ps.sets k) i) x y a b
        → (1 ≤ mark_of p marks i (ctb_at p i a b)) × (at (plane_of deblocked i) (plane_width p i) a b ≡ at (own.planes i) (plane_width p i) a b)
    own_seen {x} {y} {a} {b} h al bl sees =
        let e = inside_ctb rules i k h in
        let m = waited (ctb_at p i a b) (seen_waited rules i e.2 e.0 e.1 al bl (component_of (ps.sets k) i) sees) in
        (m, (v.places i (ctb_at p i a b) a b il (ctb_inside rules i al bl refl)).its_own m)

    itself : {x y : ℕ} → Inside (rectangle p i k) x y → 1 ≤ mark_of p marks i k
    itself {x} {y} h =
        let e = inside_ctb rules i k h in
        subst (λ (n : ℕ). 1 ≤ mark_of p marks i n) e.2 (own_seen h e.0 e.1 (itself_seen (component_of (ps.sets k) i) x y)).0

    -- first the samples are replaced by the picture's own, and then the parameters
    is_final : {x y : ℕ} → Inside (rectangle p i k) x y → filtered_sample p ps i k (plane_of deblocked i) x y ≡ final own p i k x y
    is_final {x} {y} h =
        let e = inside_ctb rules i k h in
        component_sees p ps i (plane_of deblocked i) (own.planes i) (component_of (ps.sets k) i) e.0 e.1 (λ a b al bl sees. (own_seen h al bl sees).1)
        ∙ filtered_same p ps own.parameters i k (own.planes i) x y same h

    pub filter_kept : {after : Planes} → BlockWritten p i k (filtered_sample p ps i k (plane_of deblocked i)) filtered after
        → Blocks own first p deblocked after (set marks (mark_place p i k) 2)
    filter_kept {after} b = record {
      deblocked_fits = v.deblocked_fits;
      filtered_fits = written_fits rules b v.filtered_fits;
      marks_fit = length-set marks (mark_place p i k) 2 ∙ v.marks_fit;
      marks_low = low_kept 2 (omega arith);
      places = λ j l x y.
          here_or_there
          (λ (j l : ℕ). j < components p → Inside (rectangle p j l) x y → PlaceAt own first p deblocked after (set marks (mark_place p i k) 2) j l x y)
          i k j l (here x y) (there j l x y);
    }
      where
        here : (x y : ℕ) → i < components p → Inside (rectangle p i k) x y → PlaceAt own first p deblocked after (set marks (mark_place p i k) 2) i k x y
        here x y _ h =
            filtered_place (v.places i k x y il h) (itself h) (marked_here p marks kl 2 v.marks_fit il) (written_here rules b h ∙ is_final h)

        there : (j l x y : ℕ) → Other i k j l → j < components p → Inside (rectangle p j l) x y
            → PlaceAt own first p deblocked after (set marks (mark_place p i k) 2) j l x y
        there j l x y other jl h =
            same_place (v.places j l x y jl h) (marked_there p marks kl 2 j (inside_count rules j l h) other) refl (written_there rules b j l other h)
