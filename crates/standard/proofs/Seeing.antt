-- A filtered sample is made from the deblocked samples that it sees: they are at most one step away, lie in CTBs that its own CTB waits for,
-- and nothing else of the deblocked plane changes it.
use mathlib.Core.Path.{◌≡◌, refl, sym, ap, ap₂, ◌∙◌}
use mathlib.Core.Bool.{Bool, true, false, cond}
use mathlib.Core.List.{List}
use mathlib.Core.Logic.{inl, inr, ⊎_elim}
use Rattle.std.specs.Prelude.{Some as some, None as none}
use Prim.Native.Nat.{ℕ, zero, suc, ◌+◌, ◌-◌, ◌*◌, ◌/◌, ◌≤◌, ◌<◌}
use native.Mathlib.Nat.{div-lt_iff_lt-mul, lt-div-mul-add}
use native.Mathlib.Omega.{arith}
use lib.Dec.{ltb}
use lib.IntN.{ℤ, pos, negsuc, nat_abs, ◌+ℤ◌}
use Rattle.standard.specs.declared.Picture.{Picture}
use Rattle.standard.specs.declared.Layout.{Layout}
use Rattle.standard.specs.declared.Offsets.{Offsets}
use Rattle.standard.specs.declared.Offsets.TheVariants.{Off, Band, Edge}
use Rattle.standard.specs.declared.CtuSet.{CtuSet}
use Rattle.standard.specs.Picture.{Rules, plane_width, plane_height, ctb_width, ctb_height, ctu_count, Inside, rectangle, grown, ctb_at, Adjacent}
use Rattle.standard.specs.Sets.{component_of}
use Rattle.standard.specs.Samples.{layout_of, Context, Parameters, counts, kept, context_of, Step, steps_of, at, neighbour, modified, sample, filtered_sample, IsAt, Sees, Waits, Scans}
use Rattle.standard.proofs.Counting.{Within, component_within}
use Rattle.standard.proofs.Rasters.{down}
use Rattle.standard.proofs.Divisors.{ctb_width_lem, ctb_height_lem}
use Rattle.standard.proofs.Grid.{ends, grown_holds, ctb_lt, ctb_pair, ctb_inside, around_grown}

pub itself_seen : (set : Offsets) (x y : ℕ) → Sees set x y x y
itself_seen Off x y = (refl, refl)
itself_seen (Band position o) x y = (refl, refl)
itself_seen (Edge class o) x y = inl (refl, refl)

-- ---- what is seen is near

pub record Near (x y u v : ℕ) : Type 0 where
  pub east : u ≤ x + 1
  pub west : x ≤ u + 1
  pub south : v ≤ y + 1
  pub north : y ≤ v + 1

-- a step of at most one
pub record Short (s : Step) : Type 0 where
  pub across : nat_abs s.h ≤ 1
  pub down : nat_abs s.v ≤ 1

pub steps_short : (class : ℕ) → Short (steps_of class).0 × Short (steps_of class).1
unfolding steps_of
steps_short zero = (record { across = omega arith; down = omega arith }, record { across = omega arith; down = omega arith })
steps_short (suc zero) = (record { across = omega arith; down = omega arith }, record { across = omega arith; down = omega arith })
steps_short (suc (suc zero)) = (record { across = omega arith; down = omega arith }, record { across = omega arith; down = omega arith })
steps_short (suc (suc (suc zero))) = (record { across = omega arith; down = omega arith }, record { across = omega arith; down = omega arith })
steps_short (suc (suc (suc (suc n)))) = (record { across = omega arith; down = omega arith }, record { across = omega arith; down = omega arith })

back : (x u n : ℕ) → suc n ≤ 1 → pos x +ℤ negsuc n ≡ pos u → (u ≤ x + 1) × (x ≤ u + 1)
back x u n h e = go (ltb x (suc n)) refl
  where
    go : (t : Bool) → ltb x (suc n) ≡ t → (u ≤ x + 1) × (x ≤ u + 1)
    go true f =
        let k : negsuc (suc n - suc x) ≡ pos u = sym (ap (λ (b : Bool). cond b (negsuc (suc n - suc x)) (pos (x - suc n))) f) ∙ e in
        let z : ◌≡◌ {A = ℕ} 0 1 = cc in absurd (omega arith)
    go false f =
        let k : pos (x - suc n) ≡ pos u = sym (ap (λ (b : Bool). cond b (negsuc (suc n - suc x)) (pos (x - suc n))) f) ∙ e in
        let q : x - suc n ≡ u = cc in (omega arith, omega arith)

close : (x u : ℕ) (z : ℤ) → nat_abs z ≤ 1 → pos x +ℤ z ≡ pos u → (u ≤ x + 1) × (x ≤ u + 1)
close x u (pos n) h e = let q : x + n ≡ u = cc in (omega arith, omega arith)
close x u (negsuc n) h e = back x u n h e

step_near : (x y u v : ℕ) (s : Step) → Short s → IsAt (pos x +ℤ s.h) (pos y +ℤ s.v) u v → Near x y u v
step_near x y u v s k e =
    let a = close x u s.h k.across e.0 in
    let b = close y v s.v k.down e.1 in
    record { east = a.0; west = a.1; south = b.0; north = b.1 }

itself_near : {x y u v : ℕ} → (u ≡ x) × (v ≡ y) → Near x y u v
itself_near e = record { east = omega arith; west = omega arith; south = omega arith; north = omega arith }

pub seen_near : (set : Offsets) (x y u v : ℕ) → Sees set x y u v → Near x y u v
seen_near Off x y u v e = itself_near e
seen_near (Band position o) x y u v e = itself_near e
seen_near (Edge class o) x y u v e =
    let k = steps_short class in
    ⊎_elim itself_near (⊎_elim (step_near x y u v (steps_of class).0 k.0) (step_near x y u v (steps_of class).1 k.1)) e

-- ---- and lies in a CTB that is waited for, at a place that is looked at

pub self_adjacent : {p : Picture} {k : ℕ} → k < ctu_count p → Adjacent p k k
self_adjacent l = record { there = l; left = omega arith; right = omega arith; above = omega arith; below = omega arith }

-- one step away is at most one block away
close_div : (s a b : ℕ) → 0 < s → a ≤ b + 1 → a / s ≤ b / s + 1
close_div s a b p h =
    let e : b < b / s * s + s = lt-div-mul-add p in
    let f : a < (b / s + 1 + 1) * s = omega (arith, down (b / s + 1) s, down (b / s) s) in
    omega (arith, (div-lt_iff_lt-mul {x = a} {y = b / s + 1 + 1} p).1 f)

module _ {p : Picture} (rules : Rules p) (i : ℕ) {k x y u v : ℕ} (own : ctb_at p i x y ≡ k) (xw : x < plane_width p i) (yh : y < plane_height p i)
    (uw : u < plane_width p i) (vh : v < plane_height p i) where
  pub near_adjacent : Near x y u v → Adjacent p k (ctb_at p i u v)
  near_adjacent n =
      let w = ctb_width_lem rules i in
      let h = ctb_height_lem rules i in
      let w0 : 0 < ctb_width p i = omega arith in
      let h0 : 0 < ctb_height p i = omega arith in
      let a = ctb_pair rules i y xw own in
      let b = ctb_pair rules i v uw refl in
      record {
        there = ctb_lt rules i uw vh;
        left = omega (arith, close_div (ctb_width p i) x u w0 n.west);
        right = omega (arith, close_div (ctb_width p i) u x w0 n.east);
        above = omega (arith, close_div (ctb_height p i) y v h0 n.north);
        below = omega (arith, close_div (ctb_height p i) v y h0 n.south);
      }

  pub near_grown : Near x y u v → Inside (grown p i (rectangle p i k)) u v
  near_grown n =
      let r = ctb_inside rules i xw yh own in
      around_grown p i uw vh ((omega arith, omega arith), (omega arith, omega arith))

  pub seen_waited : (set : Offsets) → Sees set x y u v → Waits p set k (ctb_at p i u v)
  unfolding Waits
  seen_waited set e = near_adjacent (seen_near set x y u v e)

  pub seen_scanned : (set : Offsets) → Sees set x y u v → Scans p i set k u v
  unfolding Scans
  seen_scanned set e = near_grown (seen_near set x y u v e)

-- ---- and is all that counts

-- planes a and b, of w by h, have the same samples at all places of S
abbrev pub SameAt : ℕ → ℕ → (ℕ → ℕ → Type 0) → List ℕ → List ℕ → Type 0
SameAt w h S a b = (u v : ℕ) → u < w → v < h → S u v → at a w u v ≡ at b w u v

module _ (l : Layout) (context : Context) (within : Within l context) where
  module _ (a b : List ℕ) where
    neighbour_same : (x y : ℕ) (s : Step) → SameAt l.width l.height (IsAt (pos x +ℤ s.h) (pos y +ℤ s.v)) a b → neighbour l context a x y s ≡ neighbour l context b x y s
    unfolding neighbour
    neighbour_same x y s same = go (context.counts x y X Y) refl
      where
        X : ℤ
        X = pos x +ℤ s.h

        Y : ℤ
        Y = pos y +ℤ s.v

        go : (t : Bool) → context.counts x y X Y ≡ t
            → cond t (some (at a l.width (nat_abs X) (nat_abs Y))) none ≡ cond t (some (at b l.width (nat_abs X) (nat_abs Y))) none
        go true e = let c = within x y X Y e in ap some (same (nat_abs X) (nat_abs Y) c.0 c.1 c.2)
        go false e = refl

    modified_sees : (set : Offsets) (x y : ℕ) → at a l.width x y ≡ at b l.width x y → SameAt l.width l.height (Sees set x y) a b
        → modified l context set a x y ≡ modified l context set b x y
    unfolding modified
    modified_sees Off x y here same = here
    modified_sees (Band position o) x y here same = rw here
    modified_sees (Edge class o) x y here same =
        let one = neighbour_same x y (steps_of class).0 (λ u v uw vh e. same u v uw vh (inr (inl e))) in
        let two = neighbour_same x y (steps_of class).1 (λ u v uw vh e. same u v uw vh (inr (inr e))) in
        rw (here, one, two)

    pub sample_sees : (set : Offsets) {x y : ℕ} → x < l.width → y < l.height → SameAt l.width l.height (Sees set x y) a b
        → sample l context set a x y ≡ sample l context set b x y
    unfolding sample
    sample_sees set {x} {y} xw yh same =
        let here = same x y xw yh (itself_seen set x y) in
        ap₂ (cond (context.kept x y)) here (modified_sees set x y here same)

-- the same of component i of a picture
pub component_sees : (p : Picture) (ps : Parameters) (i : ℕ) (a b : List ℕ) (set : Offsets) {x y : ℕ} → x < plane_width p i → y < plane_height p i
    → SameAt (plane_width p i) (plane_height p i) (Sees set x y) a b → sample (layout_of p i) (context_of p ps i) set a x y ≡ sample (layout_of p i) (context_of p ps i) set b x y
unfolding layout_of
component_sees p ps i a b set xw yh same = sample_sees (layout_of p i) (context_of p ps i) (component_within p ps i) a b set xw yh same

-- ---- and of the parameters, those of its own CTU

-- parameters that are the same for the filter of CTB k of component i
abbrev pub SameFor : Picture → ℕ → ℕ → Parameters → Parameters → Type 0
SameFor p i k a b = a.sets k ≡ b.sets k

pub filtered_same : (p : Picture) (a b : Parameters) (i k : ℕ) (plane : List ℕ) (x y : ℕ) → SameFor p i k a b → Inside (rectangle p i k) x y
    → filtered_sample p a i k plane x y ≡ filtered_sample p b i k plane x y
unfolding counts kept
filtered_same p a b i k plane x y same h = ap (λ (q : CtuSet). sample (layout_of p i) (context_of p a i) (component_of q i) plane x y) same

-- ---- what is waited for, and what is looked at

pub waits_itself : (p : Picture) (set : Offsets) {k : ℕ} → k < ctu_count p → Waits p set k k
unfolding Waits
waits_itself p set l = self_adjacent l

-- whatever the set, what is adjacent and nothing else
pub waits_adjacent : (p : Picture) (set : Offsets) (k j : ℕ) → Waits p set k j → Adjacent p k j
unfolding Waits
waits_adjacent p set k j w = w

pub adjacent_waits : (p : Picture) (set : Offsets) (k j : ℕ) → Adjacent p k j → Waits p set k j
unfolding Waits
adjacent_waits p set k j a = a

pub waits_there : (p : Picture) (set : Offsets) (k j : ℕ) → Waits p set k j → j < ctu_count p
unfolding Waits
waits_there p set k j w = w.there

-- whatever the set, the CTB and one sample around it
pub scans_grown : (p : Picture) (i : ℕ) (set : Offsets) (k x y : ℕ) → Scans p i set k x y → Inside (grown p i (rectangle p i k)) x y
unfolding Scans
scans_grown p i set k x y h = h

pub grown_scans : (p : Picture) (i : ℕ) (set : Offsets) (k x y : ℕ) → Inside (grown p i (rectangle p i k)) x y → Scans p i set k x y
unfolding Scans
grown_scans p i set k x y h = h

module _ {p : Picture} (rules : Rules p) (i : ℕ) (set : Offsets) {k : ℕ} (there : k < ctu_count p) {x y : ℕ} where
  pub scans_itself : Inside (rectangle p i k) x y → Scans p i set k x y
  unfolding Scans
  scans_itself h =
      let e = ends rules i there in
      let g = grown_holds p i {r = rectangle p i k} e.right e.bottom in
      ((omega (arith, g.left, h.0.0), omega (arith, g.right, h.0.1)), (omega (arith, g.top, h.1.0), omega (arith, g.bottom, h.1.1)))

  pub scans_there : Scans p i set k x y → (x < plane_width p i) × (y < plane_height p i)
  unfolding Scans
  scans_there h =
      let e = ends rules i there in
      let g = grown_holds p i {r = rectangle p i k} e.right e.bottom in
      (omega (arith, g.width, h.0.1), omega (arith, g.height, h.1.1))
