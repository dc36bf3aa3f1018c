-- What the readers of the standard's codes say of a list of bins, in the steps that the code goes.
use mathlib.Core.Path.{◌≡◌, refl, ap, ◌∙◌}
use mathlib.Core.Bool.{Bool, true, false, cond}
use mathlib.Core.List.{List, [], ◌∷◌}
use Prim.Native.Nat.{ℕ, zero, suc, ◌≤◌, ◌<◌}
use native.Mathlib.Nat.{le_of_suc-le-suc, not-suc-le-zero}
use lib.Dec.{eqb}
use lib.IntN.{pos, neg_ℤ}
use lib.ListN.{length, drop}
use Rattle.standard.specs.declared.Offsets.TheVariants.{Off, Edge}
use Rattle.standard.specs.declared.Switches.{Switches}
use Rattle.standard.specs.Sets.{four, most}
use Rattle.standard.specs.Bins.{number}
use Rattle.standard.proofs.Codes.{Got, got, short, then, Code, Spelled, pure, read_bit, bit, both, as_code, in_turn, said_of}
use Rattle.standard.proofs.Elements.{with_high, fixed_code, after_bit, truncated_code, sign_code, four_code, magnitudes_code, signs_code}
use Rattle.standard.proofs.Components.{band_of, band_code, edge_signed, edge_signed_code, edge_code, rest_code, component_code, cr_code, chroma_code}
use Rattle.standard.proofs.Ctu.{luma_code, two_code, ctu_set, full_code}
use Rattle.bins.proofs.Ones.{ones}

-- ---- codes in turn

then_as_is : {A : Type 0} (g : Got A) → then g (λ a l. got a l) ≡ g
then_as_is (got a l) = refl
then_as_is short = refl

then_same : {A B : Type 0} (g : Got A) {next other : A → List Bool → Got B} → ((a : A) (l : List Bool) → next a l ≡ other a l) → then g next ≡ then g other
then_same (got a l) e = e a l
then_same short e = refl

pairs_then : {A B C : Type 0} (a : A) (g : Got B) (next : A × B → List Bool → Got C)
    → then {A = A × B} (then g (λ b l. got (a, b) l)) next ≡ then g (λ b l. next (a, b) l)
pairs_then a (got b l) next = refl
pairs_then a short next = refl

both_then : {A B C : Type 0} (g : Got A) (h : A → List Bool → Got B) (next : A × B → List Bool → Got C)
    → then {A = A × B} (then g (λ a l. then (h a l) (λ b l. got (a, b) l))) next ≡ then g (λ a l. then (h a l) (λ b l. next (a, b) l))
both_then (got a l) h next = pairs_then a (h a l) next
both_then short h next = refl

module _ {A B : Type 0} {P : A → Type 0} {f : A → List Bool} {Q : A → B → Type 0} {g : A → B → List Bool}
    (c : Code (Spelled P f)) (k : (a : A) → Code (Spelled (Q a) (g a))) (l : List Bool) where
  in_turn_read : (in_turn c k).read l ≡ then (c.read l) (λ a l. then ((k a).read l) (λ b l. got (a, b) l))
  unfolding in_turn as_code both
  in_turn_read = then_as_is (then (c.read l) (λ a l. then ((k a).read l) (λ b l. got (a, b) l)))

  in_turn_then : {C : Type 0} (next : A × B → List Bool → Got C)
      → then ((in_turn c k).read l) next ≡ then (c.read l) (λ a l. then ((k a).read l) (λ b l. next (a, b) l))
  in_turn_then next = ap (λ (r : Got (A × B)). then r next) in_turn_read ∙ both_then (c.read l) (λ a l. (k a).read l) next

-- ---- a magnitude, by the ones among the first k bins

abbrev more : Got ℕ → Got ℕ
more g = then g (λ v l. got (suc v) l)

after_one : (g : Got ℕ) → then (then (then g (λ b l. got (true, b) l)) (λ t l. got t l)) (λ (t : Bool × ℕ) l. got (cond t.0 (suc t.1) 0) l) ≡ more g
after_one (got v l) = refl
after_one short = refl

truncated_none : (l : List Bool) → (truncated_code 0).read l ≡ got 0 l
unfolding truncated_code said_of as_code pure
truncated_none l = refl

truncated_short : (m : ℕ) → (truncated_code (suc m)).read [] ≡ short
unfolding truncated_code said_of in_turn as_code both bit read_bit
truncated_short m = refl

truncated_one : (m : ℕ) (l : List Bool) → (truncated_code (suc m)).read (true ∷ l) ≡ more ((truncated_code m).read l)
unfolding truncated_code said_of in_turn as_code both bit read_bit after_bit
truncated_one m l = after_one ((truncated_code m).read l)

truncated_zero : (m : ℕ) (l : List Bool) → (truncated_code (suc m)).read (false ∷ l) ≡ got 0 l
unfolding truncated_code said_of in_turn as_code both bit read_bit after_bit pure
truncated_zero m l = refl

pub truncated_full : (m k : ℕ) (l : List Bool) → m ≤ ones k l → (truncated_code m).read l ≡ got m (drop m l)
unfolding ones
truncated_full zero k l h = truncated_none l
truncated_full (suc m) zero l h = absurd (not-suc-le-zero h)
truncated_full (suc m) (suc k) [] h = absurd (not-suc-le-zero h)
truncated_full (suc m) (suc k) (true ∷ l) h = truncated_one m l ∙ ap more (truncated_full m k l (le_of_suc-le-suc h))
truncated_full (suc m) (suc k) (false ∷ l) h = absurd (not-suc-le-zero h)

pub truncated_part : (m k : ℕ) (l : List Bool) → m ≤ k → ones k l < m → ones k l < length l
    → (truncated_code m).read l ≡ got (ones k l) (drop (suc (ones k l)) l)
unfolding ones
truncated_part zero k l g h t = absurd (not-suc-le-zero h)
truncated_part (suc m) zero l g h t = absurd (not-suc-le-zero g)
truncated_part (suc m) (suc k) [] g h t = absurd (not-suc-le-zero t)
truncated_part (suc m) (suc k) (true ∷ l) g h t =
    truncated_one m l ∙ ap more (truncated_part m k l (le_of_suc-le-suc g) (le_of_suc-le-suc h) (le_of_suc-le-suc t))
truncated_part (suc m) (suc k) (false ∷ l) g h t = truncated_zero m l

pub truncated_cut : (m k : ℕ) (l : List Bool) → m ≤ k → ones k l < m → length l ≤ ones k l → (truncated_code m).read l ≡ short
unfolding ones
truncated_cut zero k l g h t = absurd (not-suc-le-zero h)
truncated_cut (suc m) zero l g h t = absurd (not-suc-le-zero g)
truncated_cut (suc m) (suc k) [] g h t = truncated_short m
truncated_cut (suc m) (suc k) (true ∷ l) g h t =
    truncated_one m l ∙ ap more (truncated_cut m k l (le_of_suc-le-suc g) (le_of_suc-le-suc h) (le_of_suc-le-suc t))
truncated_cut (suc m) (suc k) (false ∷ l) g h t = absurd (not-suc-le-zero t)

-- ---- a number of n bins

abbrev under : ℕ → Bool → Got ℕ → Got ℕ
under n b g = then g (λ v l. got (with_high n (b, v)) l)

after_high : (n : ℕ) (b : Bool) (g : Got ℕ)
    → then (then (then g (λ v l. got (b, v) l)) (λ t l. got t l)) (λ (t : Bool × ℕ) l. got (with_high n t) l) ≡ under n b g
after_high n b (got v l) = refl
after_high n b short = refl

fixed_none : (l : List Bool) → (fixed_code 0).read l ≡ got 0 l
unfolding fixed_code said_of as_code pure
fixed_none l = refl

fixed_short : (n : ℕ) → (fixed_code (suc n)).read [] ≡ short
unfolding fixed_code said_of in_turn as_code both bit read_bit
fixed_short n = refl

fixed_one : (n : ℕ) (b : Bool) (l : List Bool) → (fixed_code (suc n)).read (b ∷ l) ≡ under n b ((fixed_code n).read l)
unfolding fixed_code said_of in_turn as_code both bit read_bit
fixed_one n b l = after_high n b ((fixed_code n).read l)

pub fixed_full : (n : ℕ) (l : List Bool) → n ≤ length l → (fixed_code n).read l ≡ got (number n l) (drop n l)
unfolding number
fixed_full zero l h = fixed_none l
fixed_full (suc n) [] h = absurd (not-suc-le-zero h)
fixed_full (suc n) (true ∷ l) h = fixed_one n true l ∙ ap (under n true) (fixed_full n l (le_of_suc-le-suc h))
fixed_full (suc n) (false ∷ l) h = fixed_one n false l ∙ ap (under n false) (fixed_full n l (le_of_suc-le-suc h))

pub fixed_cut : (n : ℕ) (l : List Bool) → length l < n → (fixed_code n).read l ≡ short
fixed_cut zero l h = absurd (not-suc-le-zero h)
fixed_cut (suc n) [] h = fixed_short n
fixed_cut (suc n) (b ∷ l) h = fixed_one n b l ∙ ap (under n b) (fixed_cut n l (le_of_suc-le-suc h))

-- ---- a bin is a number of one

pub bit_read : (l : List Bool) → bit.read l ≡ then ((fixed_code 1).read l) (λ v l. got (eqb v 1) l)
unfolding bit read_bit fixed_code said_of in_turn as_code both pure
bit_read [] = refl
bit_read (true ∷ l) = refl
bit_read (false ∷ l) = refl

-- ---- an offset of magnitude v

pub sign_none : (l : List Bool) → (sign_code 0).read l ≡ got (pos 0) l
unfolding sign_code said_of as_code pure
sign_none l = refl

pub sign_some : (v : ℕ) (l : List Bool) → (v ≡ 0 → ⊥) → (sign_code v).read l ≡ then (bit.read l) (λ b l. got (cond b (neg_ℤ (pos v)) (pos v)) l)
unfolding sign_code said_of as_code
sign_some zero l h = absurd (h refl)
sign_some (suc n) l h = refl

-- ---- four in turn: magnitudes, and the offsets of these magnitudes

module _ {A : Type 0} {P1 P2 P3 P4 : A → Type 0} {f : A → List Bool}
    (c1 : Code (Spelled P1 f)) (c2 : Code (Spelled P2 f)) (c3 : Code (Spelled P3 f)) (c4 : Code (Spelled P4 f)) where
  pub four_read : (l : List Bool) → (four_code c1 c2 c3 c4).read l
      ≡ then (c1.read l) (λ o1 l. then (c2.read l) (λ o2 l. then (c3.read l) (λ o3 l. then (c4.read l) (λ o4 l. got (four o1 o2 o3 o4) l))))
  unfolding four_code said_of as_code
  four_read l =
      in_turn_then c1 (λ a. in_turn c2 (λ b. in_turn c3 (λ d. c4))) l (λ t l. got (four t.0 t.1.0 t.1.1.0 t.1.1.1) l)
      ∙ then_same (c1.read l) (λ o1 l. in_turn_then c2 (λ b. in_turn c3 (λ d. c4)) l (λ t l. got (four o1 t.0 t.1.0 t.1.1) l)
      ∙ then_same (c2.read l) (λ o2 l. in_turn_then c3 (λ d. c4) l (λ t l. got (four o1 o2 t.0 t.1) l)))

-- ---- a band, an edge

pub band_read : (m : ℕ) (l : List Bool) → (band_code m).read l
    ≡ then ((magnitudes_code m).read l) (λ f l.
    then ((signs_code f).read l) (λ z l.
    then ((fixed_code 5).read l) (λ k l. got (band_of (f, (z, k))) l)))
unfolding band_code said_of as_code
band_read m l =
    in_turn_then (magnitudes_code m) (λ f. in_turn (signs_code f) (λ z. fixed_code 5)) l (λ t l. got (band_of t) l)
    ∙ then_same ((magnitudes_code m).read l) (λ f l. in_turn_then (signs_code f) (λ z. fixed_code 5) l (λ t l. got (band_of (f, t)) l))

pub edge_offsets_read : (m : ℕ) (l : List Bool) → (edge_signed_code m).read l ≡ then ((magnitudes_code m).read l) (λ f l. got (edge_signed f) l)
unfolding edge_signed_code said_of as_code
edge_offsets_read m l = refl

pub edge_read : (m : ℕ) (l : List Bool) → (edge_code m).read l
    ≡ then ((edge_signed_code m).read l) (λ z l. then ((fixed_code 2).read l) (λ k l. got (Edge k z) l))
unfolding edge_code said_of as_code
edge_read m l = in_turn_then (edge_signed_code m) (λ z. fixed_code 2) l (λ t l. got (Edge t.1 t.0) l)

-- ---- a component, by its type

pub component_read : (m : ℕ) (l : List Bool) → (component_code m).read l ≡ then ((truncated_code 2).read l) (λ t l. (rest_code m t).read l)
unfolding component_code said_of as_code
component_read m l =
    in_turn_then (truncated_code 2) (rest_code m) l (λ t l. got t.1 l)
    ∙ then_same ((truncated_code 2).read l) (λ t l. then_as_is ((rest_code m t).read l))

pub rest_off : (m : ℕ) (l : List Bool) → (rest_code m 0).read l ≡ got Off l
unfolding rest_code said_of as_code pure
rest_off m l = refl

-- ---- Cb and Cr

pub chroma_read : (m n : ℕ) (l : List Bool) → (chroma_code m n).read l
    ≡ then ((component_code m).read l) (λ cb l. then ((cr_code n cb).read l) (λ cr l. got (cb, cr) l))
unfolding chroma_code said_of as_code
chroma_read m n l = in_turn_then (component_code m) (cr_code n) l (λ t l. got t l)

-- ---- the full form

pub full_read : (s : Switches) (l : List Bool) → (full_code s).read l
    ≡ then ((luma_code s.luma (most s 0)).read l) (λ y l. then ((two_code s.chroma (most s 1) (most s 2)).read l) (λ t l. got (ctu_set (y, t)) l))
unfolding full_code said_of as_code
full_read s l = in_turn_then (luma_code s.luma (most s 0)) (λ y. two_code s.chroma (most s 1) (most s 2)) l (λ t l. got (ctu_set t) l)
