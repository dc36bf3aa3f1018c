-- The codes of a component's set: what follows the type, luma or Cb with its type, Cr after a Cb, and both chroma components.
use mathlib.Core.Path.{◌≡◌, refl, sym, ap, ◌∙◌, subst}
use mathlib.Core.Bool.{Bool}
use mathlib.Core.List.{List, [], ◌++◌, append_assoc}
use Prim.Native.Nat.{ℕ, zero, suc, ◌≤◌, ◌<◌}
use native.Mathlib.Omega.{arith}
use lib.IntN.{ℤ, pos, negsuc, nat_abs, neg_ℤ}
use Rattle.standard.specs.declared.Four.{Four}
use Rattle.standard.specs.declared.Offsets.{Offsets}
use Rattle.standard.specs.declared.Offsets.TheVariants.{Off, Band, Edge}
use Rattle.standard.specs.Sets.{four, NotNegative, NotPositive, Small, EdgeSigns, Fits, Shares}
use Rattle.standard.specs.Bins.{truncated, fixed_length, magnitudes, sign_bins, signs, type_idx, type_bins, rest, rest_of_cr}
use Rattle.standard.proofs.Codes.{Code, Spelled, pure, in_turn, said_of}
use Rattle.standard.proofs.Elements.{Below, AtMost, fixed_code, truncated_code, four_bins, AllAtMost, magnitudes_code, AllSized, signs_code}

-- a set of type t, where a type above 2 does not occur
abbrev pub kind : ℕ → ℕ
kind zero = 0
kind (suc zero) = 1
kind (suc (suc n)) = 2

abbrev pub Typed : ℕ → ℕ → Offsets → Type 0
Typed m t c = Fits m c × (type_idx c ≡ kind t)

abbrev pub sizes : Four ℤ → Four ℕ
sizes o = four (nat_abs o.o1) (nat_abs o.o2) (nat_abs o.o3) (nat_abs o.o4)

small : {m : ℕ} {o : Four ℤ} → AllAtMost m (sizes o) → Small m o
small i = record { m1 = i.0; m2 = i.1.0; m3 = i.1.1.0; m4 = i.1.1.1 }

all_at_most : {m : ℕ} {o : Four ℤ} → Small m o → AllAtMost m (sizes o)
all_at_most i = (i.m1, (i.m2, (i.m3, i.m4)))

-- ---- off

pub off_to : (m : ℕ) (c : Offsets) → c ≡ Off → Typed m 0 c × (◌≡◌ {A = List Bool} [] (rest m c))
unfolding rest
off_to m c e = subst (λ (c : Offsets). Typed m 0 c × (◌≡◌ {A = List Bool} [] (rest m c))) (sym e) ((tt, refl), refl)

pub off_from : (m : ℕ) (c : Offsets) → Typed m 0 c → (a : Offsets) × (a ≡ c) × (a ≡ Off)
off_from m Off i = (Off, refl, refl)
off_from m (Band position o) i = absurd (omega (arith, i.1))
off_from m (Edge class o) i = absurd (omega (arith, i.1))

-- ---- band: magnitudes, signs, position

abbrev pub Banded : ℕ → Four ℕ × (Four ℤ × ℕ) → Type 0
Banded m t = AllAtMost m t.0 × (AllSized t.0 t.1.0 × Below 5 t.1.1)

abbrev pub band_bins : ℕ → Four ℕ × (Four ℤ × ℕ) → List Bool
band_bins m t = four_bins (truncated m) t.0 ++ (four_bins sign_bins t.1.0 ++ fixed_length 5 t.1.1)

abbrev pub band_of : Four ℕ × (Four ℤ × ℕ) → Offsets
band_of t = Band t.1.1 t.1.0

pub band_to : (m : ℕ) (t : Four ℕ × (Four ℤ × ℕ)) → Banded m t → Typed m 1 (band_of t) × (band_bins m t ≡ rest m (band_of t))
unfolding rest magnitudes signs
band_to m t (i, (j, k)) =
    let same : t.0 ≡ sizes t.1.0 = λ n. four (sym j.0 n) (sym j.1.0 n) (sym j.1.1.0 n) (sym j.1.1.1 n) in
    (((small (subst (AllAtMost m) same i), k), refl), ap (λ (f : Four ℕ). band_bins m (f, t.1)) same)

pub band_from : (m : ℕ) (c : Offsets) → Typed m 1 c → (t : Four ℕ × (Four ℤ × ℕ)) × (band_of t ≡ c) × Banded m t
band_from m Off i = absurd (omega (arith, i.1))
band_from m (Band position o) i = ((sizes o, (o, position)), refl, (all_at_most i.0.0, ((refl, (refl, (refl, refl))), i.0.1)))
band_from m (Edge class o) i = absurd (omega (arith, i.1))

unfoldable pub band_code : (m : ℕ) → Code (Spelled (Typed m 1) (rest m))
unfolding said_of in_turn magnitudes_code signs_code fixed_code
band_code m = said_of (in_turn (magnitudes_code m) (λ t. in_turn (signs_code t) (λ z. fixed_code 5))) band_of (band_to m) (band_from m)

-- ---- edge: magnitudes, whose signs are known, and class

abs_minus : (n : ℕ) → nat_abs (neg_ℤ (pos n)) ≡ n
abs_minus zero = refl
abs_minus (suc n) = refl

minus_not_positive : (n : ℕ) → NotPositive (neg_ℤ (pos n))
minus_not_positive zero = tt
minus_not_positive (suc n) = tt

plus_back : (z : ℤ) → NotNegative z → pos (nat_abs z) ≡ z
plus_back (pos n) h = refl
plus_back (negsuc n) h = absurd h

minus_back : (z : ℤ) → NotPositive z → neg_ℤ (pos (nat_abs z)) ≡ z
minus_back (pos zero) h = refl
minus_back (pos (suc n)) h = absurd h
minus_back (negsuc n) h = refl

abbrev pub EdgeFour : ℕ → Four ℤ → Type 0
EdgeFour m o = Small m o × EdgeSigns o

abbrev pub edge_signed : Four ℕ → Four ℤ
edge_signed t = four (pos t.o1) (pos t.o2) (neg_ℤ (pos t.o3)) (neg_ℤ (pos t.o4))

pub edge_signs_to : (m : ℕ) (t : Four ℕ) → AllAtMost m t → EdgeFour m (edge_signed t) × (four_bins (truncated m) t ≡ magnitudes m (edge_signed t))
unfolding magnitudes
edge_signs_to m t i =
    let same : t ≡ sizes (edge_signed t) = λ n. four t.o1 t.o2 (sym (abs_minus t.o3) n) (sym (abs_minus t.o4) n) in (
      (small (subst (AllAtMost m) same i), record { s1 = tt; s2 = tt; s3 = minus_not_positive t.o3; s4 = minus_not_positive t.o4 }),
      ap (four_bins (truncated m)) same,
    )

pub edge_signs_from : (m : ℕ) (o : Four ℤ) → EdgeFour m o → (t : Four ℕ) × (edge_signed t ≡ o) × AllAtMost m t
edge_signs_from m o (i, j) = (
  sizes o,
  λ n. four (plus_back o.o1 j.s1 n) (plus_back o.o2 j.s2 n) (minus_back o.o3 j.s3 n) (minus_back o.o4 j.s4 n),
  all_at_most i,
)

unfoldable pub edge_signed_code : (m : ℕ) → Code (Spelled (EdgeFour m) (magnitudes m))
unfolding said_of magnitudes_code
edge_signed_code m = said_of (magnitudes_code m) edge_signed (edge_signs_to m) (edge_signs_from m)

pub edge_to : (m : ℕ) (t : Four ℤ × ℕ) → EdgeFour m t.0 × Below 2 t.1
    → Typed m 2 (Edge t.1 t.0) × (magnitudes m t.0 ++ fixed_length 2 t.1 ≡ rest m (Edge t.1 t.0))
unfolding rest
edge_to m t (i, k) = (((i.0, k, i.1), refl), refl)

pub edge_from : (m : ℕ) (c : Offsets) → Typed m 2 c → (t : Four ℤ × ℕ) × (Edge t.1 t.0 ≡ c) × (EdgeFour m t.0 × Below 2 t.1)
edge_from m Off i = absurd (omega (arith, i.1))
edge_from m (Band position o) i = absurd (omega (arith, i.1))
edge_from m (Edge class o) i = ((o, class), refl, ((i.0.0, i.0.2), i.0.1))

unfoldable pub edge_code : (m : ℕ) → Code (Spelled (Typed m 2) (rest m))
unfolding said_of in_turn edge_signed_code fixed_code
edge_code m = said_of (in_turn (edge_signed_code m) (λ z. fixed_code 2)) (λ t. Edge t.1 t.0) (edge_to m) (edge_from m)

-- ---- luma or Cb: its type, and what follows

unfoldable pub rest_code : (m t : ℕ) → Code (Spelled (Typed m t) (rest m))
unfolding said_of pure band_code edge_code
rest_code m zero = said_of (pure Off) (λ c. c) (off_to m) (off_from m)
rest_code m (suc zero) = band_code m
rest_code m (suc (suc n)) = edge_code m

kind_type : (n : ℕ) → n ≤ 2 → kind n ≡ n
kind_type zero h = refl
kind_type (suc zero) h = refl
kind_type (suc (suc n)) h = omega (arith, h)

type_kind : (c : Offsets) → type_idx c ≡ kind (type_idx c)
type_kind Off = refl
type_kind (Band position o) = refl
type_kind (Edge class o) = refl

type_small : (c : Offsets) → type_idx c ≤ 2
type_small Off = omega arith
type_small (Band position o) = omega arith
type_small (Edge class o) = omega arith

abbrev pub component_bins : ℕ → Offsets → List Bool
component_bins m c = type_bins c ++ rest m c

pub component_to : (m : ℕ) (t : ℕ × Offsets) → AtMost 2 t.0 × Typed m t.0 t.1
    → Fits m t.1 × (truncated 2 t.0 ++ rest m t.1 ≡ component_bins m t.1)
component_to m t (h, i) = (i.0, ap (λ (n : ℕ). truncated 2 n ++ rest m t.1) (sym (i.1 ∙ kind_type t.0 h)))

pub component_from : (m : ℕ) (c : Offsets) → Fits m c → (t : ℕ × Offsets) × (t.1 ≡ c) × (AtMost 2 t.0 × Typed m t.0 t.1)
component_from m c i = ((type_idx c, c), refl, (type_small c, (i, type_kind c)))

unfoldable pub component_code : (m : ℕ) → Code (Spelled (Fits m) (component_bins m))
unfolding said_of in_turn truncated_code rest_code
component_code m = said_of (in_turn (truncated_code 2) (rest_code m)) (λ t. t.1) (component_to m) (component_from m)

-- ---- Cr, after a Cb

-- all but the rule of the class, which is Cb's
abbrev pub CrFits : ℕ → Offsets → Type 0
CrFits m Off = Unit {0}
CrFits m (Band position o) = Small m o × (position < 32)
CrFits m (Edge class o) = Small m o × EdgeSigns o

abbrev pub After : ℕ → Offsets → Offsets → Type 0
After m cb c = CrFits m c × Shares cb c

pub cr_off_to : (m : ℕ) (c : Offsets) → c ≡ Off → After m Off c × (◌≡◌ {A = List Bool} [] (rest_of_cr m c))
unfolding rest_of_cr
cr_off_to m c e = subst (λ (c : Offsets). After m Off c × (◌≡◌ {A = List Bool} [] (rest_of_cr m c))) (sym e) ((tt, tt), refl)

pub cr_off_from : (m : ℕ) (c : Offsets) → After m Off c → (a : Offsets) × (a ≡ c) × (a ≡ Off)
cr_off_from m Off i = (Off, refl, refl)
cr_off_from m (Band position o) i = absurd i.1
cr_off_from m (Edge class o) i = absurd i.1

pub cr_band_to : (m p : ℕ) (v : Four ℤ) (c : Offsets) → Typed m 1 c → After m (Band p v) c × (rest m c ≡ rest_of_cr m c)
unfolding rest rest_of_cr
cr_band_to m p v Off i = absurd (omega (arith, i.1))
cr_band_to m p v (Band position o) i = ((i.0, tt), refl)
cr_band_to m p v (Edge class o) i = absurd (omega (arith, i.1))

pub cr_band_from : (m p : ℕ) (v : Four ℤ) (c : Offsets) → After m (Band p v) c → (a : Offsets) × (a ≡ c) × Typed m 1 a
cr_band_from m p v Off i = absurd i.1
cr_band_from m p v (Band position o) i = (Band position o, refl, (i.0, refl))
cr_band_from m p v (Edge class o) i = absurd i.1

pub cr_edge_to : (m k : ℕ) (v o : Four ℤ) → EdgeFour m o → After m (Edge k v) (Edge k o) × (magnitudes m o ≡ rest_of_cr m (Edge k o))
unfolding rest_of_cr
cr_edge_to m k v o i = ((i, refl), refl)

pub cr_edge_from : (m k : ℕ) (v : Four ℤ) (c : Offsets) → After m (Edge k v) c → (o : Four ℤ) × (Edge k o ≡ c) × EdgeFour m o
cr_edge_from m k v Off i = absurd i.1
cr_edge_from m k v (Band position o) i = absurd i.1
cr_edge_from m k v (Edge class o) i = (o, ap (λ (n : ℕ). Edge n o) i.1, i.0)

unfoldable pub cr_code : (m : ℕ) (cb : Offsets) → Code (Spelled (After m cb) (rest_of_cr m))
unfolding said_of pure band_code edge_signed_code
cr_code m Off = said_of (pure Off) (λ c. c) (cr_off_to m) (cr_off_from m)
cr_code m (Band p v) = said_of (band_code m) (λ c. c) (cr_band_to m p v) (cr_band_from m p v)
cr_code m (Edge k v) = said_of (edge_signed_code m) (λ o. Edge k o) (cr_edge_to m k v) (cr_edge_from m k v)

-- ---- Cb and Cr, whose largest magnitudes are m and n

abbrev pub ChromaFits : ℕ → ℕ → Offsets × Offsets → Type 0
ChromaFits m n t = Fits m t.0 × Fits n t.1 × Shares t.0 t.1

abbrev pub chroma_bins : ℕ → ℕ → Offsets × Offsets → List Bool
chroma_bins m n t = type_bins t.0 ++ (rest m t.0 ++ rest_of_cr n t.1)

-- Cb within the rules, and Cr too but for its class, which it shares
whole_cr : (m n : ℕ) (cb cr : Offsets) → Fits m cb → CrFits n cr → Shares cb cr → Fits n cr
whole_cr m n cb Off f i s = tt
whole_cr m n cb (Band position o) f i s = i
whole_cr m n Off (Edge class o) f i s = absurd s
whole_cr m n (Band p v) (Edge class o) f i s = absurd s
whole_cr m n (Edge k v) (Edge class o) f i s = (i.0, subst (λ (k : ℕ). k < 4) s f.1, i.1)

but_class : (n : ℕ) (cr : Offsets) → Fits n cr → CrFits n cr
but_class n Off f = tt
but_class n (Band position o) f = f
but_class n (Edge class o) f = (f.0, f.2)

pub chroma_to : (m n : ℕ) (t : Offsets × Offsets) → Fits m t.0 × After n t.0 t.1
    → ChromaFits m n t × (component_bins m t.0 ++ rest_of_cr n t.1 ≡ chroma_bins m n t)
chroma_to m n t (i, j) =
    ((i, whole_cr m n t.0 t.1 i j.0 j.1, j.1), append_assoc (type_bins t.0) (rest m t.0) (rest_of_cr n t.1))

pub chroma_from : (m n : ℕ) (t : Offsets × Offsets) → ChromaFits m n t → (a : Offsets × Offsets) × (a ≡ t) × (Fits m a.0 × After n a.0 a.1)
chroma_from m n t i = (t, refl, (i.0, (but_class n t.1 i.1, i.2)))

unfoldable pub chroma_code : (m n : ℕ) → Code (Spelled (ChromaFits m n) (chroma_bins m n))
unfolding said_of in_turn component_code cr_code
chroma_code m n = said_of (in_turn (component_code m) (cr_code n)) (λ t. t) (chroma_to m n) (chroma_from m n)
