-- The rules of a description and of a set are decidable, and so is equality of sets: decisions that compute.
use mathlib.Core.Path.{◌≡◌, refl, ap, ap₂}
use mathlib.Core.Bool.{Bool, true, false}
use mathlib.Core.List.{List, [], ◌∷◌}
use mathlib.Core.Logic.Dec
use Prim.Native.Nat.{ℕ, zero, suc, ◌+◌, ◌%◌, ◌/◌}
use native.Mathlib.Decide.{ℕ_discrete, dec_le, dec_lt}
use lib.IntN.{ℤ, pos, negsuc, nat_abs}
use Rattle.standard.specs.declared.Picture.{Picture}
use Rattle.standard.specs.declared.Four.{Four}
use Rattle.standard.specs.declared.Offsets.{Offsets}
use Rattle.standard.specs.declared.Offsets.TheVariants.{Off, Band, Edge}
use Rattle.standard.specs.declared.CtuSet.{CtuSet}
use Rattle.standard.specs.Picture.{Side, Depth, Rules, columns, ctu_count, Adjacent}
use Rattle.standard.specs.declared.Switches.{Switches}
use Rattle.standard.specs.Sets.{most, four, NotNegative, NotPositive, Small, EdgeSigns, Fits, Shares, Ruled, Valid}
use Rattle.standard.proofs.Decisions.{differ, by_iff, or?}

-- ---- a description

depth? : (n : ℕ) → Dec (Depth n)
unfolding Dec.and
depth? n = Dec.and (dec_le 8 n) (dec_le n 16)

side? : (n : ℕ) → Dec (Side n)
unfolding Dec.and
side? n = by_iff (λ t. (t.0, t.1.0, t.1.1)) (λ t. (t.0, (t.1, t.2))) (Dec.and (ℕ_discrete (n % 8) 0) (Dec.and (dec_le 8 n) (dec_le n 8192)))

false? : (b : Bool) → Dec (b ≡ false)
false? true = no (λ e. differ (cc))
false? false = yes refl

-- a rule of monochrome
mono? : (format : ℕ) {A : Type 0} → Dec A → Dec (format ≡ 0 → A)
mono? format {A = A} a = go (ℕ_discrete format 0) a
  where
    go : Dec (format ≡ 0) → Dec A → Dec (format ≡ 0 → A)
    go f (yes e) = yes (λ h. e)
    go (yes h) (no n) = no (λ k. n (k h))
    go (no m) (no n) = yes (λ h. absurd (m h))

unfoldable pub rules? : (p : Picture) → Dec (Rules p)
unfolding side? depth? false? mono? or? Dec.and
rules? p =
    by_iff
    (λ t. record {
      width = t.0;
      height = t.1.0;
      size = t.1.1.0;
      format = t.1.1.1.0;
      luma_depth = t.1.1.1.1.0;
      chroma_depth = t.1.1.1.1.1.0;
      mono = t.1.1.1.1.1.1.0;
      mono_depth = t.1.1.1.1.1.1.1;
    })
    (λ r. (r.width, (r.height, (r.size, (r.format, (r.luma_depth, (r.chroma_depth, (r.mono, r.mono_depth))))))))
    (Dec.and (side? p.width)
    (Dec.and (side? p.height)
    (Dec.and (or? (ℕ_discrete p.ctb 16) (or? (ℕ_discrete p.ctb 32) (ℕ_discrete p.ctb 64)))
    (Dec.and (dec_le p.format 3)
    (Dec.and (depth? p.depth.luma)
    (Dec.and (depth? p.depth.chroma)
    (Dec.and (mono? p.format (false? p.chroma)) (mono? p.format (ℕ_discrete p.depth.chroma p.depth.luma)))))))))

unfoldable pub adjacent? : (p : Picture) (k j : ℕ) → Dec (Adjacent p k j)
unfolding Dec.and
adjacent? p k j =
    by_iff (λ t. record { there = t.0; left = t.1.0; right = t.1.1.0; above = t.1.1.1.0; below = t.1.1.1.1 })
    (λ a. (a.there, (a.left, (a.right, (a.above, a.below)))))
    (Dec.and (dec_lt j (ctu_count p))
    (Dec.and (dec_le (k % columns p) (j % columns p + 1))
    (Dec.and (dec_le (j % columns p) (k % columns p + 1))
    (Dec.and (dec_le (k / columns p) (j / columns p + 1)) (dec_le (j / columns p) (k / columns p + 1))))))

-- ---- a set

small? : (m : ℕ) (o : Four ℤ) → Dec (Small m o)
unfolding Dec.and
small? m o =
    by_iff (λ t. record { m1 = t.0; m2 = t.1.0; m3 = t.1.1.0; m4 = t.1.1.1 }) (λ s. (s.m1, (s.m2, (s.m3, s.m4))))
    (Dec.and (dec_le (nat_abs o.o1) m) (Dec.and (dec_le (nat_abs o.o2) m) (Dec.and (dec_le (nat_abs o.o3) m) (dec_le (nat_abs o.o4) m))))

not_negative? : (z : ℤ) → Dec (NotNegative z)
not_negative? (pos n) = yes tt
not_negative? (negsuc n) = no (λ b. b)

not_positive? : (z : ℤ) → Dec (NotPositive z)
not_positive? (pos zero) = yes tt
not_positive? (pos (suc n)) = no (λ b. b)
not_positive? (negsuc n) = yes tt

edge_signs? : (o : Four ℤ) → Dec (EdgeSigns o)
unfolding Dec.and not_negative? not_positive?
edge_signs? o =
    by_iff (λ t. record { s1 = t.0; s2 = t.1.0; s3 = t.1.1.0; s4 = t.1.1.1 }) (λ s. (s.s1, (s.s2, (s.s3, s.s4))))
    (Dec.and (not_negative? o.o1) (Dec.and (not_negative? o.o2) (Dec.and (not_positive? o.o3) (not_positive? o.o4))))

unfoldable pub fits? : (m : ℕ) (c : Offsets) → Dec (Fits m c)
unfolding small? edge_signs? Dec.and
fits? m Off = yes tt
fits? m (Band position o) = Dec.and (small? m o) (dec_lt position 32)
fits? m (Edge class o) =
    by_iff (λ t. (t.0, t.1.0, t.1.1)) (λ t. (t.0, (t.1, t.2))) (Dec.and (small? m o) (Dec.and (dec_lt class 4) (edge_signs? o)))

shares? : (a b : Offsets) → Dec (Shares a b)
shares? Off Off = yes tt
shares? Off (Band p o) = no (λ b. b)
shares? Off (Edge k o) = no (λ b. b)
shares? (Band p a) Off = no (λ b. b)
shares? (Band p a) (Band q b) = yes tt
shares? (Band p a) (Edge k b) = no (λ b. b)
shares? (Edge k a) Off = no (λ b. b)
shares? (Edge k a) (Band q b) = no (λ b. b)
shares? (Edge k a) (Edge j b) = ℕ_discrete k j

-- ---- equality of sets

same_ℤ? : (a b : ℤ) → Dec (a ≡ b)
same_ℤ? (pos a) (pos b) = by_iff (λ e. ap pos e) (λ e. cc) (ℕ_discrete a b)
same_ℤ? (pos a) (negsuc b) = no (λ e. differ (cc))
same_ℤ? (negsuc a) (pos b) = no (λ e. differ (cc))
same_ℤ? (negsuc a) (negsuc b) = by_iff (λ e. ap negsuc e) (λ e. cc) (ℕ_discrete a b)

same_four? : (a b : Four ℤ) → Dec (a ≡ b)
unfolding same_ℤ? Dec.and
same_four? a b =
    by_iff (λ t n. four (t.0 n) (t.1.0 n) (t.1.1.0 n) (t.1.1.1 n))
    (λ e. (ap (λ (o : Four ℤ). o.o1) e, (ap (λ (o : Four ℤ). o.o2) e, (ap (λ (o : Four ℤ). o.o3) e, ap (λ (o : Four ℤ). o.o4) e))))
    (Dec.and (same_ℤ? a.o1 b.o1) (Dec.and (same_ℤ? a.o2 b.o2) (Dec.and (same_ℤ? a.o3 b.o3) (same_ℤ? a.o4 b.o4))))

unfoldable pub same_offsets? : (a b : Offsets) → Dec (a ≡ b)
unfolding same_four? Dec.and
same_offsets? Off Off = yes refl
same_offsets? Off (Band p o) = no (λ e. differ (cc))
same_offsets? Off (Edge k o) = no (λ e. differ (cc))
same_offsets? (Band p a) Off = no (λ e. differ (cc))
same_offsets? (Band p a) (Band q b) =
    by_iff (λ t n. Band (t.0 n) (t.1 n)) (λ e. (cc, cc)) (Dec.and (ℕ_discrete p q) (same_four? a b))
same_offsets? (Band p a) (Edge k b) = no (λ e. differ (cc))
same_offsets? (Edge k a) Off = no (λ e. differ (cc))
same_offsets? (Edge k a) (Band q b) = no (λ e. differ (cc))
same_offsets? (Edge k a) (Edge j b) =
    by_iff (λ t n. Edge (t.0 n) (t.1 n)) (λ e. (cc, cc)) (Dec.and (ℕ_discrete k j) (same_four? a b))

unfoldable pub same_set? : (a b : CtuSet) → Dec (a ≡ b)
unfolding same_offsets? Dec.and
same_set? a b =
    by_iff (λ t n. record { luma = t.0 n; cb = t.1.0 n; cr = t.1.1 n })
    (λ e. (ap (λ (q : CtuSet). q.luma) e, (ap (λ (q : CtuSet). q.cb) e, ap (λ (q : CtuSet). q.cr) e)))
    (Dec.and (same_offsets? a.luma b.luma) (Dec.and (same_offsets? a.cb b.cb) (same_offsets? a.cr b.cr)))

-- ---- a set within the rules

ruled? : (b : Bool) {A B : Type 0} → Dec A → Dec B → Dec (Ruled b A B)
ruled? true a b = a
ruled? false a b = b

unfoldable pub valid? : (s : Switches) (q : CtuSet) → Dec (Valid s q)
unfolding ruled? fits? shares? same_offsets? Dec.and
valid? s q =
    by_iff (λ t. record { luma = t.0; chroma = t.1 }) (λ v. (v.luma, v.chroma))
    (Dec.and
    (ruled? s.luma (fits? (most s 0) q.luma) (same_offsets? q.luma Off))
    (ruled? s.chroma
    (by_iff (λ t. (t.0, t.1.0, t.1.1)) (λ t. (t.0, (t.1, t.2))) (Dec.and (fits? (most s 1) q.cb) (Dec.and (fits? (most s 2) q.cr) (shares? q.cb q.cr))))
    (Dec.and (same_offsets? q.cb Off) (same_offsets? q.cr Off))))

-- ---- bytes

unfoldable pub same_bytes? : (a b : List ℕ) → Dec (a ≡ b)
unfolding Dec.and
same_bytes? [] [] = yes refl
same_bytes? [] (y ∷ b) = no (λ e. differ (cc))
same_bytes? (x ∷ a) [] = no (λ e. differ (cc))
same_bytes? (x ∷ a) (y ∷ b) = by_iff (λ t. ap₂ ◌∷◌ t.0 t.1) (λ e. (cc, cc)) (Dec.and (ℕ_discrete x y) (same_bytes? a b))
