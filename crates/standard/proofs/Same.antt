-- What `==` of two components or of two sets tells: whether they are the same.
use mathlib.Core.Path.{◌≡◌, refl, sym, ap, ◌∙◌}
use mathlib.Core.Bool.{Bool, false, ◌&&◌}
use lib.IntN.{ℤ}
use Rattle.std.specs.Bool.{Decides}
use Rattle.std.specs.Ordering.{int_eq}
use Rattle.std.proofs.lemmas.Bool.Decides.{Decides-eqb, Decides-int_eq, Decides-and, Decides-like}
use Rattle.standard.specs.declared.Four.{Four}
use Rattle.standard.specs.declared.Offsets.{Offsets}
use Rattle.standard.specs.declared.Offsets.TheVariants.{Off, Band, Edge}
use Rattle.standard.specs.declared.CtuSet.{CtuSet}
use Rattle.standard.specs.contracts.OffsetsPartialEq.TheImpl as offsets
use Rattle.standard.specs.contracts.CtuSetPartialEq.TheImpl as sets
use Rattle.standard.specs.Sets.{four}
use Rattle.standard.specs.Refusals.{Tells}
use Rattle.standard.proofs.Answers.{tell}
use Rattle.standard.proofs.Decisions.{differ}

four_same : (a b : Four ℤ) → Decides (int_eq a.o1 b.o1 && (int_eq a.o2 b.o2 && (int_eq a.o3 b.o3 && int_eq a.o4 b.o4))) (a ≡ b)
four_same a b =
    Decides-like _ (λ t n. four (t.0 n) (t.1.0 n) (t.1.1.0 n) (t.1.1.1 n))
    (λ e. (ap (λ (o : Four ℤ). o.o1) e, (ap (λ (o : Four ℤ). o.o2) e, (ap (λ (o : Four ℤ). o.o3) e, ap (λ (o : Four ℤ). o.o4) e))))
    (Decides-and _ _ (Decides-int_eq a.o1 b.o1) (Decides-and _ _ (Decides-int_eq a.o2 b.o2) (Decides-and _ _ (Decides-int_eq a.o3 b.o3) (Decides-int_eq a.o4 b.o4))))

apart : {a b : Offsets} → ¬ (a ≡ b) → Decides false (a ≡ b)
apart n = (λ f. differ (cc), λ e. absurd (n e))

pub offsets_same : (a b : Offsets) → Decides (offsets.ghosts.eq a b) (a ≡ b)
offsets_same Off Off = (λ e. refl, λ e. refl)
offsets_same Off (Band q v) = apart (λ e. differ (cc))
offsets_same Off (Edge j v) = apart (λ e. differ (cc))
offsets_same (Band p u) Off = apart (λ e. differ (cc))
offsets_same (Band p u) (Band q v) = Decides-like _ (λ t n. Band (t.0 n) (t.1 n)) (λ e. (cc, cc)) (Decides-and _ _ (Decides-eqb p q) (four_same u v))
offsets_same (Band p u) (Edge j v) = apart (λ e. differ (cc))
offsets_same (Edge k u) Off = apart (λ e. differ (cc))
offsets_same (Edge k u) (Band q v) = apart (λ e. differ (cc))
offsets_same (Edge k u) (Edge j v) = Decides-like _ (λ t n. Edge (t.0 n) (t.1 n)) (λ e. (cc, cc)) (Decides-and _ _ (Decides-eqb k j) (four_same u v))

pub set_same : (a b : CtuSet) → Decides (sets.ghosts.eq a b) (a ≡ b)
set_same a b =
    Decides-like _ (λ t n. record { luma = t.0 n; cb = t.1.0 n; cr = t.1.1 n })
    (λ e. (ap (λ (q : CtuSet). q.luma) e, (ap (λ (q : CtuSet). q.cb) e, ap (λ (q : CtuSet). q.cr) e)))
    (Decides-and _ _ (offsets_same a.luma b.luma) (Decides-and _ _ (offsets_same a.cb b.cb) (offsets_same a.cr b.cr)))

-- the same of a test's answer
tells_same : {A : Type 0} {a b : A} (r e : Bool) → Decides e (a ≡ b) → r ≡ e → Tells (a ≡ b) r
tells_same r e d f = tell r (λ g. d.0 (sym f ∙ g)) (λ g s. let t = f ∙ d.1 s in differ (cc))

pub tells_same_offsets : (a b : Offsets) (r : Bool) → r ≡ offsets.ghosts.eq a b → Tells (a ≡ b) r
tells_same_offsets a b r e = tells_same r (offsets.ghosts.eq a b) (offsets_same a b) e

pub tells_same_set : (a b : CtuSet) (r : Bool) → r ≡ sets.ghosts.eq a b → Tells (a ≡ b) r
tells_same_set a b r e = tells_same r (sets.ghosts.eq a b) (set_same a b) e
