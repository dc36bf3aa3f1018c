-- Bins read back: the reader of a CTU finds the set that the bins mean, and no other. So every list of bins means one set,
-- ends too early or has bins that remain, and only one of the three.
use mathlib.Core.Path.{◌≡◌, refl, sym, ap, ◌∙◌, subst}
use mathlib.Core.Bool.{Bool}
use mathlib.Core.List.{List, [], ◌∷◌, ◌++◌, append_assoc, append-nil}
use Rattle.std.specs.Prelude.{Option}
use Rattle.standard.specs.declared.CtuSet.{CtuSet}
use Rattle.standard.specs.declared.Switches.{Switches}
use Rattle.standard.specs.Means.{Means, Early, Remain}
use Rattle.standard.proofs.Codes.{Got, got, short, impossible, never}
use Rattle.standard.proofs.Ctu.{ctu_code}

-- the set at the head of some bins, and the bins beyond it
unfoldable pub read_ctu : Switches → Option CtuSet → Option CtuSet → List Bool → Got CtuSet
unfolding ctu_code
read_ctu s left up bins = (ctu_code s left up).read bins

-- ---- bins that mean a set

-- they are read as it
pub read_back : {s : Switches} {left up : Option CtuSet} {q : CtuSet} {bins : List Bool} → Means s left up q bins → (more : List Bool)
    → read_ctu s left up (bins ++ more) ≡ got q more
unfolding read_ctu
read_back {s} {left} {up} {q} {bins} m more = (ctu_code s left up).back q bins more m

-- what is read is meant
pub read_only : (s : Switches) (left up : Option CtuSet) (l : List Bool) {q : CtuSet} {more : List Bool} → read_ctu s left up l ≡ got q more
    → (bins : List Bool) × (l ≡ bins ++ more) × Means s left up q bins
unfolding read_ctu
read_only s left up l {q} {more} e = (ctu_code s left up).only l q more e

pub meant_is_got : {s : Switches} {left up : Option CtuSet} {q : CtuSet} {bins : List Bool} → Means s left up q bins → read_ctu s left up bins ≡ got q []
meant_is_got {s} {left} {up} {q} {bins} m = ap (read_ctu s left up) (sym (append-nil bins)) ∙ read_back m []

pub got_is_meant : (s : Switches) (left up : Option CtuSet) (bins : List Bool) {q : CtuSet} → read_ctu s left up bins ≡ got q [] → Means s left up q bins
got_is_meant s left up bins {q} e =
    let k = read_only s left up bins e in
    subst (Means s left up q) (sym (k.1 ∙ append-nil k.0)) k.2

pub one_meaning : {s : Switches} {left up : Option CtuSet} {p q : CtuSet} {bins : List Bool} → Means s left up p bins → Means s left up q bins → p ≡ q
one_meaning {p = p} {q = q} m n = let e : got p [] ≡ got q [] = sym (meant_is_got m) ∙ meant_is_got n in cc

-- they begin no others that do
pub no_beginning : {s : Switches} {left up : Option CtuSet} {p q : CtuSet} {a more : List Bool} → Means s left up p a → Means s left up q (a ++ more)
    → (more ≡ []) × (p ≡ q)
no_beginning {p = p} {q = q} {more = more} m n = let e : got p more ≡ got q [] = sym (read_back m more) ∙ meant_is_got n in (cc, cc)

-- ---- bins that end too early

pub short_is_early : (s : Switches) (left up : Option CtuSet) (bins : List Bool) → read_ctu s left up bins ≡ short → Early s left up bins
unfolding read_ctu
short_is_early s left up bins e = (ctu_code s left up).more bins e

not_nil : {X : Type 0} (l : List Bool) (b : Bool) (more : List Bool) → l ++ (b ∷ more) ≡ [] → X
not_nil [] b more e = impossible cc
not_nil (c ∷ l) b more e = impossible cc

pub early_is_short : {s : Switches} {left up : Option CtuSet} (bins : List Bool) → Early s left up bins → read_ctu s left up bins ≡ short
early_is_short {s} {left} {up} bins (b, more, q, m) = go (read_ctu s left up bins) refl
  where
    go : (g : Got CtuSet) → read_ctu s left up bins ≡ g → read_ctu s left up bins ≡ short
    go short e = e
    go (got p l) e =
        let k = read_only s left up bins e in
        let longer = ap (λ (x : List Bool). x ++ (b ∷ more)) k.1 ∙ append_assoc k.0 l (b ∷ more) in
        not_nil l b more (no_beginning k.2 (subst (Means s left up q) longer m)).0

-- ---- bins that remain

pub remain_is_got : {s : Switches} {left up : Option CtuSet} {bins : List Bool} → Remain s left up bins
    → (q : CtuSet) × (b : Bool) × (more : List Bool) × (read_ctu s left up bins ≡ got q (b ∷ more))
remain_is_got {s} {left} {up} (front, b, more, q, e, m) = (q, b, more, ap (read_ctu s left up) e ∙ read_back m (b ∷ more))

pub got_is_remain : (s : Switches) (left up : Option CtuSet) (bins : List Bool) {q : CtuSet} {b : Bool} {more : List Bool}
    → read_ctu s left up bins ≡ got q (b ∷ more) → Remain s left up bins
got_is_remain s left up bins {q} {b} {more} e = let k = read_only s left up bins e in (k.0, b, more, q, k.1, k.2)

-- ---- every list of bins is one of the three

pub data Heard (s : Switches) (left up : Option CtuSet) (bins : List Bool) : Type 0 where
  meant : (q : CtuSet) → Means s left up q bins → Heard s left up bins
  early : Early s left up bins → Heard s left up bins
  remain : Remain s left up bins → Heard s left up bins

unfoldable pub heard : (s : Switches) (left up : Option CtuSet) (bins : List Bool) (g : Got CtuSet) → read_ctu s left up bins ≡ g → Heard s left up bins
heard s left up bins (got q []) e = meant q (got_is_meant s left up bins e)
heard s left up bins (got q (b ∷ more)) e = remain (got_is_remain s left up bins e)
heard s left up bins short e = early (short_is_early s left up bins e)

unfoldable pub hear : (s : Switches) (left up : Option CtuSet) (bins : List Bool) → Heard s left up bins
unfolding heard read_ctu
hear s left up bins = heard s left up bins (read_ctu s left up bins) refl

-- and of one only

pub meant_not_early : {s : Switches} {left up : Option CtuSet} {q : CtuSet} {bins : List Bool} → Means s left up q bins → Early s left up bins → ⊥
meant_not_early {bins = bins} m e = never (sym (early_is_short bins e) ∙ meant_is_got m)

pub meant_not_remain : {s : Switches} {left up : Option CtuSet} {q : CtuSet} {bins : List Bool} → Means s left up q bins → Remain s left up bins → ⊥
meant_not_remain {q = q} m r =
    let k = remain_is_got r in
    let e : got q [] ≡ got k.0 (k.1 ∷ k.2) = sym (meant_is_got m) ∙ k.3 in
    impossible cc

pub early_not_remain : {s : Switches} {left up : Option CtuSet} {bins : List Bool} → Early s left up bins → Remain s left up bins → ⊥
early_not_remain {bins = bins} e r = never (sym (early_is_short bins e) ∙ (remain_is_got r).3)
