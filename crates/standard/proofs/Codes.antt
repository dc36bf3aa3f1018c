-- A code: values, the bins of each, and a reader that finds the value at the head of a list of bins. Codes are put together from
-- one bin up, and every reader has its laws from those of its parts.
use mathlib.Core.Path.{◌≡◌, refl, sym, ap, ap₂, ◌∙◌, subst}
use mathlib.Core.Bool.{Bool, false}
use mathlib.Core.List.{List, [], ◌∷◌, ◌++◌, append_assoc}
use Prim.Native.Nat.{ℕ}
use native.Mathlib.Omega.{arith}

-- the value read and the bins beyond it; or the bins end too early
pub data Got (A : Type 0) : Type 0 where
  got : A → List Bool → Got A
  short : Got A

abbrev pub then : {A B : Type 0} → Got A → (A → List Bool → Got B) → Got B
then (got a beyond) next = next a beyond
then short next = short

-- Is a w says that w are the bins of a
pub record Code {A : Type 0} (Is : A → List Bool → Type 0) : Type 0 where
  pub read : List Bool → Got A
  pub back : (a : A) (w beyond : List Bool) → Is a w → read (w ++ beyond) ≡ got a beyond
  pub only : (l : List Bool) (a : A) (beyond : List Bool) → read l ≡ got a beyond → (w : List Bool) × (l ≡ w ++ beyond) × Is a w
  -- where the bins end too early, more of them would be those of a value
  pub more : (l : List Bool) → read l ≡ short → (b : Bool) × (m : List Bool) × (a : A) × Is a (l ++ (b ∷ m))
  pub example : (a : A) × (w : List Bool) × Is a w

-- `impossible cc`: the facts at hand cannot all hold
pub impossible : {X : Type 0} → ◌≡◌ {A = ℕ} 0 1 → X
impossible e = absurd (omega (arith, e))

pub never : {A X : Type 0} {a : A} {l : List Bool} → short ≡ got a l → X
never e = impossible cc

then_got : {A B : Type 0} (g : Got A) (next : A → List Bool → Got B) {b : B} {beyond : List Bool} → then g next ≡ got b beyond
    → (a : A) × (l : List Bool) × (g ≡ got a l) × (next a l ≡ got b beyond)
then_got (got a l) next e = (a, l, refl, e)
then_got short next e = never e

then_short : {A B : Type 0} (g : Got A) (f : A → B) → then g (λ a l. got (f a) l) ≡ short → g ≡ short
then_short (got a l) f e = never (sym e)
then_short short f e = refl

Of : {A : Type 0} → (A → List Bool → Type 0) → Got A → Type 0
Of P (got a l) = P a l
Of P short = Unit {0}

carried : {A : Type 0} (P : A → List Bool → Type 0) {x y : A} {l r : List Bool} → got x l ≡ got y r → P x l → P y r
unfolding Of
carried P e p = subst (Of P) e p

-- ---- one after another: bins of a, then bins of b

abbrev pub Then : {A B : Type 0} → (A → List Bool → Type 0) → (A → B → List Bool → Type 0) → A × B → List Bool → Type 0
Then I J t w = (u : List Bool) × (v : List Bool) × (w ≡ u ++ v) × I t.0 u × J t.0 t.1 v

module _ {A B : Type 0} {I : A → List Bool → Type 0} {J : A → B → List Bool → Type 0} (c : Code I) (k : (a : A) → Code (J a)) where
  abbrev second : A → List Bool → Got (A × B)
  second a l = then ((k a).read l) (λ b l. got (a, b) l)

  abbrev read_both : List Bool → Got (A × B)
  read_both l = then (c.read l) second

  pub both_back : (t : A × B) (w beyond : List Bool) → Then I J t w → read_both (w ++ beyond) ≡ got t beyond
  both_back t w beyond (u, v, e, i, j) =
      ap read_both (ap (λ (x : List Bool). x ++ beyond) e ∙ append_assoc u v beyond)
      ∙ ap (λ (g : Got A). then g second) (c.back t.0 u (v ++ beyond) i)
      ∙ ap (λ (g : Got B). then g (λ b l. got (t.0, b) l)) ((k t.0).back t.1 v beyond j)

  pub both_only : (l : List Bool) (t : A × B) (beyond : List Bool) → read_both l ≡ got t beyond → (w : List Bool) × (l ≡ w ++ beyond) × Then I J t w
  both_only l t beyond e =
      let a = then_got (c.read l) second e in
      let b = then_got ((k a.0).read a.1) (λ y r. got (a.0, y) r) a.3 in
      let x = c.only l a.0 a.1 a.2 in
      let y = (k a.0).only a.1 b.0 b.1 b.2 in
      carried (λ t r. (w : List Bool) × (l ≡ w ++ r) × Then I J t w) b.3
      (x.0 ++ y.0, x.1 ∙ ap (λ (r : List Bool). x.0 ++ r) y.1 ∙ sym (append_assoc x.0 y.0 b.1), (x.0, y.0, refl, x.2, y.2))

  pub both_more : (l : List Bool) → read_both l ≡ short → (b : Bool) × (m : List Bool) × (t : A × B) × Then I J t (l ++ (b ∷ m))
  both_more l e = go (c.read l) refl
    where
      go : (g : Got A) → c.read l ≡ g → (b : Bool) × (m : List Bool) × (t : A × B) × Then I J t (l ++ (b ∷ m))
      go short p =
          let x = c.more l p in
          let y = (k x.2).example in
          (x.0, x.1 ++ y.1, (x.2, y.0), (l ++ (x.0 ∷ x.1), y.1, sym (append_assoc l (x.0 ∷ x.1) y.1), x.3, y.2))
      go (got a r) p =
          let s : (k a).read r ≡ short = then_short ((k a).read r) (λ b. (a, b)) (sym (ap (λ (g : Got A). then g second) p) ∙ e) in
          let x = c.only l a r p in
          let y = (k a).more r s in
          let split = ap (λ (z : List Bool). z ++ (y.0 ∷ y.1)) x.1 ∙ append_assoc x.0 r (y.0 ∷ y.1) in
          (y.0, y.1, (a, y.2), (x.0, r ++ (y.0 ∷ y.1), split, x.2, y.3))

  unfoldable pub both : Code (Then I J)
  both = record {
    read = read_both;
    back = both_back;
    only = both_only;
    more = both_more;
    example =
        let x = c.example in
        let y = (k x.0).example in
        ((x.0, y.0), x.1 ++ y.1, (x.1, y.1, refl, x.2, y.2));
  }

-- ---- the same bins, said of other values

module _ {A B : Type 0} {I : A → List Bool → Type 0} {J : B → List Bool → Type 0} (c : Code I) (f : A → B)
    (to : (a : A) (w : List Bool) → I a w → J (f a) w) (from : (b : B) (w : List Bool) → J b w → (a : A) × (f a ≡ b) × I a w) where
  abbrev read_as : List Bool → Got B
  read_as l = then (c.read l) (λ a l. got (f a) l)

  pub as_back : (b : B) (w beyond : List Bool) → J b w → read_as (w ++ beyond) ≡ got b beyond
  as_back b w beyond j =
      let x = from b w j in
      ap (λ (g : Got A). then g (λ a l. got (f a) l)) (c.back x.0 w beyond x.2) ∙ ap (λ (y : B). got y beyond) x.1

  pub as_only : (l : List Bool) (b : B) (beyond : List Bool) → read_as l ≡ got b beyond → (w : List Bool) × (l ≡ w ++ beyond) × J b w
  as_only l b beyond e =
      let a = then_got (c.read l) (λ a l. got (f a) l) e in
      let x = c.only l a.0 a.1 a.2 in
      carried (λ b r. (w : List Bool) × (l ≡ w ++ r) × J b w) a.3 (x.0, x.1, to a.0 x.0 x.2)

  pub as_more : (l : List Bool) → read_as l ≡ short → (b : Bool) × (m : List Bool) × (a : B) × J a (l ++ (b ∷ m))
  as_more l e =
      let x = c.more l (then_short (c.read l) f e) in
      (x.0, x.1, f x.2, to x.2 (l ++ (x.0 ∷ x.1)) x.3)

  unfoldable pub as_code : Code J
  as_code = record {
    read = read_as;
    back = as_back;
    only = as_only;
    more = as_more;
    example = let x = c.example in (f x.0, x.1, to x.0 x.1 x.2);
  }

-- ---- a code whose values have one spelling each

-- a is a value, and f a are its bins
pub record Spelled {A : Type 0} (P : A → Type 0) (f : A → List Bool) (a : A) (w : List Bool) : Type 0 where
  pub holds : P a
  pub bins : w ≡ f a

-- nothing to read
abbrev pub Empty : {A : Type 0} → A → A → List Bool → Type 0
Empty a = Spelled (λ x. x ≡ a) (λ x. [])

unfoldable pub pure : {A : Type 0} (a : A) → Code (Empty a)
pure a = record {
  read = λ l. got a l;
  back = λ x w beyond i. ap₂ got (sym i.holds) (ap (λ (v : List Bool). v ++ beyond) i.bins);
  only = λ l x beyond e. ([], cc, record { holds = cc; bins = refl });
  more = λ l e. never (sym e);
  example = (a, [], record { holds = refl; bins = refl });
}

-- one bin
abbrev pub IsBit : Bool → List Bool → Type 0
IsBit = Spelled (λ b. Unit {0}) (λ b. b ∷ [])

unfoldable pub read_bit : List Bool → Got Bool
read_bit [] = short
read_bit (b ∷ l) = got b l

pub bit_back : (b : Bool) (w beyond : List Bool) → IsBit b w → read_bit (w ++ beyond) ≡ got b beyond
unfolding read_bit
bit_back b w beyond i = ap (λ (v : List Bool). read_bit (v ++ beyond)) i.bins

pub bit_only : (l : List Bool) (b : Bool) (beyond : List Bool) → read_bit l ≡ got b beyond → (w : List Bool) × (l ≡ w ++ beyond) × IsBit b w
unfolding read_bit
bit_only [] b beyond e = never e
bit_only (c ∷ l) b beyond e = (b ∷ [], cc, record { holds = tt; bins = refl })

pub bit_more : (l : List Bool) → read_bit l ≡ short → (b : Bool) × (m : List Bool) × (a : Bool) × IsBit a (l ++ (b ∷ m))
unfolding read_bit
bit_more [] e = (false, [], false, record { holds = tt; bins = refl })
bit_more (c ∷ l) e = never (sym e)

unfoldable pub bit : Code IsBit
unfolding read_bit
bit = record {
  read = read_bit;
  back = bit_back;
  only = bit_only;
  more = bit_more;
  example = (false, false ∷ [], record { holds = tt; bins = refl });
}

-- one after another
module _ {A B : Type 0} {P : A → Type 0} {f : A → List Bool} {Q : A → B → Type 0} {g : A → B → List Bool}
    (c : Code (Spelled P f)) (k : (a : A) → Code (Spelled (Q a) (g a))) where
  abbrev Turn : A × B → List Bool → Type 0
  Turn = Spelled (λ t. P t.0 × Q t.0 t.1) (λ t. f t.0 ++ g t.0 t.1)

  pub turn_to : (t : A × B) (w : List Bool) → Then (Spelled P f) (λ a. Spelled (Q a) (g a)) t w → Turn t w
  turn_to t w (u, v, e, i, j) = record { holds = (i.holds, j.holds); bins = e ∙ ap₂ (λ (x y : List Bool). x ++ y) i.bins j.bins }

  pub turn_from : (t : A × B) (w : List Bool) → Turn t w → (a : A × B) × (a ≡ t) × Then (Spelled P f) (λ a. Spelled (Q a) (g a)) a w
  turn_from t w i = (t, refl, (f t.0, g t.0 t.1, i.bins, record { holds = i.holds.0; bins = refl }, record { holds = i.holds.1; bins = refl }))

  unfoldable pub in_turn : Code (Spelled {A = A × B} (λ t. P t.0 × Q t.0 t.1) (λ t. f t.0 ++ g t.0 t.1))
  unfolding as_code both
  in_turn = as_code (both c k) (λ t. t) turn_to turn_from

-- the same bins, said of other values
module _ {A B : Type 0} {P : A → Type 0} {f : A → List Bool} {Q : B → Type 0} {g : B → List Bool} (c : Code (Spelled P f)) (h : A → B)
    (to : (a : A) → P a → Q (h a) × (f a ≡ g (h a))) (from : (b : B) → Q b → (a : A) × (h a ≡ b) × P a) where
  pub said_to : (a : A) (w : List Bool) → Spelled P f a w → Spelled Q g (h a) w
  said_to a w i = let t = to a i.holds in record { holds = t.0; bins = i.bins ∙ t.1 }

  pub said_from : (b : B) (w : List Bool) → Spelled Q g b w → (a : A) × (h a ≡ b) × Spelled P f a w
  said_from b w i =
      let x = from b i.holds in
      (x.0, x.1, record { holds = x.2; bins = i.bins ∙ sym ((to x.0 x.2).1 ∙ ap g x.1) })

  unfoldable pub said_of : Code (Spelled Q g)
  unfolding as_code
  said_of = as_code c h said_to said_from
