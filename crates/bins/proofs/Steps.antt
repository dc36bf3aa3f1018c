-- How what is taken at a cursor goes together: one after another, or as another value.
use mathlib.Core.Path.{◌≡◌, refl, sym, ap, ◌∙◌, subst}
use mathlib.Core.Bool.{Bool}
use mathlib.Core.List.{List, [], ◌∷◌, ◌++◌, append_assoc}
use Rattle.std.specs.Prelude.{Some, None}
use Rattle.standard.proofs.Codes.{Got, got, then, Code, Spelled}
use Rattle.bins.specs.declared.Cursor.{Cursor}
use Rattle.bins.specs.Takes.{bins_at, SameBins, Taken, Takes}
use Rattle.bins.proofs.ByReader.{Goes, Reads, takes, reads}

here : {c : Cursor} → SameBins c c
here = record { count = refl; bytes = refl }

pub same_bins : {c d e : Cursor} → SameBins c d → SameBins d e → SameBins c e
same_bins s t = record { count = t.count ∙ s.count; bytes = t.bytes ∙ s.bytes }

-- ---- what was taken

module _ {A : Type 0} {P : A → Type 0} {f : A → List Bool} {c : Cursor} where
  -- a value of no bins
  pub nothing_taken : (a : A) → P a → f a ≡ [] → Takes P f c (Some (a, c))
  nothing_taken a p e = record { spells = (p, sym (ap (λ (x : List Bool). x ++ bins_at c) e), here) }

  -- one after another: the bins of a value that was taken come before those of what is taken next
  pub then_takes : {B : Type 0} {Q : B → Type 0} {g : B → List Bool} {a : A} {d : Cursor} {r : Taken B}
      → Takes P f c (Some (a, d)) → Takes Q g d r → Takes Q (λ b. f a ++ g b) c r
  then_takes {g = g} {a = a} {r = Some (b, next)} h k = record {
    spells = (
      k.spells.0,
      h.spells.1 ∙ ap (λ (x : List Bool). f a ++ x) k.spells.1 ∙ sym (append_assoc (f a) (g b) (bins_at next)),
      same_bins h.spells.2 k.spells.2,
    );
  }
  then_takes {a = a} {d = d} {r = None} h k =
      let (b, x, more, q, e) = k.spells in
      let split = ap (λ (l : List Bool). l ++ (x ∷ more)) h.spells.1 ∙ append_assoc (f a) (bins_at d) (x ∷ more) in
      record { spells = (b, x, more, q, split ∙ ap (λ (l : List Bool). f a ++ l) e) }

  -- the same bins, said of other values
  module _ {B : Type 0} {Q : B → Type 0} {g : B → List Bool} (h : A → B) (to : (a : A) → P a → Q (h a) × (f a ≡ g (h a))) where
    pub said_took : {a : A} {next : Cursor} → Takes P f c (Some (a, next)) → Takes Q g c (Some (h a, next))
    said_took {a} {next} k =
        let t = to a k.spells.0 in
        record { spells = (t.0, k.spells.1 ∙ ap (λ (x : List Bool). x ++ bins_at next) t.1, k.spells.2) }

    pub said_cut : Takes P f c None → Takes Q g c None
    said_cut k = let t = to k.spells.0 k.spells.3 in record { spells = (h k.spells.0, k.spells.1, k.spells.2, t.0, k.spells.4 ∙ t.1) }

  -- and of the same values by another rule
  pub takes_as : {Q : A → Type 0} {g : A → List Bool} {r : Taken A} → ((a : A) → P a → Q a × (f a ≡ g a)) → Takes P f c r → Takes Q g c r
  takes_as {r = Some (a, next)} to k = said_took (λ a. a) to k
  takes_as {r = None} to k = said_cut (λ a. a) to k

  pub known_taken : {r t : Taken A} → Takes P f c r → r ≡ t → Takes P f c t
  known_taken h e = subst (Takes P f c) e h

  -- an answer handed on by a `?`
  pub missed : {r : Taken A} → r ≡ None → Takes P f c None → Takes P f c r
  missed e h = known_taken h (sym e)

  -- what was taken is known, and is what the reader of a code says
  pub known : (code : Code (Spelled P f)) {r t : Taken A} → Takes P f c r → r ≡ t → Reads c code.read t
  known code h e = reads code (known_taken h e)

  pub valued_taken : {a b : A} {next : Cursor} → Takes P f c (Some (a, next)) → b ≡ a → Takes P f c (Some (b, next))
  valued_taken {next = next} h e = known_taken h (ap (λ (a : A). Some (a, next)) (sym e))

-- ---- what a reader says

goes_on : {A : Type 0} {c d : Cursor} (r : Taken A) → SameBins c d → Goes d r → Goes c r
goes_on (Some (a, next)) s h = same_bins s h
goes_on None s h = tt

module _ {A : Type 0} {c : Cursor} {reader : List Bool → Got A} where
  -- a value of no bins
  pub made : (a : A) → ((l : List Bool) → reader l ≡ got a l) → Reads c reader (Some (a, c))
  made a e = record { says = sym (e (bins_at c)); goes = here }

  -- the reader said otherwise
  pub read_as : {other : List Bool → Got A} {r : Taken A} → ((l : List Bool) → other l ≡ reader l) → Reads c reader r → Reads c other r
  read_as e h = record { says = h.says ∙ sym (e (bins_at c)); goes = h.goes }

  pub valued : {a b : A} {next : Cursor} → Reads c reader (Some (a, next)) → b ≡ a → Reads c reader (Some (b, next))
  valued {next = next} h e = subst (λ (a : A). Reads c reader (Some (a, next))) (sym e) h

  module _ {B : Type 0} (next : A → List Bool → Got B) where
    pub then_took : {a : A} {d : Cursor} {r : Taken B} → Reads c reader (Some (a, d)) → Reads d (next a) r
        → Reads c (λ l. then (reader l) next) r
    then_took {r = r} h k = record { says = k.says ∙ ap (λ (g : Got A). then g next) h.says; goes = goes_on r h.goes k.goes }

    pub then_cut : Reads c reader None → Reads c (λ l. then (reader l) next) None
    then_cut h = record { says = ap (λ (g : Got A). then g next) h.says; goes = tt }

  pub mapped_took : {B : Type 0} (f : A → B) {a : A} {next : Cursor} → Reads c reader (Some (a, next))
      → Reads c (λ l. then (reader l) (λ a l. got (f a) l)) (Some (f a, next))
  mapped_took f h = record { says = ap (λ (g : Got A). then g (λ a l. got (f a) l)) h.says; goes = h.goes }

-- a value that begins with another, within which the bins end
pub ended : {A B : Type 0} {P : A → Type 0} {f : A → List Bool} {Q : B → Type 0} {g : B → List Bool}
    (part : Code (Spelled P f)) (code : Code (Spelled Q g)) (next : A → List Bool → Got B) → ((l : List Bool) → code.read l ≡ then (part.read l) next)
    → {c : Cursor} {first : Taken A} {r : Taken B} → Takes P f c first → first ≡ None → r ≡ None → Takes Q g c r
ended part code next e h was none = missed none (takes code (read_as e (then_cut _ (known part h was))))
