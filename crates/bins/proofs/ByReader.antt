-- What the code takes at a cursor is what the reader of the values' code says of the bins there, and the other way round.
use mathlib.Core.Path.{◌≡◌, refl, sym, ap, ◌∙◌}
use mathlib.Core.Bool.{Bool}
use mathlib.Core.List.{List, [], ◌∷◌, ◌++◌, append_assoc, append-nil}
use Rattle.std.specs.Prelude.{Some, None}
use Rattle.standard.proofs.Codes.{Got, got, short, impossible, Code, Spelled}
use Rattle.bins.specs.declared.Cursor.{Cursor}
use Rattle.bins.specs.Takes.{bins_at, SameBins, Taken, Takes}

-- an answer of the code as an answer about lists: the bins beyond are those from the next cursor on
abbrev pub seen : {A : Type 0} → Taken A → Got A
seen (Some (a, next)) = got a (bins_at next)
seen None = short

-- the cursor handed back is among the same bins
abbrev pub Goes : {A : Type 0} → Cursor → Taken A → Type 0
Goes c (Some (a, next)) = SameBins c next
Goes c None = Unit {0}

pub record Reads {A : Type 0} (c : Cursor) (reader : List Bool → Got A) (r : Taken A) : Type 0 where
  pub says : seen r ≡ reader (bins_at c)
  pub goes : Goes c r

not_nil : {X : Type 0} (l : List Bool) (b : Bool) (more : List Bool) → l ++ (b ∷ more) ≡ [] → X
not_nil [] b more e = impossible cc
not_nil (c ∷ l) b more e = impossible cc

module _ {A : Type 0} {P : A → Type 0} {f : A → List Bool} (code : Code (Spelled P f)) where
  -- bins that begin those of a value, and are fewer, end too early
  begun_is_short : (l : List Bool) (a : A) (b : Bool) (more : List Bool) → P a → l ++ (b ∷ more) ≡ f a → code.read l ≡ short
  begun_is_short l a b more p e = go (code.read l) refl
    where
      go : (g : Got A) → code.read l ≡ g → code.read l ≡ short
      go short k = k
      go (got v beyond) k =
          let x = code.only l v beyond k in
          let longer : f a ++ [] ≡ x.0 ++ (beyond ++ (b ∷ more)) =
          append-nil (f a) ∙ sym e ∙ ap (λ (y : List Bool). y ++ (b ∷ more)) x.1 ∙ append_assoc x.0 beyond (b ∷ more) in
          let same : got a [] ≡ got v (beyond ++ (b ∷ more)) =
          sym (code.back a (f a) [] (record { holds = p; bins = refl })) ∙ ap code.read longer ∙ code.back v x.0 (beyond ++ (b ∷ more)) x.2 in
          not_nil beyond b more (cc)

  module _ {c : Cursor} where
    pub takes : {r : Taken A} → Reads c code.read r → Takes P f c r
    takes {r = Some (a, next)} h =
        let x = code.only (bins_at c) a (bins_at next) (sym h.says) in
        record { spells = (x.2.holds, x.1 ∙ ap (λ (w : List Bool). w ++ bins_at next) x.2.bins, h.goes) }
    takes {r = None} h =
        let x = code.more (bins_at c) (sym h.says) in
        record { spells = (x.2, x.0, x.1, x.3.holds, x.3.bins) }

    pub reads : {r : Taken A} → Takes P f c r → Reads c code.read r
    reads {r = Some (a, next)} h = record {
      says = sym (ap code.read h.spells.1 ∙ code.back a (f a) (bins_at next) (record { holds = h.spells.0; bins = refl }));
      goes = h.spells.2;
    }
    reads {r = None} h =
        let (a, b, more, p, e) = h.spells in
        record { says = sym (begun_is_short (bins_at c) a b more p e); goes = tt }
