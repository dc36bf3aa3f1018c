-- Each contract has one answer; those of tests by `one_answer`.
use mathlib.Core.Path.{◌≡◌, refl, sym, ap, ◌∙◌}
use mathlib.Core.List.{List}
use mathlib.Core.Logic.{inl, inr}
use Rattle.std.specs.Prelude.{Option, None, Some}
use Prim.Native.Nat.{ℕ}
use Rattle.standard.specs.declared.Offsets.{Offsets}
use Rattle.standard.specs.declared.CtuSet.{CtuSet}
use Rattle.standard.specs.declared.Switches.{Switches}
use Rattle.standard.specs.Table.{encode, entered, offsets_at}
use Rattle.sets.specs.Entries.{Finds, Stands, StandsFor}
use Rattle.sets.proofs.Finding.{sound_of, found_stored}

pub get_set_once : (s : Switches) (table : List ℕ) (k : ℕ) (r r' : Option CtuSet) → Finds s table k r → Finds s table k r' → r ≡ r'
get_set_once s table k (Some q) (Some q') f f' = ap Some (sym (found_stored f) ∙ found_stored f')
get_set_once s table k (Some q) None f f' = absurd (f' (sound_of f))
get_set_once s table k None (Some q) f f' = absurd (f (sound_of f'))
get_set_once s table k None None f f' = refl

pub put_set_once : (table : List ℕ) (k : ℕ) (q : CtuSet) (exit exit' : List ℕ) → exit ≡ entered table k q → exit' ≡ entered table k q → exit ≡ exit'
put_set_once table k q exit exit' e e' = e ∙ sym e'

pub offsets_at_once : (table : List ℕ) (k i : ℕ) (r r' : Offsets) → r ≡ offsets_at table i k → r' ≡ offsets_at table i k → r ≡ r'
offsets_at_once table k i r r' e e' = e ∙ sym e'

pub say_set_once : (q : CtuSet) (exit exit' : List ℕ) → exit ≡ encode q → exit' ≡ encode q → exit ≡ exit'
say_set_once q exit exit' e e' = e ∙ sym e'

offsets_said_once : {six : List ℕ} {o o' : Offsets} → Stands six o → Stands six o' → o ≡ o'
offsets_said_once (inl s) (inl s') = s.1 ∙ sym s'.1
offsets_said_once (inl s) (inr s') = absurd (s'.0 s.0)
offsets_said_once (inr s) (inl s') = absurd (s.0 s'.0)
offsets_said_once (inr s) (inr s') = s.1 ∙ sym s'.1

-- the bytes of a set stand for one set
pub stands_once : {bytes : List ℕ} {q q' : CtuSet} → StandsFor bytes q → StandsFor bytes q' → q ≡ q'
stands_once s s' = λ i. record {
  luma = offsets_said_once s.luma s'.luma i;
  cb = offsets_said_once s.cb s'.cb i;
  cr = offsets_said_once s.cr s'.cr i;
}
