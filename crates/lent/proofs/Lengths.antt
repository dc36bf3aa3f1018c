-- The lengths that a call is lent, said as document 01's reasons say them, and the verdict on the first reasons carried over to those words.
use mathlib.Core.Path.{◌≡◌, sym, subst}
use mathlib.Core.List.{List, ◌++◌}
use mathlib.Core.Logic.Dec
use Prim.Native.Nat.{ℕ}
use Rattle.std.specs.Prelude.{Result, Some}
use Rattle.standard.specs.declared.Picture.{Picture}
use Rattle.standard.specs.declared.State.{State}
use Rattle.standard.specs.declared.Refusal.{Refusal}
use Rattle.standard.specs.Refusals.{Reason}
use Rattle.standard.specs.Reasons.{Planes, PlanesFit, MarksFit, call_reasons}
use Rattle.standard.specs.Ensures.{Judged}
use Rattle.standard.proofs.Parts.{same_judged, same_both, same_itself}
use Rattle.standard.proofs.Called.{call_same}
use Rattle.standard.proofs.Refusing.{planes_fit?, marks_fit?}
use Rattle.lent.specs.declared.PlaneLengths.{PlaneLengths}
use Rattle.lent.specs.Lengths.{lengths_of, PlanesRight}

module _ (p : Picture) (l : Planes) {n : PlaneLengths} (is : n ≡ lengths_of l) where
  pub planes_fit : PlanesRight p (Some n) → PlanesFit p l
  planes_fit r = let own = subst (λ (m : PlaneLengths). PlanesRight p (Some m)) is r in record { y = own.0; cb = own.1; cr = own.2 }

  pub planes_right : PlanesFit p l → PlanesRight p (Some n)
  planes_right f = subst (λ (m : PlaneLengths). PlanesRight p (Some m)) (sym is) (f.y, f.cb, f.cr)

-- a call that is lent three planes and the marks: deliver the deblocked ones, finished rows the filtered ones
abbrev pub PlanesAndMarks : State → Planes → List ℕ → Type 0
PlanesAndMarks s l marks = PlanesFit s.picture l × MarksFit s.picture marks

pub planes_and_marks? : (s : State) (l : Planes) (marks : List ℕ) → Dec (PlanesAndMarks s l marks)
planes_and_marks? s l marks = Dec.and (planes_fit? s.picture l) (marks_fit? s.picture marks)

-- the verdict on a call that begins so
pub begun : {T : Type 0} (s : State) {A B : Type 0} → (A → B) → (B → A) → (rest : List Reason) (a : Result T Refusal)
    → Judged (call_reasons s A ++ rest) a → Judged (call_reasons s B ++ rest) a
begun s {A} {B} f g rest a =
    same_judged (call_reasons s A ++ rest) (call_reasons s B ++ rest) a (same_both (call_reasons s A) (call_reasons s B) rest rest (call_same s f g) (same_itself rest))
