-- Four values taken in turn, one for each of the four offsets: all of them, or the bins end within one.
use mathlib.Core.Path.{◌≡◌}
use mathlib.Core.Bool.{Bool}
use mathlib.Core.List.{List}
use Rattle.std.specs.Prelude.{Some, None}
use Rattle.standard.specs.declared.Four.{Four}
use Rattle.standard.specs.Sets.{four}
use Rattle.standard.proofs.Codes.{Code, Spelled}
use Rattle.standard.proofs.Elements.{four_bins, four_code}
use Rattle.bins.specs.declared.Cursor.{Cursor}
use Rattle.bins.specs.Takes.{Taken, Takes}
use Rattle.bins.proofs.ByReader.{takes}
use Rattle.bins.proofs.Readers.{four_read}
use Rattle.bins.proofs.Steps.{ended, known, missed, read_as, then_took, then_cut, mapped_took}

abbrev TakesFour : {A : Type 0} → (A → Type 0) → (A → Type 0) → (A → Type 0) → (A → Type 0) → (A → List Bool) → Cursor → Taken (Four A) → Type 0
TakesFour {A} P1 P2 P3 P4 f c r = Takes (λ (o : Four A). P1 o.o1 × (P2 o.o2 × (P3 o.o3 × P4 o.o4))) (four_bins f) c r

module _ {A : Type 0} {P1 P2 P3 P4 : A → Type 0} {f : A → List Bool}
    (k1 : Code (Spelled P1 f)) (k2 : Code (Spelled P2 f)) (k3 : Code (Spelled P3 f)) (k4 : Code (Spelled P4 f)) {c : Cursor} where
  module _ {r1 : Taken A} (h1 : Takes P1 f c r1) where
    pub cut_first : {r : Taken (Four A)} → r1 ≡ None → r ≡ None → TakesFour P1 P2 P3 P4 f c r
    cut_first e z = ended k1 (four_code k1 k2 k3 k4) _ (four_read k1 k2 k3 k4) h1 e z

    module _ {o1 : A} {d1 : Cursor} (e1 : r1 ≡ Some (o1, d1)) {r2 : Taken A} (h2 : Takes P2 f d1 r2) where
      pub cut_second : {r : Taken (Four A)} → r2 ≡ None → r ≡ None → TakesFour P1 P2 P3 P4 f c r
      cut_second e z =
          missed z (takes (four_code k1 k2 k3 k4) (read_as (four_read k1 k2 k3 k4) (then_took _ (known k1 h1 e1) (then_cut _ (known k2 h2 e)))))

      module _ {o2 : A} {d2 : Cursor} (e2 : r2 ≡ Some (o2, d2)) {r3 : Taken A} (h3 : Takes P3 f d2 r3) where
        pub cut_third : {r : Taken (Four A)} → r3 ≡ None → r ≡ None → TakesFour P1 P2 P3 P4 f c r
        cut_third e z =
            missed z (takes (four_code k1 k2 k3 k4) (read_as (four_read k1 k2 k3 k4)
            (then_took _ (known k1 h1 e1) (then_took _ (known k2 h2 e2) (then_cut _ (known k3 h3 e))))))

        module _ {o3 : A} {d3 : Cursor} (e3 : r3 ≡ Some (o3, d3)) {r4 : Taken A} (h4 : Takes P4 f d3 r4) where
          pub cut_fourth : {r : Taken (Four A)} → r4 ≡ None → r ≡ None → TakesFour P1 P2 P3 P4 f c r
          cut_fourth e z =
              missed z (takes (four_code k1 k2 k3 k4) (read_as (four_read k1 k2 k3 k4)
              (then_took _ (known k1 h1 e1) (then_took _ (known k2 h2 e2) (then_took _ (known k3 h3 e3) (then_cut _ (known k4 h4 e)))))))

          pub took_four : {o4 : A} {d4 : Cursor} → r4 ≡ Some (o4, d4) → TakesFour P1 P2 P3 P4 f c (Some (four o1 o2 o3 o4, d4))
          took_four e4 =
              takes (four_code k1 k2 k3 k4) (read_as (four_read k1 k2 k3 k4)
              (then_took _ (known k1 h1 e1) (then_took _ (known k2 h2 e2) (then_took _ (known k3 h3 e3) (mapped_took _ (known k4 h4 e4))))))
