-- Offsets as signed bytes: what is small is read back as it was put in.
use mathlib.Core.Path.{◌≡◌}
use Prim.Native.Nat.{◌<◌, ◌^◌}
use lib.IntN.{ℤ}
use lib.Signed.{mag}
use mir.Syntax.{Width, w8}
use mir.Val.{SFits, of_z, to_z, hbits}
use mir.ValLaws.{to_z-of_z}
use Rattle.standard.specs.declared.Four.{Four}
use Rattle.standard.specs.Sets.{four}

abbrev pub back : Width → ℤ → ℤ
back w z = to_z w (of_z w z)

pub small : (w : Width) (z : ℤ) → mag z < 2 ^ hbits w → SFits w z
small w z h = record { sfits = h }

pub backed : (w : Width) (z : ℤ) → mag z < 2 ^ hbits w → back w z ≡ z
backed w z h = to_z-of_z w z (small w z h)

-- four at once
pub four_back : {o : Four ℤ} → mag o.o1 < 128 → mag o.o2 < 128 → mag o.o3 < 128 → mag o.o4 < 128
    → four (back w8 o.o1) (back w8 o.o2) (back w8 o.o3) (back w8 o.o4) ≡ o
four_back {o} h1 h2 h3 h4 = λ n. four (backed w8 o.o1 h1 n) (backed w8 o.o2 h2 n) (backed w8 o.o3 h3 n) (backed w8 o.o4 h4 n)
