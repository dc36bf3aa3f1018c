-- The bins of a sign, by what an offset is compared with.
use borrow.Author.Tests.{ltb-true}
use mathlib.Core.Path.{◌≡◌, refl}
use mathlib.Core.Bool.{true, false}
use mathlib.Core.List.{[]}
use Prim.Native.Nat.{zero, suc}
use native.Mathlib.Omega.{arith}
use lib.IntN.{ℤ, pos, negsuc}
use lib.Signed.{lt_z}
use Rattle.standard.specs.Bins.{fixed_length, sign_bins}

pub sign_none : (o : ℤ) → o ≡ pos 0 → sign_bins o ≡ []
unfolding sign_bins
sign_none o e = rw e refl

pub sign_below : (o : ℤ) → lt_z o (pos 0) ≡ true → sign_bins o ≡ fixed_length 1 1
unfolding sign_bins fixed_length
sign_below (pos n) e = absurd (omega (arith, ltb-true n 0 e))
sign_below (negsuc n) e = refl

pub sign_above : (o : ℤ) → ¬ (o ≡ pos 0) → lt_z o (pos 0) ≡ false → sign_bins o ≡ fixed_length 1 0
unfolding sign_bins fixed_length
sign_above (pos zero) d e = absurd (d refl)
sign_above (pos (suc n)) d e = refl
sign_above (negsuc n) d e = cc
