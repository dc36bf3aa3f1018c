-- A sample that the rows have moved is the standard's clipped sum.
use mathlib.Core.Path.{◌≡◌, refl, sym, ap, ◌∙◌}
use Prim.Native.Nat.{ℕ, zero, suc, ◌-◌, ◌^◌}
use native.Mathlib.Nat.{zero-mul}
use lib.IntN.{ℤ, pos, negsuc, ◌+ℤ◌}
use Rattle.standard.specs.declared.Four.{Four}
use Rattle.standard.specs.Samples.{clip, offset_val}
use Rattle.rows.specs.Moves.{scaled_by, moves_of, value_of, held, moved}

clip_held : (d : ℕ) (z : ℤ) → held (2 ^ d - 1) z ≡ clip d z
unfolding clip
clip_held d (pos n) = refl
clip_held d (negsuc n) = refl

value_scaled : (shift n : ℕ) (o : Four ℤ) → value_of (scaled_by shift o) n ≡ offset_val shift o n
unfolding offset_val scaled_by
value_scaled shift zero o = ap pos (sym (zero-mul (2 ^ shift)))
value_scaled shift (suc zero) o = refl
value_scaled shift (suc (suc zero)) o = refl
value_scaled shift (suc (suc (suc zero))) o = refl
value_scaled shift (suc (suc (suc (suc zero)))) o = refl
value_scaled shift (suc (suc (suc (suc (suc n))))) o = ap pos (sym (zero-mul (2 ^ shift)))

-- THE ROWS COMPUTE THE STANDARD'S SAMPLE
pub moved_is : (depth shift n s : ℕ) (o : Four ℤ)
    → moved (moves_of depth (scaled_by shift o)) n s ≡ clip depth (pos s +ℤ offset_val shift o n)
unfolding moved moves_of
moved_is depth shift n s o =
    clip_held depth (pos s +ℤ value_of (scaled_by shift o) n)
    ∙ ap (λ (z : ℤ). clip depth (pos s +ℤ z)) (value_scaled shift n o)
