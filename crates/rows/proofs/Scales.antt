-- An offset of 8 bits times 2^shift, at 16 bits.
use mathlib.Core.Path.{◌≡◌, refl, sym, ap, ap₂, ◌∙◌, subst}
use Prim.Native.Nat.{ℕ, zero, suc, ◌+◌, ◌*◌, ◌%◌, ◌^◌, ◌≤◌, ◌<◌}
use native.Mathlib.Nat.{one-mul, mod-eq_of_lt, lt_of_le_of_lt, mul-le-mul, mul-le-mul_right}
use native.Mathlib.Omega.{arith}
use lib.Dec.{lit<}
use lib.Pow.{pow_mono}
use lib.IntN.{ℤ, pos, negsuc, neg_ℤ, ◌*ℤ◌}
use lib.Signed.{mag}
use mir.Syntax.{w8, w16}
use mir.Val.{SFits, to_z, of_z}
use mir.Facts.{to_z_pos, to_z-of_z}
use Rattle.rows.proofs.Widths.{wide_is}

mag_mul : (z : ℤ) (k : ℕ) → mag (z *ℤ pos k) ≤ (mag z + 1) * k
mag_mul (pos a) k = mul-le-mul_right k (omega arith)
mag_mul (negsuc a) k = go (suc a * k) refl
  where
    go : (n : ℕ) → suc a * k ≡ n → mag (neg_ℤ (pos n)) ≤ (a + 1) * k
    go zero e = omega arith
    go (suc n) e = let q : (a + 1) * k ≡ suc a * k = ap (λ (m : ℕ). m * k) (omega arith) in omega arith

module _ (z : ℤ) (k : ℕ) (hz : SFits w8 z) (hk : k ≤ 6) where
  power_is : (1 * 2 ^ k) % 65536 ≡ 2 ^ k
  power_is = rw one-mul (mod-eq_of_lt (lt_of_le_of_lt (pow_mono hk) (lit< tt)))

  power_small : 2 ^ k ≤ 64
  power_small = pow_mono hk

  product_is : to_z w16 (of_z w16 (to_z w8 (of_z w8 z))) *ℤ to_z w16 ((1 * 2 ^ k) % 65536) ≡ z *ℤ pos (2 ^ k)
  product_is =
      ap₂ (λ (a b : ℤ). a *ℤ b) (wide_is w16 tt hz)
      (ap (λ (n : ℕ). to_z w16 n) power_is ∙ to_z_pos w16 (omega (arith, power_small)))

  product_small : mag (z *ℤ pos (2 ^ k)) < 2 ^ 15
  product_small =
      let q : mag z + 1 ≤ 128 = omega (arith, hz.sfits) in
      let p : (mag z + 1) * 2 ^ k ≤ 128 * 64 = mul-le-mul q power_small in
      omega (arith, mag_mul z (2 ^ k))

  pub product_fits : SFits w16 (to_z w16 (of_z w16 (to_z w8 (of_z w8 z))) *ℤ to_z w16 ((1 * 2 ^ k) % 65536))
  product_fits = subst (λ (v : ℤ). SFits w16 v) (sym product_is) (record { sfits = product_small })

  pub product_back : to_z w16 (of_z w16 (to_z w16 (of_z w16 (to_z w8 (of_z w8 z))) *ℤ to_z w16 ((1 * 2 ^ k) % 65536))) ≡ z *ℤ pos (2 ^ k)
  product_back = to_z-of_z product_fits ∙ product_is

-- an offset handed on is read back as it was
pub handed : {z : ℤ} (k : ℕ) → SFits w8 z → to_z w8 (of_z w8 z) *ℤ pos k ≡ z *ℤ pos k
handed k h = ap (λ (a : ℤ). a *ℤ pos k) (to_z-of_z h)
