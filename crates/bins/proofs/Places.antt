-- A magnitude, and a number of fixed length, out of the window w at a cursor.
use mathlib.Core.Path.{◌≡◌, sym, ap, ap₂, ◌∙◌}
use mathlib.Core.Bool.{Bool}
use mathlib.Core.List.{List}
use Prim.Native.Nat.{ℕ, suc, ◌+◌, ◌-◌, ◌/◌, ◌^◌, ◌≤◌, ◌<◌}
use native.Mathlib.Omega.{arith}
use lib.Count.{count_leading_zeros}
use lib.ListN.{length, drop, length-drop}
use lib.Seq.{drop-drop}
use Rattle.std.specs.Prelude.{Some, None}
use Rattle.std.specs.Borrow.{Bor}
use Rattle.standard.specs.Bins.{truncated, fixed_length, bins_of, number}
use Rattle.standard.proofs.Bits.{number_high}
use Rattle.standard.proofs.Codes.{got}
use Rattle.standard.proofs.Elements.{fixed_code, truncated_code}
use Rattle.bins.specs.declared.Cursor.{Cursor}
use Rattle.bins.specs.Takes.{bins_at, Past, Takes}
use Rattle.bins.proofs.Ones.{ones, ones_le, leading_ones}
use Rattle.bins.proofs.Fetch.{bins_length}
use Rattle.bins.proofs.ByReader.{takes}
use Rattle.bins.proofs.Readers.{truncated_full, truncated_part, truncated_cut, fixed_full, fixed_cut}

module _ (c : Cursor) where
  pub left_over : length (bins_at c) ≡ c.count - c.at
  left_over = length-drop c.at (bins_of c.bytes.now c.count) ∙ ap (λ (k : ℕ). k - c.at) (bins_length c.bytes.now c.count c.room)

  beyond : {n : ℕ} {next : Cursor} → Past c n next → bins_at next ≡ drop n (bins_at c)
  beyond {n} p =
      ap₂ (λ (k : ℕ) (l : List Bool). drop k l) p.at (ap₂ (λ (b : Bor (List ℕ)) (k : ℕ). bins_of b.now k) p.among.bytes p.among.count)
      ∙ sym (drop-drop n c.at (bins_of c.bytes.now c.count))

  module _ {w : ℕ} (hw : w ≡ number 32 (bins_at c)) where
    run : count_leading_zeros 32 (4294967295 - w) ≡ ones 32 (bins_at c)
    run = ap (λ (x : ℕ). count_leading_zeros 32 (4294967295 - x)) hw ∙ leading_ones 32 (bins_at c)

    module _ (m : ℕ) where
      pub whole_within : m ≤ count_leading_zeros 32 (4294967295 - w) → c.at + m ≤ c.count
      whole_within g = omega (arith, run, ones_le 32 (bins_at c), left_over, c.place)

      pub magnitude_whole : {next : Cursor} → m ≤ count_leading_zeros 32 (4294967295 - w) → Past c m next
          → Takes (λ v. v ≤ m) (truncated m) c (Some (m, next))
      magnitude_whole g p = takes (truncated_code m) (record {
        says = sym (truncated_full m 32 (bins_at c) (omega (arith, run)) ∙ ap (got m) (sym (beyond p)));
        goes = p.among;
      })

      pub magnitude_part : {next : Cursor} → let z = count_leading_zeros 32 (4294967295 - w) in m < 32 → z < m → z < c.count - c.at → Past c (z + 1) next
          → Takes (λ v. v ≤ m) (truncated m) c (Some (z, next))
      magnitude_part f g t p =
          let z : ℕ = count_leading_zeros 32 (4294967295 - w) in
          let next : suc z ≡ z + 1 = omega arith in
          takes (truncated_code m) (record {
            says =
                sym (truncated_part m 32 (bins_at c) (omega arith) (omega (arith, run)) (omega (arith, run, left_over))
                ∙ ap (λ (k : ℕ). got k (drop (suc k) (bins_at c))) (sym run)
                ∙ ap (λ (k : ℕ). got z (drop k (bins_at c))) next
                ∙ ap (got z) (sym (beyond p)));
            goes = p.among;
          })

      pub magnitude_cut : m < 32 → count_leading_zeros 32 (4294967295 - w) < m → c.count - c.at ≤ count_leading_zeros 32 (4294967295 - w)
          → Takes (λ v. v ≤ m) (truncated m) c None
      magnitude_cut f g t = takes (truncated_code m) (record {
        says = sym (truncated_cut m 32 (bins_at c) (omega arith) (omega (arith, run)) (omega (arith, run, left_over)));
        goes = tt;
      })

      pub fixed_value : {next : Cursor} → m < 32 → m ≤ c.count - c.at → Past c m next
          → Takes (λ v. v < 2 ^ m) (fixed_length m) c (Some (w / 2 ^ (32 - m), next))
      fixed_value f g p =
          let sums : m + (32 - m) ≡ 32 = omega arith in
          let high : w / 2 ^ (32 - m) ≡ number m (bins_at c) =
          ap (λ (x : ℕ). x / 2 ^ (32 - m)) (hw ∙ ap (λ (k : ℕ). number k (bins_at c)) (sym sums)) ∙ number_high m (32 - m) (bins_at c) in
          takes (fixed_code m) (record {
            says = ap₂ got high (beyond p) ∙ sym (fixed_full m (bins_at c) (omega (arith, left_over)));
            goes = p.among;
          })

  pub fixed_none : (m : ℕ) → c.count - c.at < m → Takes (λ v. v < 2 ^ m) (fixed_length m) c None
  fixed_none m g = takes (fixed_code m) (record { says = sym (fixed_cut m (bins_at c) (omega (arith, left_over))); goes = tt })
