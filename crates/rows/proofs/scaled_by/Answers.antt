-- The four offsets, each scaled.
use mathlib.Core.Path.{◌≡◌, ◌∙◌}
use Prim.Native.Nat.{ℕ, ◌^◌, ◌<◌}
use native.Mathlib.Omega.{arith}
use borrow.Author.Rules.{sfits_of}
use lib.IntN.{ℤ, pos, ◌*ℤ◌}
use lib.Signed.{mag}
use mir.Syntax.{w8, w16}
use mir.Val.{to_z, of_z}
use mir.Facts.{to_z-of_z}
use Rattle.rows.specs.Moves.{scaled_by}
use Rattle.rows.proofs.Scales.{handed}
use Rattle.rows.proofs.scaled_by.Goals as goal

-- an offset, scaled, read back from its bits
scaled : (o : ℤ) {r : ℤ} (k : ℕ) → mag o < 128 → mag r < 32768 → r ≡ to_z w8 (of_z w8 o) *ℤ pos (2 ^ k) → to_z w16 (of_z w16 r) ≡ o *ℤ pos (2 ^ k)
scaled o {r} k f g e = to_z-of_z {w = w16} (sfits_of {w = w16} {z = r} g) ∙ e ∙ handed (2 ^ k) (sfits_of {w = w8} {z = o} f)

pub returns : goal.returns
unfolding scaled_by
returns c =
    let o = c.args.o in
    let k = c.args.shift in
    λ i. record {
      o1 = scaled o.o1 k (omega arith) c.scale.type_inv c.scale.ensures i;
      o2 = scaled o.o2 k (omega arith) c.scale-2.type_inv c.scale-2.ensures i;
      o3 = scaled o.o3 k (omega arith) c.scale-3.type_inv c.scale-3.ensures i;
      o4 = scaled o.o4 k (omega arith) c.scale-4.type_inv c.scale-4.ensures i;
    }
