-- The rectangle that is scanned, a block and one sample around it, lies in its plane, and has the places that are looked at;
-- and above 2 ^ depth - 1 is not below 2 ^ depth, which is not 0.
use mathlib.Core.Bool.{Bool}
use mathlib.Core.List.{List}
use Prim.Native.Nat.{◌-◌, ◌^◌, ◌<◌, ℕ}
use native.Mathlib.Omega.{arith}
use lib.Pow.{pow_pos}
use Rattle.standard.specs.declared.Offsets.{Offsets}
use Rattle.standard.specs.Picture.{depth_of, plane_width, plane_height, rectangle, grown}
use Rattle.standard.specs.Refusals.{Tells}
use Rattle.standard.proofs.Answers.{tell_same}
use Rattle.standard.proofs.Divisors.{plane_width_lem, plane_height_lem}
use Rattle.standard.proofs.Grid.{ends, grown_holds}
use Rattle.standard.proofs.Seeing.{scans_grown, grown_scans}
use Rattle.geometry.specs.declared.block.Block.{Block}
use Rattle.planes.specs.Places.{Placed}
use Rattle.planes.specs.Scans.{BlockAbove}
use Rattle.filtering.specs.Filtering.{ScannedTooLarge}
use Rattle.lent.specs.States.{state_at}

module _ (b : Block) where
  pub grown_placed : Placed (plane_width b.of.picture b.component) (plane_height b.of.picture b.component) (grown b.of.picture b.component (rectangle b.of.picture b.component b.ctb))
  grown_placed =
      let p = b.of.picture in
      let i = b.component in
      let e = ends b.of.rules i b.ctb_in in
      let h = grown_holds p i {r = rectangle p i b.ctb} e.right e.bottom in
      record {
        wide = (plane_width_lem b.of.rules i).most;
        high = (plane_height_lem b.of.rules i).most;
        columns = omega (arith, e.some_columns, h.left, h.right);
        right = h.width;
        rows = omega (arith, e.some_rows, h.top, h.bottom);
        bottom = h.height;
      }

  pub tells_scanned : (set : Offsets) (plane : List ℕ) (t : Bool)
      → Tells (BlockAbove plane (plane_width b.of.picture b.component) (grown b.of.picture b.component (rectangle b.of.picture b.component b.ctb)) (2 ^ depth_of b.of.picture b.component - 1)) t
      → Tells (ScannedTooLarge (state_at b.of 0) b.component set b.ctb plane) t
  tells_scanned set plane t =
      let p = b.of.picture in
      let i = b.component in
      let l : 0 < 2 ^ depth_of p i = pow_pos _ in
      tell_same t (λ a. (a.0, a.1, grown_scans p i set b.ctb a.0 a.1 a.2, omega (arith, a.3)))
      (λ a. (a.0, a.1, scans_grown p i set b.ctb a.0 a.1 a.2, omega (arith, a.3)))
