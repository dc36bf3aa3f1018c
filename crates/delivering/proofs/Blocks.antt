-- The block that is delivered: its rectangle lies in its plane, and has no more than 64 * 64 samples; and where the call is accepted,
-- samples and planes have the block's sizes, and the samples that are put into its plane are delivered.
use mathlib.Core.List.{List}
use mathlib.Core.Path.{◌≡◌, sym, ap, ◌∙◌}
use Prim.Native.Nat.{ℕ, ◌*◌, ◌≤◌, ◌<◌}
use native.Mathlib.Nat.{mul-le-mul}
use native.Mathlib.Omega.{arith}
use lib.ListN.{length}
use Rattle.standard.specs.declared.State.{State}
use Rattle.standard.specs.Picture.{plane_width, plane_height, rectangle}
use Rattle.standard.specs.Refusals.{Clear}
use Rattle.standard.specs.Reasons.{Planes, plane_of, area, deliver_reasons}
use Rattle.standard.specs.Calls.{Written, delivered, Delivered}
use Rattle.standard.proofs.Divisors.{plane_width_lem, plane_height_lem}
use Rattle.standard.proofs.Grid.{ends}
use Rattle.standard.proofs.Granted.{MayDeliver, may_deliver}
use Rattle.standard.proofs.Three.{only_two, plane_long, put, block_written}
use Rattle.geometry.specs.declared.block.Block.{Block}
use Rattle.planes.specs.Places.{Placed}
use Rattle.lent.specs.Lengths.{Names}

module _ (b : Block) where
  pub placed : Placed (plane_width b.of.picture b.component) (plane_height b.of.picture b.component) (rectangle b.of.picture b.component b.ctb)
  placed =
      let e = ends b.of.rules b.component b.ctb_in in
      record {
        wide = (plane_width_lem b.of.rules b.component).most;
        high = (plane_height_lem b.of.rules b.component).most;
        columns = e.some_columns;
        right = e.right;
        rows = omega (arith, e.some_rows);
        bottom = e.bottom;
      }

  pub area_most : area (rectangle b.of.picture b.component b.ctb) ≤ 4096
  area_most = let e = ends b.of.rules b.component b.ctb_in in mul-le-mul e.wide e.high

  -- the samples in the block's rectangle
  abbrev pub Put : List ℕ → List ℕ → List ℕ → Type 0
  Put samples before after =
      Written (plane_width b.of.picture b.component) (plane_height b.of.picture b.component) (rectangle b.of.picture b.component b.ctb)
      (delivered (rectangle b.of.picture b.component b.ctb) samples) before after

-- the third arm of a match on the component
pub other : {s : State} {i k : ℕ} {b : Block} → Names s i k b → ¬ (i ≡ 0) → ¬ (i ≡ 1) → i ≡ 2
other {s} {b = b} n = rw (← n.component) (only_two b.of.picture b.component_in)

-- of an accepted call that names block b
module _ {s : State} {i k : ℕ} (samples : List ℕ) (l : Planes) (marks : List ℕ) {b : Block} (n : Names s i k b) (c : Clear (deliver_reasons s i k samples l marks)) where
  ok : MayDeliver s i k samples l marks
  ok = may_deliver s i k samples l marks c

  pub samples_long : length samples ≡ area (rectangle b.of.picture b.component b.ctb)
  samples_long = rw (n.picture, n.component, n.ctb) ok.deliverable.long

  -- plane j is the component's
  pub own_long : (j : ℕ) → i ≡ j → length (plane_of l j) ≡ plane_width b.of.picture b.component * plane_height b.of.picture b.component
  own_long j e = rw (n.picture, n.component) (ap (λ (m : ℕ). length (plane_of l m)) (sym e) ∙ plane_long i ok.deblocked_fits ok.block.component)

  pub own_put : {a : List ℕ} (j : ℕ) → i ≡ j → j < 3 → Put b samples (plane_of l j) a → Delivered s i k samples l (put l j a)
  own_put j e h w = block_written l j e h (rw (← n.picture, ← n.component, ← n.ctb) w)
