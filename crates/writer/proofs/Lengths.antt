-- How many bins a set has, at most.
use mathlib.Core.Bool.{true}
use mathlib.Core.List.{◌++◌, ◌∷◌, []}
use Prim.Native.Nat.{◌≤◌}
use native.Mathlib.Omega.{arith}
use lib.ListN.{length, length-append}
use Rattle.std.specs.Prelude.{Option, Some as some, None as none}
use Rattle.standard.specs.declared.CtuSet.{CtuSet}
use Rattle.standard.specs.declared.Switches.{Switches}
use Rattle.standard.specs.Bins.{full}
use Rattle.standard.specs.Means.{not_taken}
use Rattle.standard.proofs.Depths.{largest_at_most_31}
use Rattle.standard.proofs.Longest.{full_length}
use Rattle.writer.specs.declared.Shape.{Shape}
use Rattle.writer.specs.declared.Shape.TheVariants.{Empty, Left, Up, Full}
use Rattle.writer.specs.Forms.{shape_bins}

not_taken_length : (near : Option CtuSet) → length (not_taken near) ≤ 1
not_taken_length none = omega arith
not_taken_length (some q) = omega arith

full_at_most : (s : Switches) (q : CtuSet) → length (full s q) ≤ 403
full_at_most s q = omega (arith, full_length s q, largest_at_most_31 s.y, largest_at_most_31 s.cb, largest_at_most_31 s.cr)

pub shape_length : (s : Switches) (left up : Option CtuSet) (q : CtuSet) (shape : Shape) → length (shape_bins s left up q shape) ≤ 405
unfolding shape_bins
shape_length s left up q Empty = omega arith
shape_length s left up q Left = omega arith
shape_length s left up q Up = omega (arith, length-append (not_taken left) (true ∷ []), not_taken_length left)
shape_length s left up q Full =
    omega (arith, length-append (not_taken left) (not_taken up ++ full s q), length-append (not_taken up) (full s q), not_taken_length left, not_taken_length up, full_at_most s q)
