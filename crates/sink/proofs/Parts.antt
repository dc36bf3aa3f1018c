-- What follows a type: that of Cr, and the class of an edge.
use mathlib.Core.Path.{◌≡◌, refl, sym, ap, ◌∙◌}
use mathlib.Core.List.{◌++◌, append-nil}
use Prim.Native.Nat.{ℕ, ◌+◌}
use lib.ListN.{length, length-append}
use Rattle.standard.specs.declared.Offsets.{Offsets}
use Rattle.standard.specs.declared.Offsets.TheVariants.{Off, Band, Edge}
use Rattle.standard.specs.Bins.{rest, rest_of_cr}
use Rattle.sink.specs.Sinks.{class_bins}

pub rest_parts : (m : ℕ) (o : Offsets) → rest m o ≡ rest_of_cr m o ++ class_bins o
unfolding rest rest_of_cr
rest_parts m Off = refl
rest_parts m (Band position o) = sym (append-nil _)
rest_parts m (Edge class o) = refl

pub rest_length : (m : ℕ) (o : Offsets) → length (rest m o) ≡ length (rest_of_cr m o) + length (class_bins o)
rest_length m o = ap length (rest_parts m o) ∙ length-append (rest_of_cr m o) (class_bins o)
