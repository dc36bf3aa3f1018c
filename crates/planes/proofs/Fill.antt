-- What a row function leaves, `Filled`, determines the part that it was lent.
use mathlib.Core.Path.{◌≡◌, sym, ◌∙◌}
use mathlib.Core.List.{List}
use Prim.Native.Nat.{ℕ}
use lib.ListN.{length}
use lib.Seq.{ext_get_or}
use Rattle.planes.specs.Places.{Filled}

-- what is filled determines the part
pub one_part : {f : ℕ → ℕ} {o a b : List ℕ} → Filled (length o) f o a → Filled (length o) f o b → a ≡ b
one_part {f} {o} {a} {b} k m = ext_get_or 0 a b (k.long ∙ sym m.long) (λ i h. k.each i (rw (← k.long) h) ∙ sym (m.each i (rw (← k.long) h)))
