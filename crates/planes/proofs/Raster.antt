-- Planes within the rules are small enough for an index; a place has one index.
use mathlib.Core.Path.{◌≡◌, sym, ◌∙◌}
use Prim.Native.Nat.{ℕ, ◌*◌, ◌^◌, ◌≤◌}
use native.Mathlib.Nat.{mul-le-mul}
use Rattle.planes.specs.Places.{Indexed}

-- a plane of at most 8192 by 8192 has at most 2 ^ 26 samples
pub area : (w h : ℕ) → w ≤ 8192 → h ≤ 8192 → w * h ≤ 2 ^ 26
area w h p q = mul-le-mul p q

-- a place has one index
pub one_index : {w h x y i j : ℕ} → Indexed w h x y i → Indexed w h x y j → i ≡ j
one_index p q = p.place ∙ sym q.place
