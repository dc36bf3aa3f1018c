-- What the rows compute with: the offsets of a block, scaled, and the greatest sample.
-- The law `moved_is` of proofs/Moved says that this is the standard's clipped sum.
use Rattle.std.specs.Prelude.{[], ◌∷◌, ℕ, ◌-◌, ◌^◌, min, ℤ, pos, negsuc, ◌+ℤ◌, ◌*ℤ◌, get_or}
use Rattle.standard.specs.declared.Four.{Four}
use Rattle.rows.specs.declared.Moves.{Moves}

-- offsets as coded, multiplied by 2^shift
unfoldable pub scaled_by : ℕ → Four ℤ → Four ℤ
scaled_by shift o = record {
  o1 = o.o1 *ℤ pos (2 ^ shift);
  o2 = o.o2 *ℤ pos (2 ^ shift);
  o3 = o.o3 *ℤ pos (2 ^ shift);
  o4 = o.o4 *ℤ pos (2 ^ shift);
}

unfoldable pub moves_of : ℕ → Four ℤ → Moves
moves_of depth o = record { by = o; top = 2 ^ depth - 1 }

-- of four offsets, that of index n: 0 has none
abbrev pub value_of : Four ℤ → ℕ → ℤ
value_of o n = get_or (pos 0 ∷ o.o1 ∷ o.o2 ∷ o.o3 ∷ o.o4 ∷ []) n (pos 0)

-- z, kept within 0 and top
abbrev pub held : ℕ → ℤ → ℕ
held top (pos n) = min n top
held top (negsuc n) = 0

-- a sample moved by the offset of index n
unfoldable pub moved : Moves → ℕ → ℕ → ℕ
moved m n s = held m.top (pos s +ℤ value_of m.by n)
