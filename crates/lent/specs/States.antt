-- The state of a described picture, as the standard's definitions speak of it.
use Rattle.std.specs.Prelude.{ℕ}
use Rattle.standard.specs.declared.State.{State}
use Rattle.geometry.specs.declared.described.Described.{Described}

-- with this next CTU; what reads only the picture of a state is said of one with 0
abbrev pub state_at : Described → ℕ → State
state_at d next = record { picture = d.picture; next = next }
