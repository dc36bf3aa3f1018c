-- The state whose CTU is due.
use Rattle.standard.specs.declared.State.{State}
use Rattle.geometry.specs.declared.due.Due.{Due}

abbrev pub state_of : Due → State
state_of d = record { picture = d.of.picture; next = d.next }
