-- The table's laws.
use Rattle.samples.proofs.Tables.{table_is, table_negates}
use Rattle.samples.proofs.steps.Goals as goal

pub returns : goal.returns
returns c = record { first = λ class h. (table_is class h).0; second = λ class h. (table_is class h).1; negated = table_negates }
