-- `Cursor::flag` meets its contract: a bin is a number of one.
use lib.Dec.{eqb}
use Rattle.standard.proofs.Codes.{bit}
use Rattle.standard.proofs.Elements.{fixed_code}
use Rattle.bins.proofs.ByReader.{takes}
use Rattle.bins.proofs.Readers.{bit_read}
use Rattle.bins.proofs.Steps.{ended, read_as, known, mapped_took}
use Rattle.bins.proofs.Cursor.flag.Goals as goal

pub returns-in_err-v : goal.returns-in_err-v
returns-in_err-v c = ended (fixed_code _) bit _ bit_read c.fixed.ensures c.in_err-v.was c.from_residual.ensures

pub returns : goal.returns
returns c = takes bit (read_as bit_read (mapped_took (λ v. eqb v 1) (known (fixed_code _) c.fixed.ensures c.in_ok-v.was)))
