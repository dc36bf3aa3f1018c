-- `Cursor::component` meets its contract: the type picks what follows.
use Rattle.standard.proofs.Elements.{truncated_code}
use Rattle.standard.proofs.Components.{component_code}
use Rattle.bins.proofs.ByReader.{takes}
use Rattle.bins.proofs.Readers.{component_read, rest_off}
use Rattle.bins.proofs.Steps.{made, ended, known, read_as, then_took}
use Rattle.bins.proofs.Cursor.component.Goals as goal

pub returns-in_err-t : goal.returns-in_err-t
returns-in_err-t c = ended (truncated_code _) (component_code _) _ (component_read _) c.magnitude.ensures c.in_err-t.was c.from_residual.ensures

pub returns-then-t-eq0 : goal.returns-then-t-eq0
returns-then-t-eq0 c =
    takes (component_code _) (read_as (component_read _)
    (then_took _ (known (truncated_code _) c.magnitude.ensures c.in_ok-t.was) (made _ (λ l. rw c.if-t-eq0.true (rest_off _ l)))))
