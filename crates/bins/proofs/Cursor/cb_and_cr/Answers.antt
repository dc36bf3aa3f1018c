-- `Cursor::cb_and_cr` meets its contract.
use Rattle.standard.proofs.Components.{component_code, cr_code, chroma_code}
use Rattle.bins.proofs.ByReader.{takes}
use Rattle.bins.proofs.Readers.{chroma_read}
use Rattle.bins.proofs.AfterCb.{after_code}
use Rattle.bins.proofs.Steps.{ended, known, missed, takes_as, read_as, then_took, then_cut}
use Rattle.bins.proofs.Cursor.cb_and_cr.Goals as goal

pub returns-in_err-cb : goal.returns-in_err-cb
returns-in_err-cb c = ended (component_code _) (chroma_code _ _) _ (chroma_read _ _) c.component.ensures c.in_err-cb.was c.from_residual.ensures

pub returns-in_err-cr : goal.returns-in_err-cr
returns-in_err-cr c =
    let h1 = known (component_code _) c.component.ensures c.in_ok-cb.was in
    missed c.from_residual-in_err-cr.ensures
    (takes (chroma_code _ _) (read_as (chroma_read _ _)
    (then_took _ h1 (then_cut _ (known (cr_code _ _) (takes_as (after_code _ c.in_ok-cb.cb) c.cr.ensures) c.in_err-cr.was)))))
