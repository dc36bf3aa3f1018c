-- `Cursor::edge_offsets` meets its contract: the signs are known.
use mathlib.Core.Path.{◌∙◌}
use mir.Syntax.{w8}
use Rattle.standard.specs.Sets.{four}
use Rattle.standard.proofs.Elements.{magnitudes_code}
use Rattle.standard.proofs.Components.{edge_signed, edge_signed_code}
use Rattle.bins.proofs.ByReader.{takes}
use Rattle.bins.proofs.Readers.{edge_offsets_read}
use Rattle.bins.proofs.Steps.{ended, known, read_as, valued, mapped_took}
use Rattle.standard.proofs.Signed.{backed}
use Rattle.bins.proofs.Cursor.edge_offsets.Goals as goal

pub returns-in_err-f : goal.returns-in_err-f
returns-in_err-f c = ended (magnitudes_code _) (edge_signed_code _) _ (edge_offsets_read _) c.magnitudes.ensures c.in_err-f.was c.from_residual.ensures

pub returns : goal.returns
returns c =
    let e1 = backed w8 _ c.offset.type_inv ∙ c.offset.ensures in
    let e2 = backed w8 _ c.offset-2.type_inv ∙ c.offset-2.ensures in
    let e3 = backed w8 _ c.offset-3.type_inv ∙ c.offset-3.ensures in
    let e4 = backed w8 _ c.offset-4.type_inv ∙ c.offset-4.ensures in
    takes (edge_signed_code _)
    (valued (read_as (edge_offsets_read _) (mapped_took edge_signed (known (magnitudes_code _) c.magnitudes.ensures c.in_ok-f.was)))
    (λ n. four (e1 n) (e2 n) (e3 n) (e4 n)))
