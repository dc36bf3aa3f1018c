-- `Cursor::edge` meets its contract: offsets, and a class.
use Rattle.standard.specs.declared.Offsets.TheVariants.{Edge}
use Rattle.standard.proofs.Elements.{fixed_code}
use Rattle.standard.proofs.Components.{edge_signed_code, edge_code}
use Rattle.bins.proofs.ByReader.{takes}
use Rattle.bins.proofs.Readers.{edge_read}
use Rattle.bins.proofs.Steps.{ended, known, missed, read_as, then_took, then_cut, mapped_took}
use Rattle.bins.proofs.Cursor.edge.Goals as goal

pub returns-in_err-offsets : goal.returns-in_err-offsets
returns-in_err-offsets c = ended (edge_signed_code _) (edge_code _) _ (edge_read _) c.edge_offsets.ensures c.in_err-offsets.was c.from_residual.ensures

pub returns-in_err-k : goal.returns-in_err-k
returns-in_err-k c =
    let h1 = known (edge_signed_code _) c.edge_offsets.ensures c.in_ok-offsets.was in
    missed c.from_residual-in_err-k.ensures
    (takes (edge_code _) (read_as (edge_read _) (then_took _ h1 (then_cut _ (known (fixed_code _) c.fixed.ensures c.in_err-k.was)))))

pub returns : goal.returns
returns c =
    let h1 = known (edge_signed_code _) c.edge_offsets.ensures c.in_ok-offsets.was in
    let h2 = known (fixed_code _) c.fixed.ensures c.in_ok-k.was in
    takes (edge_code _) (read_as (edge_read _) (then_took _ h1 (mapped_took (λ k. Edge k c.in_ok-offsets.offsets) h2)))
