-- `Cursor::edge_of` meets its contract.
use Rattle.standard.specs.declared.Offsets.TheVariants.{Edge}
use Rattle.bins.proofs.AfterCb.{edge_of_class}
use Rattle.bins.proofs.Steps.{known_taken, missed, said_took, said_cut}
use Rattle.bins.proofs.Cursor.edge_of.Goals as goal

pub returns-in_err-offsets : goal.returns-in_err-offsets
returns-in_err-offsets c =
    let k = c.args.class in
    missed c.from_residual.ensures
    (said_cut (Edge k) (edge_of_class c.args.m.value k c.requires) (known_taken c.edge_offsets.ensures c.in_err-offsets.was))

pub returns : goal.returns
returns c =
    let k = c.args.class in
    said_took (Edge k) (edge_of_class c.args.m.value k c.requires) (known_taken c.edge_offsets.ensures c.in_ok-offsets.was)
