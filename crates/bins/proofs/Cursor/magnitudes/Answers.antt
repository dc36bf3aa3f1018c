-- `Cursor::magnitudes` meets its contract: four codes in turn.
use Rattle.standard.proofs.Elements.{truncated_code}
use Rattle.bins.proofs.Fours.{cut_first, cut_second, cut_third, cut_fourth, took_four}
use Rattle.bins.proofs.Cursor.magnitudes.Goals as goal

pub returns-in_err-o1 : goal.returns-in_err-o1
returns-in_err-o1 c = let k = truncated_code c.args.m.value in cut_first k k k k c.magnitude.ensures c.in_err-o1.was c.from_residual.ensures

pub returns-in_err-o2 : goal.returns-in_err-o2
returns-in_err-o2 c =
    let k = truncated_code c.args.m.value in
    cut_second k k k k c.magnitude.ensures c.in_ok-o1.was c.magnitude-2.ensures c.in_err-o2.was c.from_residual-in_err-o2.ensures

pub returns-in_err-o3 : goal.returns-in_err-o3
returns-in_err-o3 c =
    let k = truncated_code c.args.m.value in
    cut_third k k k k c.magnitude.ensures c.in_ok-o1.was c.magnitude-2.ensures c.in_ok-o2.was c.magnitude-3.ensures
    c.in_err-o3.was c.from_residual-in_err-o3.ensures

pub returns-in_err-o4 : goal.returns-in_err-o4
returns-in_err-o4 c =
    let k = truncated_code c.args.m.value in
    cut_fourth k k k k c.magnitude.ensures c.in_ok-o1.was c.magnitude-2.ensures c.in_ok-o2.was c.magnitude-3.ensures c.in_ok-o3.was
    c.magnitude-4.ensures c.in_err-o4.was c.from_residual-in_err-o4.ensures

pub returns : goal.returns
returns c =
    let k = truncated_code c.args.m.value in
    took_four k k k k c.magnitude.ensures c.in_ok-o1.was c.magnitude-2.ensures c.in_ok-o2.was c.magnitude-3.ensures c.in_ok-o3.was
    c.magnitude-4.ensures c.in_ok-o4.was
