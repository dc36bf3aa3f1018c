-- What stands beside the CTU is the definitions' left and upper set; with both within the rules, what the set's own reasons say.
use Rattle.geometry.specs.Dues.{state_of}
use Rattle.writing.proofs.Setting.{beside}
use Rattle.writing.proofs.bins_written.Goals as goal

pub returns : goal.returns
returns c =
    let a = c.args in
    beside (state_of a.due) a.q a.out.now a.table.now _ (rw c.merge_left.ensures at c.in_ok-left.ensures) (rw c.merge_up.ensures at c.in_ok-up.ensures)
    c.set_written.result (rw c.switches.ensures at c.set_written.ensures)
