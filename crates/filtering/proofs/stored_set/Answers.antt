-- What is found in the entry is the stored set.
use Rattle.filtering.proofs.Filtering.{set_sound, set_chosen}
use Rattle.filtering.proofs.stored_set.Goals as goal

pub returns : goal.returns
returns c =
    let a = c.args in
    let h = c.in_ok-q.ensures in
    let is = c.switches_in-s.ensures in
    (set_sound a.block a.table.now is h, set_chosen a.block a.table.now is h c.component_of.ensures)
