-- Each test gives one of the cases in which a set has bins, or rules it out.
use mathlib.Core.Path.{sym, ◌∙◌}
use Rattle.standard.proofs.Answers.{told, told_not}
use Rattle.writer.proofs.Chosen.{as_left, ruled, has_meant, meant_by_up}
use Rattle.writer.proofs.Ctu.has_bins.Goals as goal

pub returns-then-is_valid : goal.returns-then-is_valid
returns-then-is_valid c =
    let a = c.args in
    rw c.if-is_valid.true (has_meant a.self.switches a.self.left a.self.up a.q (ruled (told c.is_valid.ensures c.if-is_valid.true)))

pub returns-then-is_copy : goal.returns-then-is_copy
returns-then-is_copy c =
    let a = c.args in
    let on = sym c.any_on.ensures ∙ c.if-any_on.true in
    rw c.if-is_copy.true (has_meant a.self.switches a.self.left a.self.up a.q (as_left on (told c.is_copy.ensures c.if-is_copy.true)))

pub returns-else-is_copy : goal.returns-else-is_copy
returns-else-is_copy c =
    let a = c.args in
    let on = sym c.any_on.ensures ∙ c.if-any_on.true in
    let invalid = told_not c.is_valid.ensures c.if-is_valid.false in
    meant_by_up a.self.switches a.self.left a.self.up a.q on invalid (told_not c.is_copy.ensures c.if-is_copy.false) c.is_copy-else-is_copy.result
    c.is_copy-else-is_copy.ensures
