-- `read_form` meets its contract.
use mathlib.Core.Path.{sym, ◌∙◌}
use native.Mathlib.Omega.{arith}
use Rattle.bins.proofs.Forms.{off_remains, off_whole}
use Rattle.bins.proofs.read_form.Goals as goal

pub returns-then-count-gt0 : goal.returns-then-count-gt0
returns-then-count-gt0 c =
    let a = c.args in
    off_remains a.s a.has_left a.has_up a.bytes.now a.count c.requires (sym c.any_on.ensures ∙ c.if-any_on.false) (omega (arith, c.if-count-gt0.true))

pub returns : goal.returns
returns c =
    let a = c.args in
    off_whole a.s a.has_left a.has_up a.bytes.now a.count c.requires (sym c.any_on.ensures ∙ c.if-any_on.false) (omega (arith, c.if-count-gt0.false))
