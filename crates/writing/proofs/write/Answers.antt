-- A refusal leaves all as it was; where there is none, the set goes into the entry of the CTU that is due.
use borrow.Author.Rules.{rules}
use mathlib.Core.Path.{ap, ◌∙◌}
use Prim.Native.Nat.{ℕ}
use Rattle.standard.specs.Table.{entered}
use Rattle.writing.proofs.Setting.{refused, accepted}
use Rattle.writing.proofs.write.Goals as goal

pub returns-in-Err : goal.returns-in-Err
returns-in-Err c =
    let a = c.args in
    refused a.state a.q a.out.now a.table.now _ _ _ c.in-Err.ensures (search rules) (search rules)

pub returns-in-Ok : goal.returns-in-Ok
returns-in-Ok c =
    let a = c.args in
    accepted a.state a.q a.out.now a.table.now _ _ _ _ _ c.in-Ok.ensures (search rules) (search rules)
    (c.put_set.ensures ∙ ap (λ (k : ℕ). entered a.table.now k a.q) c.ctu.ensures)
