-- The form of the bins gives the answer, arm by arm.
use mathlib.Core.Path.{◌≡◌, ap, ◌∙◌, subst, subst₂}
use Prim.Native.Nat.{ℕ}
use Rattle.std.specs.Prelude.{Option, Result, Ok, Err, is_some}
use Rattle.standard.specs.declared.Switches.{Switches}
use Rattle.bins.specs.declared.Form.{Form}
use Rattle.bins.specs.declared.BinsError.{BinsError}
use Rattle.geometry.specs.Dues.{state_of}
use Rattle.reading.specs.Reading.{Copied}
use Rattle.reading.proofs.Answering.{ReadHere, read_here, answer_early, answer_remain, answer_left, answer_up, answer_full}
use Rattle.reading.proofs.bins_answer.Goals as goal
use Rattle.reading.proofs.bins_answer.Goals.{After-read_form}

-- what was read of the CTU that is due
form : (c : After-read_form) {r : Result Form BinsError} → c.read_form.result ≡ r → let a = c.args in ReadHere (state_of a.due) a.bytes.now a.count a.table.now r
form c e =
    let a = c.args in
    subst (ReadHere (state_of a.due) a.bytes.now a.count a.table.now) e
    (read_here (state_of a.due) a.bytes.now a.count a.table.now _ c.switches-s.ensures (c.is_some.ensures ∙ ap is_some c.merge_left-left.ensures)
    (c.is_some-2.ensures ∙ ap is_some c.merge_up-up.ensures) c.read_form.ensures)

pub returns-in-Err-TooEarly : goal.returns-in-Err-TooEarly
returns-in-Err-TooEarly c =
    let a = c.args in
    let here = c.in-Err-TooEarly in
    answer_early (state_of a.due) a.bytes.now a.count a.table.now (form (goal.at.returns-in-Err-TooEarly c).After-read_form (here.is ∙ ap Err here.field-0-is))

pub returns-in-Err-BinsRemain : goal.returns-in-Err-BinsRemain
returns-in-Err-BinsRemain c =
    let a = c.args in
    let here = c.in-Err-BinsRemain in
    answer_remain (state_of a.due) a.bytes.now a.count a.table.now (form (goal.at.returns-in-Err-BinsRemain c).After-read_form (here.is ∙ ap Err here.field-0-is))

pub returns-in-Ok-Left : goal.returns-in-Ok-Left
returns-in-Ok-Left c =
    let a = c.args in
    let here = c.in-Ok-Left in
    answer_left (state_of a.due) a.bytes.now a.count a.table.now (form (goal.at.returns-in-Ok-Left c).After-read_form (here.is ∙ ap Ok here.field-0-is)) c.copied.result
    (subst₂ (λ (w : Switches) (k : Option ℕ). Copied w a.table.now k c.copied.result) c.switches-s.ensures c.merge_left-left.ensures c.copied.ensures)

pub returns-in-Ok-Up : goal.returns-in-Ok-Up
returns-in-Ok-Up c =
    let a = c.args in
    let here = c.in-Ok-Up in
    answer_up (state_of a.due) a.bytes.now a.count a.table.now (form (goal.at.returns-in-Ok-Up c).After-read_form (here.is ∙ ap Ok here.field-0-is)) c.copied-in-Ok-Up.result
    (subst₂ (λ (w : Switches) (k : Option ℕ). Copied w a.table.now k c.copied-in-Ok-Up.result) c.switches-s.ensures c.merge_up-up.ensures c.copied-in-Ok-Up.ensures)

pub returns-in-Ok-Full : goal.returns-in-Ok-Full
returns-in-Ok-Full c =
    let a = c.args in
    let here = c.in-Ok-Full in
    answer_full (state_of a.due) a.bytes.now a.count a.table.now (form (goal.at.returns-in-Ok-Full c).After-read_form (here.is ∙ ap Ok here.field-0-is))
