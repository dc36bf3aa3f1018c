-- `Cursor::coded_form` meets its contract: what the bins begin with, and whether bins remain.
use mathlib.Core.Path.{◌≡◌, ap, sym, ◌∙◌, subst}
use Rattle.std.specs.Option.{ok_or}
use Rattle.std.specs.Prelude.{Err}
use Rattle.std.specs.Result.{result_ok}
use Rattle.bins.specs.Takes.{bins_at}
use Rattle.bins.specs.Forms.{ReadAs}
use Rattle.bins.specs.declared.BinsError.TheVariants.{TooEarly}
use Rattle.bins.proofs.Forms.{handed_on, form_early, form_remains, form_whole}
use Rattle.bins.proofs.Steps.{known_taken}
use Rattle.bins.proofs.Cursor.coded_form.Goals as goal

pub returns-in_err-form : goal.returns-in_err-form
returns-in_err-form c =
    let a = c.args in
    let missing = c.ok_or.ensures.ok_part ∙ ap result_ok c.in_err-form.was in
    let same = sym (ap (λ o. ok_or o TooEarly) missing) ∙ sym c.ok_or.ensures.value ∙ c.in_err-form.was in
    handed_on a.s a.has_left a.has_up _ _ _ c.from_residual.ensures.1
    (subst (λ e. ReadAs a.s a.has_left a.has_up (bins_at a.self) (Err e)) (let t : TooEarly ≡ c.in_err-form.field-0.0 = cc in t)
    (form_early a.s a.has_left a.has_up c.requires (known_taken c.form.ensures missing)))

pub returns-then-end : goal.returns-then-end
returns-then-end c =
    let a = c.args in
    let t = known_taken c.form.ensures (c.ok_or.ensures.ok_part ∙ ap result_ok c.in_ok-form.was) in
    form_remains a.s a.has_left a.has_up c.requires t c.if-end.true

pub returns : goal.returns
returns c =
    let a = c.args in
    let t = known_taken c.form.ensures (c.ok_or.ensures.ok_part ∙ ap result_ok c.in_ok-form.was) in
    form_whole a.s a.has_left a.has_up c.requires t c.if-end.false
