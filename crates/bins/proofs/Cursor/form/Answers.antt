-- `Cursor::form` meets its contract: merge left, else merge up, else the full form.
use mathlib.Core.Path.{sym}
use mathlib.Core.Bool.{false}
use Rattle.std.specs.Prelude.{Some}
use Rattle.bins.proofs.Forms.{TakesMerge, left_missing, up_missing, full_missing}
use Rattle.bins.proofs.Steps.{known_taken, missed, valued_taken}
use Rattle.bins.proofs.Cursor.form.Goals as goal
use Rattle.bins.proofs.Cursor.form.Goals.{Else-left, Else-up}

-- merge left was not taken
not_left : (c : Else-left) → TakesMerge c.args.has_left c.args.self (Some (false, c.in_ok-left.c1))
not_left c = valued_taken (known_taken c.merge.ensures c.in_ok-left.was) (sym c.if-left.false)

-- nor merge up
not_up : (c : Else-up) → TakesMerge c.args.has_up c.in_ok-left.c1 (Some (false, c.in_ok-up.c2))
not_up c = valued_taken (known_taken c.merge-2.ensures c.in_ok-up.was) (sym c.if-up.false)

pub returns-in_err-left : goal.returns-in_err-left
returns-in_err-left c =
    let a = c.args in
    missed c.from_residual.ensures (left_missing a.s a.has_left a.has_up (known_taken c.merge.ensures c.in_err-left.was))

pub returns-in_err-up : goal.returns-in_err-up
returns-in_err-up c =
    let a = c.args in
    missed c.from_residual-in_err-up.ensures
    (up_missing a.s a.has_left a.has_up (not_left (goal.at.returns-in_err-up c).Else-left) (known_taken c.merge-2.ensures c.in_err-up.was))

pub returns-in_err-q : goal.returns-in_err-q
returns-in_err-q c =
    let a = c.args in
    missed c.from_residual-in_err-q.ensures
    (full_missing a.s a.has_left a.has_up (not_left (goal.at.returns-in_err-q c).Else-left) (not_up (goal.at.returns-in_err-q c).Else-up)
    (known_taken c.full.ensures c.in_err-q.was))
