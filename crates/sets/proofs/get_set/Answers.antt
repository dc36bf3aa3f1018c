-- Bytes that encode no set, or a set that breaks the rules, are no sound entry.
use Rattle.standard.proofs.Answers.{told_not}
use Rattle.sets.proofs.Finding.{no_code, not_ruled}
use Rattle.sets.proofs.get_set.Goals as goal
use Rattle.sets.proofs.get_set.Goals.{else-are_codes-via-then-are_codes+else-is_ruled, else-are_codes-via-else-are_codes}

pub returns-else-are_codes : goal.returns-else-are_codes
returns-else-are_codes c =
    let a = c.args in
    let b = c.get_bytes-b in
    elim c.else-are_codes.branch [
      | else-are_codes-via-then-are_codes+else-is_ruled w ↦
          not_ruled a.table.now a.k b.result b.ensures.luma b.ensures.cb b.ensures.cr (told_not w.is_ruled.ensures w.if-is_ruled.false)
      | else-are_codes-via-else-are_codes w ↦
          no_code a.table.now a.k b.result b.ensures.luma b.ensures.cb b.ensures.cr (told_not c.are_codes.ensures w.if-are_codes.false)
    ]
