-- `Cursor::sign` meets its contract: a magnitude other than 0 has one bin.
use mathlib.Core.Path.{◌∙◌}
use mathlib.Core.Bool.{cond}
use lib.IntN.{pos, neg_ℤ}
use mir.Syntax.{w8}
use Rattle.standard.proofs.Codes.{bit}
use Rattle.standard.proofs.Elements.{sign_code}
use Rattle.bins.proofs.ByReader.{takes}
use Rattle.bins.proofs.Readers.{sign_none, sign_some}
use Rattle.bins.proofs.Steps.{made, ended, read_as, known, valued, mapped_took}
use Rattle.standard.proofs.Signed.{backed}
use Rattle.bins.proofs.Cursor.sign.Goals as goal

pub returns-then-v-eq0 : goal.returns-then-v-eq0
returns-then-v-eq0 c = takes (sign_code _) (made _ (λ l. rw c.if-v-eq0.true (sign_none l)))

pub returns-in_err-negative : goal.returns-in_err-negative
returns-in_err-negative c = ended bit (sign_code _) _ (λ l. sign_some _ l c.if-v-eq0.false) c.flag.ensures c.in_err-negative.was c.from_residual.ensures

pub returns : goal.returns
returns c =
    let v = c.args.v in
    takes (sign_code _) (read_as (λ l. sign_some _ l c.if-v-eq0.false)
    (valued (mapped_took (λ b. cond b (neg_ℤ (pos v)) (pos v)) (known bit c.flag.ensures c.in_ok-negative.was))
    (backed w8 _ c.offset.type_inv ∙ c.offset.ensures)))
