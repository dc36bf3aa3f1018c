-- The next column of both rows.
use Rattle.std.proofs.Common.{rules, arith, refl, ap, ap₂, ◌∙◌, length}
use Rattle.std.specs.Int.Bits.{bit_or}
use Rattle.std.proofs.lemmas.List.{length_push}
use Rattle.std.proofs.lemmas.Slice.Zip.{zip_turn, zip_end}
use Rattle.planes.specs.Scans.{together}
use Rattle.planes.proofs.Scans.{none_together, next_together}
use Rattle.planes.proofs.or_rows.Goals as goal

pub loop-s-init : goal.loop-s-init
loop-s-init c = none_together _

pub loop-s-preserved : goal.loop-s-preserved
loop-s-preserved c =
    let l = c.loop-s in
    let turn = zip_turn c.args.a.now c.args.b.now l.yielded c.into_iter-s-iterator.result l.s-iterator c.next.new.self c.next.result (search rules) (search rules) l.yielded_by (c.in-Some.s, c.in-Some.t) c.in-Some.is c.next.ensures.steps in
    next_together _ (length l.yielded) _ l.v _ _ l.invariant (ap₂ bit_or (turn.2 0) (turn.3 0)) (length_push l.yielded _) refl

pub returns : goal.returns
returns c =
    let l = c.loop-s in
    let end = zip_end c.args.a.now c.args.b.now l.yielded c.into_iter-s-iterator.result l.s-iterator c.next.new.self c.next.result (search rules) (search rules) l.yielded_by c.in-None.is c.next.ensures.steps in
    l.invariant ∙ ap (together _) (omega (arith, end, c.requires))
