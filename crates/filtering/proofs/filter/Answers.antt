-- A refusal leaves all as it was; where the call is accepted, the mark is 2 and the samples are in the filtered plane of the component, which
-- each arm of the match knows by its number.
use mathlib.Core.List.{List}
use mathlib.Core.Path.{◌≡◌, refl}
use Prim.Native.Nat.{ℕ, ◌<◌}
use native.Mathlib.Omega.{arith}
use borrow.Author.Rules.{rules}
use lib.ListN.{set}
use Rattle.std.specs.Prelude.{Ok}
use Rattle.standard.specs.Reasons.{Planes, plane_of}
use Rattle.standard.specs.Calls.{Filtered}
use Rattle.standard.specs.Ensures.{FilterEnsures}
use Rattle.standard.proofs.Three.{put}
use Rattle.filtering.specs.Filtering.{Takes, Sampled}
use Rattle.filtering.proofs.Filtering as accepted
use Rattle.filtering.proofs.filter.Goals as goal
use Rattle.filtering.proofs.filter.Goals.{After-of-plane, in-0, in-1, in_default}

-- where the call is accepted
module _ (c : After-of-plane) where
  abbrev deblocked : Planes
  deblocked = let a = c.args in record { y = a.y.now; cb = a.cb.now; cr = a.cr.now }

  abbrev filtered : Planes
  filtered = let a = c.args in record { y = a.out_y.now; cb = a.out_cb.now; cr = a.out_cr.now }

  plane : c.of-plane.result.now ≡ plane_of deblocked c.args.component
  plane = c.of-plane.ensures.named (accepted.few deblocked filtered c.args.marks.now c.args.table.now c.in-Ok.ensures.of_call.0 c.in-Ok.ensures.of_call.1 c.in-Ok.ensures.verdict)

  last : ¬ (c.args.component ≡ 0) → ¬ (c.args.component ≡ 1) → c.args.component ≡ 2
  last = accepted.other deblocked filtered c.args.marks.now c.args.table.now c.in-Ok.ensures.of_call.0 c.in-Ok.ensures.of_call.1 c.in-Ok.ensures.verdict

  takes : (j : ℕ) → c.args.component ≡ j → Takes c.in-Ok.block c.in-Ok.set c.args.table.now c.of-plane.result.now (plane_of filtered j)
  takes = accepted.takes deblocked filtered c.args.marks.now c.args.table.now c.in-Ok.ensures.of_call.0 c.in-Ok.ensures.of_call.1 c.in-Ok.ensures.verdict plane

  done : {a : List ℕ} (j : ℕ) → c.args.component ≡ j → j < 3 → Sampled c.in-Ok.block c.in-Ok.set c.args.table.now c.of-plane.result.now (plane_of filtered j) a
      → let a' = c.args in Filtered a'.state a'.component a'.ctb a'.table.now deblocked filtered (put filtered j a)
  done {a} j e = accepted.own_filtered deblocked filtered c.args.marks.now c.args.table.now c.in-Ok.ensures.of_call.0 c.in-Ok.ensures.of_call.1 c.in-Ok.ensures.verdict plane j e {a = a}

pub filter_ctb-requires : goal.filter_ctb-requires
filter_ctb-requires c = takes (goal.at.filter_ctb-requires c).After-of-plane 0 c.in-0.is

pub filter_ctb-requires-in-1 : goal.filter_ctb-requires-in-1
filter_ctb-requires-in-1 c = takes (goal.at.filter_ctb-requires-in-1 c).After-of-plane 1 c.in-1.is

pub filter_ctb-requires-in_default : goal.filter_ctb-requires-in_default
filter_ctb-requires-in_default c = let here = (goal.at.filter_ctb-requires-in_default c).After-of-plane in takes here 2 (last here (search rules) (search rules))

pub returns-in-Err : goal.returns-in-Err
returns-in-Err c = rw c.refused.ensures.answer (c.in-Err.ensures.verdict, (c.refused.ensures.state, refl, refl))

pub returns-after-component : goal.returns-after-component
returns-after-component c =
    let here = (goal.at.returns-after-component c).After-of-plane in
    let a = c.args in
    let n = c.in-Ok.ensures.of_call.0 in
    let planes : Filtered a.state a.component a.ctb a.table.now (deblocked here) (filtered here) (record { y = c.match-component.out_y; cb = c.match-component.out_cb; cr = c.match-component.out_cr }) =
    elim c.match-component.branch [
      | in-0 w ↦ rw (w.out_y-is, w.out_cb-is, w.out_cr-is) (done here 0 w.in-0.is (omega arith) w.filter_ctb.ensures)
      | in-1 w ↦ rw (w.out_y-is, w.out_cb-is, w.out_cr-is) (done here 1 w.in-1.is (omega arith) w.filter_ctb-in-1.ensures)
      | in_default w ↦ rw (w.out_y-is, w.out_cb-is, w.out_cr-is) (done here 2 (last here (search rules) (search rules)) (omega arith) w.filter_ctb-in_default.ensures)
    ]
    in
    let done : FilterEnsures a.state a.component a.ctb (deblocked here) (filtered here) a.marks.now a.table.now (record { answer = Ok tt; state = a.state })
    (record { y = c.match-component.out_y; cb = c.match-component.out_cb; cr = c.match-component.out_cr }) (set a.marks.now c.mark_place.result 2) =
    (c.in-Ok.ensures.verdict, (refl, planes, rw (c.mark_place.ensures.value, n.picture, n.component, n.ctb) refl))
    in
    search (done, c.accepted.ensures.answer, c.accepted.ensures.state)
