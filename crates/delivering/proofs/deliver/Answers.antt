-- A refusal leaves all as it was; where the call is accepted, the mark is 1 and the samples are in the plane of the component, which each arm
-- of the match knows by its number.
use mathlib.Core.List.{List}
use mathlib.Core.Path.{◌≡◌, refl}
use Prim.Native.Nat.{ℕ, ◌*◌, ◌<◌}
use native.Mathlib.Omega.{arith}
use borrow.Author.Rules.{rules}
use lib.ListN.{length, set}
use Rattle.std.specs.Prelude.{Ok}
use Rattle.standard.specs.Picture.{plane_width, plane_height, rectangle}
use Rattle.standard.specs.Reasons.{Planes, plane_of, area}
use Rattle.standard.specs.Calls.{Delivered}
use Rattle.standard.specs.Ensures.{DeliverEnsures}
use Rattle.standard.proofs.Three.{put}
use Rattle.delivering.proofs.Blocks.{Put, samples_long, own_long, own_put, other}
use Rattle.delivering.proofs.deliver.Goals as goal
use Rattle.delivering.proofs.deliver.Goals.{In-Ok, in-0, in-1, in_default}

abbrev before : In-Ok → Planes
before c = record { y = c.args.y.now; cb = c.args.cb.now; cr = c.args.cr.now }

-- where the call is accepted
module _ (c : In-Ok) where
  long : length c.args.samples.now ≡ area (let b = c.in-Ok.block in rectangle b.of.picture b.component b.ctb)
  long = samples_long c.args.samples.now (before c) c.args.marks.now c.in-Ok.ensures.of_call c.in-Ok.ensures.verdict

  fits : (j : ℕ) → c.args.component ≡ j → length (plane_of (before c) j) ≡ (let b = c.in-Ok.block in plane_width b.of.picture b.component * plane_height b.of.picture b.component)
  fits = own_long c.args.samples.now (before c) c.args.marks.now c.in-Ok.ensures.of_call c.in-Ok.ensures.verdict

  done : {a : List ℕ} (j : ℕ) → c.args.component ≡ j → j < 3 → Put c.in-Ok.block c.args.samples.now (plane_of (before c) j) a
      → let a' = c.args in Delivered a'.state a'.component a'.ctb a'.samples.now (before c) (put (before c) j a)
  done = own_put c.args.samples.now (before c) c.args.marks.now c.in-Ok.ensures.of_call c.in-Ok.ensures.verdict

  last : ¬ (c.args.component ≡ 0) → ¬ (c.args.component ≡ 1) → c.args.component ≡ 2
  last = other c.in-Ok.ensures.of_call

pub put_ctb-requires-clause-plane_len : goal.put_ctb-requires-clause-plane_len
put_ctb-requires-clause-plane_len c = fits (goal.at.put_ctb-requires-clause-plane_len c).In-Ok 0 c.in-0.is

pub put_ctb-requires-in-1-clause-samples_len : goal.put_ctb-requires-in-1-clause-samples_len
put_ctb-requires-in-1-clause-samples_len c = long (goal.at.put_ctb-requires-in-1-clause-samples_len c).In-Ok

pub put_ctb-requires-in-1-clause-plane_len : goal.put_ctb-requires-in-1-clause-plane_len
put_ctb-requires-in-1-clause-plane_len c = fits (goal.at.put_ctb-requires-in-1-clause-plane_len c).In-Ok 1 c.in-1.is

pub put_ctb-requires-in_default-clause-samples_len : goal.put_ctb-requires-in_default-clause-samples_len
put_ctb-requires-in_default-clause-samples_len c = long (goal.at.put_ctb-requires-in_default-clause-samples_len c).In-Ok

pub put_ctb-requires-in_default-clause-plane_len : goal.put_ctb-requires-in_default-clause-plane_len
put_ctb-requires-in_default-clause-plane_len c =
    let here = (goal.at.put_ctb-requires-in_default-clause-plane_len c).In-Ok in fits here 2 (last here (search rules) (search rules))

pub returns-in-Err : goal.returns-in-Err
returns-in-Err c = rw c.refused.ensures.answer (c.in-Err.ensures.verdict, (c.refused.ensures.state, refl, refl))

pub returns-after-component : goal.returns-after-component
returns-after-component c =
    let here = (goal.at.returns-after-component c).In-Ok in
    let a = c.args in
    let n = c.in-Ok.ensures.of_call in
    let planes : Delivered a.state a.component a.ctb a.samples.now (before here) (record { y = c.match-component.y; cb = c.match-component.cb; cr = c.match-component.cr }) =
    elim c.match-component.branch [
      | in-0 w ↦ rw (w.y-is, w.cb-is, w.cr-is) (done here 0 w.in-0.is (omega arith) w.put_ctb.ensures)
      | in-1 w ↦ rw (w.y-is, w.cb-is, w.cr-is) (done here 1 w.in-1.is (omega arith) w.put_ctb-in-1.ensures)
      | in_default w ↦ rw (w.y-is, w.cb-is, w.cr-is) (done here 2 (last here (search rules) (search rules)) (omega arith) w.put_ctb-in_default.ensures)
    ]
    in
    let done : DeliverEnsures a.state a.component a.ctb a.samples.now (before here) a.marks.now (record { answer = Ok tt; state = a.state })
    (record { y = c.match-component.y; cb = c.match-component.cb; cr = c.match-component.cr }) (set a.marks.now c.mark_place.result 1) =
    (c.in-Ok.ensures.verdict, (refl, planes, rw (c.mark_place.ensures.value, n.picture, n.component, n.ctb) refl))
    in
    search (done, c.accepted.ensures.answer, c.accepted.ensures.state)
