-- Rows that are parted alike: left, middle and right part, each written by what is open in it.
use Rattle.samples.specs.Steps.{step_to}
use Rattle.planes.specs.Places.{block}
use Rattle.samples.proofs.Assembly.{beside_one_another}
use Rattle.samples.proofs.Open.{Part, part_reach, part_is, first_part, middle_part, last_part}
use Rattle.samples.proofs.EdgeBlock.band.Goals as goal
use Rattle.samples.proofs.EdgeBlock.band.Goals.{After-runs-k}

-- the three parts
first : (c : After-runs-k) → let s = c.args.self.now in
    Part s.around s.r (step_to s.rule.a) (step_to s.rule.b) (block s.r.x0 c.runs-k.result.c c.args.y0 c.args.y1) c.runs-k.result.first
first c =
    let s = c.args.self.now in
    let y = c.requires.alike in
    first_part s.around s.r (step_to s.rule.a) (step_to s.rule.b) c.args.y0 c.args.y1 y.0 y.2 y.3 _ c.runs-k.ensures

middle : (c : After-runs-k) → let s = c.args.self.now in
    Part s.around s.r (step_to s.rule.a) (step_to s.rule.b) (block c.runs-k.result.c c.runs-k.result.d c.args.y0 c.args.y1) c.runs-k.result.middle
middle c =
    let s = c.args.self.now in
    let y = c.requires.alike in
    middle_part s.around s.r (step_to s.rule.a) (step_to s.rule.b) c.args.y0 c.args.y1 y.0 y.2 y.3 _ c.runs-k.ensures

last : (c : After-runs-k) → let s = c.args.self.now in
    Part s.around s.r (step_to s.rule.a) (step_to s.rule.b) (block c.runs-k.result.d s.r.x1 c.args.y0 c.args.y1) c.runs-k.result.last
last c =
    let s = c.args.self.now in
    let y = c.requires.alike in
    last_part s.around s.r (step_to s.rule.a) (step_to s.rule.b) c.args.y0 c.args.y1 y.0 y.2 y.3 _ c.runs-k.ensures

pub part-requires-clause-reach : goal.part-requires-clause-reach
part-requires-clause-reach c =
    let s = c.args.self.now in
    part_reach s.rule.from.layout s.around s.r (step_to s.rule.a) (step_to s.rule.b) _ _ (first (goal.at.part-requires-clause-reach c).After-runs-k) s.ready.first_reaches s.ready.second_reaches

pub part-requires-then-y0-y1-clause-reach : goal.part-requires-then-y0-y1-clause-reach
part-requires-then-y0-y1-clause-reach c =
    let s = c.args.self.now in
    part_reach s.rule.from.layout s.around s.r (step_to s.rule.a) (step_to s.rule.b) _ _ (middle (goal.at.part-requires-then-y0-y1-clause-reach c).After-runs-k) s.ready.first_reaches s.ready.second_reaches

pub part-requires-then-y0-y1-2-clause-reach : goal.part-requires-then-y0-y1-2-clause-reach
part-requires-then-y0-y1-2-clause-reach c =
    let s = c.args.self.now in
    part_reach s.rule.from.layout s.around s.r (step_to s.rule.a) (step_to s.rule.b) _ _ (last (goal.at.part-requires-then-y0-y1-2-clause-reach c).After-runs-k) s.ready.first_reaches s.ready.second_reaches

pub returns-then-y0-y1 : goal.returns-then-y0-y1
returns-then-y0-y1 c =
    let s = c.args.self.now in
    let l = s.rule.from.layout in
    let plane = s.rule.from.samples.now in
    let n = c.runs-k.result in
    let g = c.runs-k.ensures in
    beside_one_another s.r.x0 n.c n.d s.r.x1 c.args.y0 c.args.y1 g.on g.order g.off
    (part_is l s.around s.r (step_to s.rule.a) (step_to s.rule.b) _ n.first (first (goal.at.returns-then-y0-y1 c).After-runs-k) s.rule.moves plane s.ready.under c.part.ensures)
    (part_is l s.around s.r (step_to s.rule.a) (step_to s.rule.b) _ n.middle (middle (goal.at.returns-then-y0-y1 c).After-runs-k) s.rule.moves plane s.ready.under c.part-then-y0-y1.ensures)
    (part_is l s.around s.r (step_to s.rule.a) (step_to s.rule.b) _ n.last (last (goal.at.returns-then-y0-y1 c).After-runs-k) s.rule.moves plane s.ready.under c.part-then-y0-y1-2.ensures)
