-- No chunk passed has a mark outside.
use Rattle.std.proofs.Common.{rules, arith, ◌≡◌, take, drop, ◌*◌}
use Rattle.marks.specs.Marks.{SomeOutside}
use Rattle.marks.proofs.Marks.{inside_chunks, same_item}
use Rattle.marks.proofs.leading_chunks.Goals as goal

pub returns-clause-inside : goal.returns-clause-inside
returns-clause-inside c =
    let count = c.count-passed.ensures.runs in
    let passed = count.0 in
    let taken = c.take_while.ensures.runs passed passed.seen count.1 in
    let cut = c.chunks_exact.ensures.runs taken.0 taken.0.seen (search rules) in
    inside_chunks _ _ _ _ (search rules)
    (λ k l s. same_item (passed.at k) (taken.0.at k) (passed.reads k c.args.marks (omega arith)) (taken.2.1 k (omega arith)) ((taken.2.2 (search rules)).0 k) (cut.2 k)
    (λ x told is.
    let none : ¬ SomeOutside c.args.allowed.low c.args.allowed.high x.now = search rules in
    let e : x.now ≡ take 64 (drop (k * 64) c.args.marks.now) = search rules in
    none (rw e s)))
