-- The bins of the shape that is chosen are counted, and then put; they fit exactly if their bytes are no more than those lent.
use borrow.Author.Rules.{rules}
use mathlib.Core.Path.{◌≡◌}
use native.Mathlib.Omega.{arith}
use Rattle.standard.specs.Bins.{packed}
use Rattle.sink.proofs.Packed.{puts_packed}
use Rattle.writer.specs.Forms.{shape_bins}
use Rattle.writer.proofs.Lengths.{shape_length}
use Rattle.writer.proofs.Ctu.write_set.Goals as goal

pub shaped-requires : goal.shaped-requires
shaped-requires c =
    let a = c.args in
    omega (arith, shape_length a.self.switches a.self.left a.self.up a.q c.choose-shape.result)

pub shaped-requires-2 : goal.shaped-requires-2
shaped-requires-2 c =
    let a = c.args in
    let n = c.shaped.ensures in
    record {
      fits = omega (arith, n, c.div_ceil.ensures, c.if-div_ceil-out.false);
      small = omega (arith, shape_length a.self.switches a.self.left a.self.up a.q c.choose-shape.result);
    }

pub returns : goal.returns
returns c =
    let a = c.args in
    let n = c.shaped.ensures in
    let put : c.shaped-2.new.to.out.now ≡ packed (shape_bins a.self.switches a.self.left a.self.up a.q c.choose-shape.result) a.out.now =
    puts_packed (record { fits = omega (arith, n, c.div_ceil.ensures, c.if-div_ceil-out.false); small = omega (arith, shape_length a.self.switches a.self.left a.self.up a.q c.choose-shape.result) }) c.shaped-2.ensures.puts in
    let same = c.shaped-2.ensures.same_bytes in
    record {
      shape = c.choose-shape.result;
      choice = c.choose-shape.ensures;
      writes = (omega (arith, n, c.div_ceil.ensures, c.if-div_ceil-out.false), omega (arith, n), search rules);
    }
