-- What the filter asks for was tested: by `is_sound`, by the two lengths, and by the scan for samples above the top. The
-- answers bar what the picture's border bars, and more.
use Rattle.std.proofs.Common.{arith}
use Rattle.standard.proofs.Answers.{told_not}
use Rattle.samples.proofs.Picture.{picture_reaches, fewer_reach}
use Rattle.blocks.proofs.Deep.{below_top}
use Rattle.blocks.proofs.filter.Goals as goal

pub filter_block-requires : goal.filter_block-requires
filter_block-requires c =
    let p = c.requires in
    let none = told_not c.some_above.ensures c.if-some_above.false in
    record {
      lent = record { wide = omega arith; high = omega arith; columns = omega arith; right = omega arith; rows = omega arith; bottom = omega arith; deblocked = omega arith; filtered = omega arith };
      some_columns = p.columns;
      some_rows = p.rows;
      least = p.least;
      most = p.most;
      shift = p.shift;
      legal = p.legal;
      deep = λ x y i. below_top _ c.top_of-top.ensures (λ a. none (x, y, i, a));
      reaches =
          fewer_reach c.args.l c.args.r _ _ c.with_bars-o.ensures
          (rw c.in_picture.ensures (picture_reaches c.args.l c.args.r p.right p.bottom));
    }
