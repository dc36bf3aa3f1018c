-- Below 16 bits, above them or within, the sum at 32 bits is held as it should be.
use native.Mathlib.Omega.{arith}
use borrow.Author.Rules.{sfits_of}
use Rattle.rows.proofs.Lows.{sum_within}
use Rattle.rows.proofs.add_held.Goals as goal

pub returns : goal.returns
returns c =
    sum_within c.args.s (omega arith) c.lowered.ensures (sfits_of c.lowered.type_inv) c.ranges.o c.if-v-ltminus32768.false c.if-v-gt32767.false
