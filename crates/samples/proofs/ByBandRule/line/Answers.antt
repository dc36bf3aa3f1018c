-- The part of the plane and that of the output are equally long, and a sample's place in them is its column's.
use mathlib.Core.Path.{ap}
use Prim.Native.Nat.{ℕ}
use Rattle.standard.specs.Samples.{band_idx}
use Rattle.rows.specs.Moves.{moved}
use Rattle.samples.proofs.Lines.{line_get, line_written}
use Rattle.samples.proofs.ByBandRule.line.Goals as goal

pub returns : goal.returns
returns c =
    let b = c.args.self in
    let k = c.requires.lent in
    let i = c.index-i.ensures.place in
    line_written k.0 k.1 i c.band_row.ensures
    (λ j h. ap (λ (s : ℕ). moved b.moves (band_idx b.bands.depth b.bands.position s) s) (line_get k.0 k.1 i j h))
