-- `Cursor::band` meets its contract: magnitudes, signs, and a position.
use Rattle.standard.specs.Bins.{signs}
use Rattle.standard.proofs.Elements.{fixed_code, magnitudes_code, signs_code}
use Rattle.standard.proofs.Components.{band_of, band_code}
use Rattle.bins.proofs.ByReader.{takes}
use Rattle.bins.proofs.Readers.{band_read}
use Rattle.bins.proofs.Steps.{ended, known, missed, read_as, then_took, then_cut, mapped_took}
use Rattle.bins.proofs.Cursor.band.Goals as goal

pub returns-in_err-f : goal.returns-in_err-f
returns-in_err-f c = ended (magnitudes_code _) (band_code _) _ (band_read _) c.magnitudes.ensures c.in_err-f.was c.from_residual.ensures

pub returns-in_err-offsets : goal.returns-in_err-offsets
unfolding signs
returns-in_err-offsets c =
    let h1 = known (magnitudes_code _) c.magnitudes.ensures c.in_ok-f.was in
    missed c.from_residual-in_err-offsets.ensures
    (takes (band_code _) (read_as (band_read _) (then_took _ h1 (then_cut _ (known (signs_code _) c.signs.ensures c.in_err-offsets.was)))))

pub returns-in_err-k : goal.returns-in_err-k
unfolding signs
returns-in_err-k c =
    let h1 = known (magnitudes_code _) c.magnitudes.ensures c.in_ok-f.was in
    let h2 = known (signs_code _) c.signs.ensures c.in_ok-offsets.was in
    missed c.from_residual-in_err-k.ensures
    (takes (band_code _) (read_as (band_read _) (then_took _ h1 (then_took _ h2 (then_cut _ (known (fixed_code _) c.fixed.ensures c.in_err-k.was))))))

pub returns : goal.returns
unfolding signs
returns c =
    let h1 = known (magnitudes_code _) c.magnitudes.ensures c.in_ok-f.was in
    let h2 = known (signs_code _) c.signs.ensures c.in_ok-offsets.was in
    let h3 = known (fixed_code _) c.fixed.ensures c.in_ok-k.was in
    takes (band_code _) (read_as (band_read _)
    (then_took _ h1 (then_took _ h2 (mapped_took (λ k. band_of (c.in_ok-f.f, (c.in_ok-offsets.offsets, k))) h3))))
