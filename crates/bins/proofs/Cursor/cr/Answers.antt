-- `Cursor::cr` meets its contract: Cb's type picks the rule.
use Rattle.bins.proofs.AfterCb.{off_after, band_after}
use Rattle.bins.proofs.Steps.{nothing_taken, takes_as}
use Rattle.bins.proofs.Cursor.cr.Goals as goal

pub returns-in-Off : goal.returns-in-Off
returns-in-Off c =
    let off = off_after c.args.m.value c.in-Off.is in
    nothing_taken _ off.0 off.1

pub returns-in-Band : goal.returns-in-Band
returns-in-Band c = takes_as (band_after _ c.in-Band.is) c.band.ensures
