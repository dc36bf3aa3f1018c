-- THE THREE DEMANDS of document 00, proved of our stage.
use Rattle.promises.specs.Demands.{Demand1, Demand2, Demand3}
use Rattle.promises.specs.Ours.{ours}
use Rattle.promises.proofs.Meets.{meets}
use Rattle.promises.proofs.First.{first}
use Rattle.promises.proofs.Second.{second}
use Rattle.promises.proofs.Third.{third}

pub demand1 : Demand1 ours
demand1 = first ours meets

pub demand2 : Demand2 ours
demand2 = second ours meets

pub demand3 : Demand3 ours
demand3 = third ours meets
