use Rattle.machine.proofs.Lawful.{lawful}
use Rattle.machine.proofs.theorems.laws.Goals as goal

pub returns : goal.returns
returns c = record { laws = lawful }
