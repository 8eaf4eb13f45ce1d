use Rattle.std.proofs.Common.{arith}
use Rattle.receiver.proofs.Armed.{opened_listed}
use Rattle.receiver.proofs.cores.Core.open_bearer.Goals as goal

pub returns-then-waiting : goal.returns-then-waiting
returns-then-waiting g c = record { after = opened_listed c.args.self.now _ c.args.bearer c.arm.ensures.after.0 (grind arith) (grind arith) (grind arith) }
