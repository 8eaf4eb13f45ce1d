use Rattle.std.proofs.Common.{◌≡◌, drop}
use Rattle.machine.specs.Checks.{first_refusal}
use Rattle.machine.specs.Machine.{waiting_checks}
use Rattle.receiver.proofs.cores.Core.check_waiting.Given as goal

abbrev pub invariant-loop-bearer : goal.invariant-loop-bearer
invariant-loop-bearer g l = first_refusal (waiting_checks 0 l.self.bearers) ≡ first_refusal (waiting_checks l.bearer (drop l.bearer l.self.bearers))
