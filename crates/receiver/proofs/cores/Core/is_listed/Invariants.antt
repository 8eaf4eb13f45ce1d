use Rattle.std.proofs.Common.{◌≡◌, drop}
use Rattle.machine.specs.Numbers.{holds}
use Rattle.receiver.proofs.cores.Core.is_listed.Given as goal

abbrev pub invariant-loop-i : goal.invariant-loop-i
invariant-loop-i g l = holds l.bearer l.self.listed ≡ holds l.bearer (drop l.i l.self.listed)
