use Rattle.std.proofs.Common.{◌≡◌, ◌≤◌, drop, max}
use Rattle.machine.specs.Settings.{highest_cost}
use Rattle.receiver.proofs.cores.Core.highest_cost.Given as goal

abbrev pub invariant-loop-bearer : goal.invariant-loop-bearer
invariant-loop-bearer g l = (highest_cost l.self.bearers ≡ max l.highest (highest_cost (drop l.bearer l.self.bearers))) × (l.highest ≤ 2000)
