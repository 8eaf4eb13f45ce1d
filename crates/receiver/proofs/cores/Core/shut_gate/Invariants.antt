use Rattle.std.proofs.Common.{◌≡◌, length}
use Rattle.board.specs.Bearers.{after_disarm}
use Rattle.receiver.proofs.Each.{changed_from}
use Rattle.receiver.proofs.cores.Core.shut_gate.Given as goal

abbrev pub invariant-loop-bearer : goal.invariant-loop-bearer
invariant-loop-bearer g l =
    (length l.self.bearers ≡ l.bearer-end)
    × (record l.initial.self { bearers = changed_from after_disarm 0 l.initial.self.bearers } ≡ record l.self { bearers = changed_from after_disarm l.bearer l.self.bearers })
