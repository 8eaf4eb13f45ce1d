use Rattle.std.proofs.Common.{◌≡◌, false, length}
use Rattle.board.specs.Bearers.{after_arm, after_disarm}
use Rattle.receiver.proofs.Each.{changed_from, Empty}
use Rattle.receiver.proofs.cores.Core.rearm.Given as goal

abbrev pub invariant-loop-bearer : goal.invariant-loop-bearer
invariant-loop-bearer g l =
    (length l.self.bearers ≡ l.bearer-end)
    × Empty l.self.bearers
    × (record l.initial.self { bearers = changed_from (λ v. after_arm false (after_disarm v)) 0 l.initial.self.bearers }
    ≡ record l.self { bearers = changed_from (λ v. after_arm false (after_disarm v)) l.bearer l.self.bearers })
