use Rattle.std.proofs.Common.{◌≡◌, ◌≤◌, ◌-◌}
use Rattle.machine.specs.Moves.{open_bearer, on_each}
use Rattle.machine.specs.Tidy.{Openable}
use Rattle.receiver.proofs.cores.Core.open_gate.Given as goal

abbrev pub invariant-loop-bearer : goal.invariant-loop-bearer
invariant-loop-bearer g l =
    (l.bearer-end ≤ 8)
    × Openable l.bearer-end l.self
    × (on_each open_bearer 0 l.bearer-end l.initial.self ≡ on_each open_bearer l.bearer (l.bearer-end - l.bearer) l.self)
