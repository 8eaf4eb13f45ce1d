use Rattle.std.proofs.Common.{◌≡◌, drop, take, ◌++◌}
use Rattle.machine.specs.Numbers.{holds, without}
use Rattle.receiver.proofs.cores.Core.place_out.Given as goal

abbrev pub invariant-loop-i : goal.invariant-loop-i
invariant-loop-i g l =
    (holds l.number l.self.out ≡ holds l.number (drop l.i l.self.out))
    × (without l.number l.self.out ≡ take l.i l.self.out ++ without l.number (drop l.i l.self.out))
