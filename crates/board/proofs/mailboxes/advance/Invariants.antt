use Rattle.std.proofs.Common.{◌≡◌, ◌++◌, map, take, drop}
use Rattle.board.specs.Mailbox.{advanced}
use Rattle.board.proofs.mailboxes.advance.Given as goal

abbrev pub invariant-loop-slot : goal.invariant-loop-slot
invariant-loop-slot l = l.slots ≡ map advanced (take l.slot-index l.initial.slots) ++ drop l.slot-index l.initial.slots
