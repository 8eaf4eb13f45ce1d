use Rattle.std.proofs.Common.{rules, Some}
use Rattle.board.proofs.pairs.Pair.call.Goals as goal

pub returns-in-First : goal.returns-in-First
returns-in-First g c = record { value = (Some c.in_ok-b.field-0, c.in_ok-b.ensures.value, rw c.in-First.is (search rules)) }

pub returns-in-Second : goal.returns-in-Second
returns-in-Second g c = record { value = (Some c.in_ok-b.field-0, c.in_ok-b.ensures.value, rw c.in-Second.is (search rules)) }
