use Rattle.std.proofs.Common.{rules, Some}
use Rattle.board.proofs.pairs.Pair.call_mut.Goals as goal

pub returns-in-First-clause-value : goal.returns-in-First-clause-value
returns-in-First-clause-value g c = (Some c.in_ok-b.field-0, c.in_ok-b.ensures.value, rw c.in-First.is (search rules))

pub returns-in-Second-clause-value : goal.returns-in-Second-clause-value
returns-in-Second-clause-value g c = (Some c.in_ok-b.field-0, c.in_ok-b.ensures.value, rw c.in-Second.is (search rules))
