use Rattle.std.proofs.Common.{rules}
use Rattle.board.specs.Mailbox.{advanced}
use Rattle.std.proofs.lemmas.List.Edits.{map_over_more}
use Rattle.board.proofs.mailboxes.advance.Goals as goal

pub loop-slot-preserved : goal.loop-slot-preserved
loop-slot-preserved c = search (rules, map_over_more advanced)
