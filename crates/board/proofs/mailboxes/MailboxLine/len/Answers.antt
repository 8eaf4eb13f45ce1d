use Rattle.board.proofs.Mails.{length_shown}
use Rattle.board.proofs.mailboxes.MailboxLine.len.Goals as goal

pub returns : goal.returns
returns c = record { value = length_shown c.self.view_is c.self.invariant }
