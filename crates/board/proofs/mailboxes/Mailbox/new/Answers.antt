use Rattle.std.proofs.Common.{ap, ◌∙◌, arith}
use Rattle.board.specs.Mailbox.{Mail}
use Rattle.board.proofs.Slots.{line_none}
use Rattle.board.proofs.mailboxes.Mailbox.new.Goals as goal

pub returns : goal.returns
returns c = record { value = ap {B = Mail} (λ ps. record { depth = c.min.result; packets = ps }) (line_none _) ∙ ap {B = Mail} (λ d. record { depth = d; packets = _ }) (omega arith) }
