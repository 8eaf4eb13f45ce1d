use Rattle.std.proofs.Common.{arith}
use Rattle.board.proofs.Slots.{is_free}
use Rattle.board.proofs.Mails.{accepted, refused, full, pushed, kept_pushed}
use Rattle.board.proofs.mailboxes.MailboxLine.push.Goals as goal

pub invariant_of-self : goal.invariant_of-self
invariant_of-self c = kept_pushed c.self.view_is c.self.invariant c.in-Some.free c.args.packet (omega arith) (is_free _ _ c.in-Some.ensures.value)

pub returns-in-Some-clause-value : goal.returns-in-Some-clause-value
returns-in-Some-clause-value c = accepted c.self.view_is c.self.invariant _ _ (omega arith)

pub returns-in-Some-clause-after : goal.returns-in-Some-clause-after
returns-in-Some-clause-after c = pushed c.self.view_is c.self.invariant c.in-Some.free c.args.packet (omega arith) (is_free _ _ c.in-Some.ensures.value)

pub returns-then-self-clause-value : goal.returns-then-self-clause-value
returns-then-self-clause-value c = refused c.self.view_is c.self.invariant _ _ (omega arith)

pub returns-then-self-clause-after : goal.returns-then-self-clause-after
returns-then-self-clause-after c = refused c.self.view_is c.self.invariant _ _ (omega arith)

pub returns-in-None-clause-value : goal.returns-in-None-clause-value
returns-in-None-clause-value c =
    refused c.self.view_is c.self.invariant _ _ (full c.self.view_is c.self.invariant (omega (arith, c.self.ranges)) c.in-None.ensures.value)

pub returns-in-None-clause-after : goal.returns-in-None-clause-after
returns-in-None-clause-after c =
    refused c.self.view_is c.self.invariant _ _ (full c.self.view_is c.self.invariant (omega (arith, c.self.ranges)) c.in-None.ensures.value)
