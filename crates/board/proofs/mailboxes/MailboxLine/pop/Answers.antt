use Rattle.std.proofs.Common.{sym, ap, ◌∙◌, subst, ◌≤◌, ◌-◌}
use Rattle.board.specs.Mailbox.{Numbers, line, mail_packets}
use Rattle.board.proofs.Mails.{popped, first_shown, kept_popped, none_held, none_shown, none_popped}
use Rattle.board.proofs.mailboxes.MailboxLine.pop.Goals as goal

pub returns-then-self-eq0-clause-value : goal.returns-then-self-eq0-clause-value
returns-then-self-eq0-clause-value c = none_shown c.self.view_is c.self.invariant c.if-self-eq0.true

pub returns-then-self-eq0-clause-after : goal.returns-then-self-eq0-clause-after
returns-then-self-eq0-clause-after c = none_popped c.self.view_is c.self.invariant c.if-self-eq0.true

pub returns-in_err-held-clause-value : goal.returns-in_err-held-clause-value
returns-in_err-held-clause-value c = c.from_residual.ensures ∙ none_shown c.self.view_is c.self.invariant (none_held c.self.view_is c.self.invariant c.in_err-held.ensures.value)

pub returns-in_err-held-clause-after : goal.returns-in_err-held-clause-after
returns-in_err-held-clause-after c = none_popped c.self.view_is c.self.invariant (none_held c.self.view_is c.self.invariant c.in_err-held.ensures.value)

pub invariant_of-self : goal.invariant_of-self
invariant_of-self c =
    subst (λ s. (c.self.inside.depth ≤ 16) × (c.self.inside.count - 1 ≤ c.self.inside.depth) × Numbers s (c.self.inside.count - 1)) (sym c.advance.ensures.after)
    (kept_popped c.self.view_is c.self.invariant c.in_ok-held.ensures.value)

pub returns-clause-value : goal.returns-clause-value
returns-clause-value c = first_shown c.self.view_is c.self.invariant c.in_ok-held.ensures.value

pub returns-clause-after : goal.returns-clause-after
returns-clause-after c =
    ap (λ s. mail_packets (record { depth = c.self.inside.depth; packets = line s (c.self.inside.count - 1) })) c.advance.ensures.after
    ∙ popped c.self.view_is c.self.invariant
