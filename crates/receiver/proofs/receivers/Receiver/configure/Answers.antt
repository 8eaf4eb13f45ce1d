use Rattle.std.proofs.Common.{◌≡◌, ◌∙◌, Ok, Some, Option, ap, sym, subst, refl, rules}
use Rattle.machine.specs.declared.answers.Answer.TheVariants.{Configured}
use Rattle.machine.specs.declared.calls.Call.TheVariants.{Configure}
use Rattle.machine.specs.Kept.{KeptState}
use Rattle.machine.specs.Machine.{fresh}
use Rattle.machine.specs.Settings.{Settings, settings_from}
use Rattle.machine.specs.State.{put_up, configured}
use Rattle.receiver.specs.declared.settings.Settings.{Settings as HeldSettings}
use Rattle.receiver.specs.Fields.{IsKept}
use Rattle.receiver.specs.Settings.{settings_of}
use Rattle.receiver.proofs.Called.{Comes, answers, shows, declines, passes_on, kept_by}
use Rattle.receiver.proofs.Configured.{out_of_range, packet_waits, no_share, configures, nothing_waits, rearmed, unconfigured, configured_already, same_share}
use Rattle.receiver.proofs.receivers.Receiver.configure.Given as given
use Rattle.receiver.proofs.receivers.Receiver.configure.Goals as goal

pub returns-then-is_some : goal.returns-then-is_some
returns-then-is_some g c =
    declines g.P.Policy.meaning c.self.inside.core c.self.view_is refl (Configure c.args.numbers)
    (configured_already (g.P.Policy.meaning c.self.inside.policy) c.args.numbers c.self.inside.settings c.self.inside.core c.if-is_some.ensures)

pub returns-in-Err : goal.returns-in-Err
returns-in-Err g c =
    declines g.P.Policy.meaning c.self.inside.core c.self.view_is (unconfigured c.self.inside.settings c.if-is_some.ensures) (Configure c.args.numbers)
    (out_of_range (g.P.Policy.meaning c.self.inside.policy) c.args.numbers c.self.inside.core.bearers _ (ap Some c.from.ensures ∙ c.in-Err.ensures.first))

pub returns-in_err-check_waiting : goal.returns-in_err-check_waiting
returns-in_err-check_waiting g c =
    passes_on g.P.Policy.meaning c.self.inside.core c.self.view_is (unconfigured c.self.inside.settings c.if-is_some.ensures) (Configure c.args.numbers)
    (packet_waits (g.P.Policy.meaning c.self.inside.policy) c.args.numbers c.self.inside.core.bearers c.in-Ok.ensures.first _ c.in_err-check_waiting.ensures.value) (λ _. Configured) (search rules)

pub returns-in_err-check_share : goal.returns-in_err-check_share
returns-in_err-check_share g c =
    passes_on g.P.Policy.meaning c.self.inside.core c.self.view_is (unconfigured c.self.inside.settings c.if-is_some.ensures) (Configure c.args.numbers)
    (no_share (g.P.Policy.meaning c.self.inside.policy) c.args.numbers c.self.inside.core.bearers c.in-Ok.ensures.first c.in_ok-check_waiting.ensures.value _
    (c.in_err-check_share.ensures.value ∙ same_share c.self.inside.core.bearers (g.met.P.Policy.greatest c.self.inside.policy ∙ sym c.GREATEST.ensures) c.in-Ok.ensures.value))
    (λ _. Configured) (search rules)

pub rearm-requires : goal.rearm-requires
rearm-requires g c = record { empty = nothing_waits c.self.inside.core.bearers c.in_ok-check_waiting.ensures.value }

-- settings that every check lets pass
accepted : (g : given.Over) (c : goal.After-self-1 g) →
    Comes (g.P.Policy.meaning c.self.inside.policy) (Configure c.args.numbers) (put_up c.self.inside.core.bearers) (Ok Configured) (configured (settings_from c.args.numbers) (fresh c.self.inside.core.bearers))
accepted g c =
    configures (g.P.Policy.meaning c.self.inside.policy) c.args.numbers c.self.inside.core.bearers c.in-Ok.ensures.first c.in_ok-check_waiting.ensures.value
    (c.in_ok-check_share.ensures.value ∙ same_share c.self.inside.core.bearers (g.met.P.Policy.greatest c.self.inside.policy ∙ sym c.GREATEST.ensures) c.in-Ok.ensures.value)

armed : (g : given.Over) (c : goal.After-self-1 g) → c.rearm.new.self ≡ fresh c.self.inside.core.bearers
armed g c =
    rearmed c.self.inside.core c.rearm.new.self
    (subst (λ (o : Option HeldSettings). IsKept g.P.Policy.GREATEST o c.self.inside.core) (unconfigured c.self.inside.settings c.if-is_some.ensures) c.self.invariant) c.rearm.ensures.after

left : (g : given.Over) (c : goal.After-self-1 g) →
    configured (settings_of c.in-Ok.settings) c.rearm.new.self ≡ configured (settings_from c.args.numbers) (fresh c.self.inside.core.bearers)
left g c = ap (λ (s : Settings). configured s c.rearm.new.self) c.in-Ok.ensures.value ∙ ap (configured (settings_from c.args.numbers)) (armed g c)

pub invariant_of-self : goal.invariant_of-self
invariant_of-self g c = (
  subst (KeptState g.P.Policy.GREATEST) (sym (left g c))
      (kept_by (g.met.P.Policy.bounds c.self.inside.policy) (g.met.P.Policy.greatest c.self.inside.policy) (Configure c.args.numbers) (put_up c.self.inside.core.bearers) _ tt (accepted g c)),
  c.rearm.ensures.few,
)

pub returns : goal.returns
returns g c = record {
  value = answers g.P.Policy.meaning c.self.inside.policy c.self.inside.core c.self.view_is (unconfigured c.self.inside.settings c.if-is_some.ensures) (Configure c.args.numbers) (accepted g c);
  after = shows g.P.Policy.meaning c.self.inside.policy c.self.inside.core c.self.view_is (unconfigured c.self.inside.settings c.if-is_some.ensures) (Configure c.args.numbers) (accepted g c) (left g c);
}
