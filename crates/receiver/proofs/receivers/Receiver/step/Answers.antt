use Rattle.std.proofs.Common.{refl, rules}
use Rattle.machine.specs.declared.answers.Answer.TheVariants.{Stepped}
use Rattle.machine.specs.declared.calls.Call.TheVariants.{Step}
use Rattle.machine.specs.Machine.{call}
use Rattle.receiver.specs.Settings.{settings_of}
use Rattle.receiver.proofs.Called.{set, refuses_unset, refuses, settled, leaves_kept, accepts}
use Rattle.receiver.proofs.Roomy.{step_joins, opens}
use Rattle.receiver.proofs.receivers.Receiver.step.Goals as goal

pub returns-in_err-settings : goal.returns-in_err-settings
unfolding call
returns-in_err-settings g c =
    refuses_unset g.P.Policy.meaning c.self.inside.core c.self.inside.settings c.self.view_is c.in_err-settings.ensures.value Step refl Stepped (search rules)

pub returns-in_err-check_step : goal.returns-in_err-check_step
returns-in_err-check_step g c =
    refuses g.P.Policy.meaning c.self.inside.core c.self.view_is (set c.in_ok-settings.ensures.value) Step Stepped (search rules) c.in_err-check_step.ensures.value

pub step-progress-requires-clause-room : goal.step-progress-requires-clause-room
step-progress-requires-clause-room g c =
    let k = settled (set c.in_ok-settings.ensures.value) c.self.invariant in
    step_joins (g.P.Policy.meaning c.self.inside.policy) (settings_of c.in_ok-settings.settings) c.self.inside.core k.0 k.1

pub set_gate-requires : goal.set_gate-requires
set_gate-requires g c =
    record { openable = opens (g.P.Policy.meaning c.self.inside.policy) (settings_of c.in_ok-settings.settings) c.self.inside.core (settled (set c.in_ok-settings.ensures.value) c.self.invariant).0 Step _ c.in_ok-check_step.ensures.value c.step-progress.ensures.after }

pub invariant_of-self : goal.invariant_of-self
invariant_of-self g c =
    leaves_kept g.P.Policy.meaning c.self.inside.core c.self.view_is (set c.in_ok-settings.ensures.value) Step (g.met.P.Policy.bounds c.self.inside.policy)
    (g.met.P.Policy.greatest c.self.inside.policy) c.self.invariant c.in_ok-check_step.ensures.value c.is_open-was_open.ensures.value c.step-progress.ensures.after c.set_gate.ensures.after

pub returns : goal.returns
returns g c =
    accepts g.P.Policy.meaning c.self.inside.core c.self.view_is (set c.in_ok-settings.ensures.value) Step (g.met.P.Policy.bounds c.self.inside.policy)
    (g.met.P.Policy.greatest c.self.inside.policy) c.self.invariant c.in_ok-check_step.ensures.value c.is_open-was_open.ensures.value c.step-progress.ensures.after c.set_gate.ensures.after
    (Stepped c.step-progress.result) c.step-progress.ensures.value
