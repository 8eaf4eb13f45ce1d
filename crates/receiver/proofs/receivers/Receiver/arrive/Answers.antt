use Rattle.std.proofs.Common.{refl, rules}
use Rattle.machine.specs.declared.answers.Answer.TheVariants.{Arrived}
use Rattle.machine.specs.declared.calls.Call.TheVariants.{Arrive}
use Rattle.machine.specs.Machine.{call}
use Rattle.receiver.specs.Settings.{settings_of}
use Rattle.receiver.proofs.Called.{set, refuses_unset, refuses, settled, leaves_kept, accepts}
use Rattle.receiver.proofs.Roomy.{arrive_joins, opens}
use Rattle.receiver.proofs.receivers.Receiver.arrive.Goals as goal

pub returns-in_err-settings : goal.returns-in_err-settings
unfolding call
returns-in_err-settings g c =
    refuses_unset g.P.Policy.meaning c.self.inside.core c.self.inside.settings c.self.view_is c.in_err-settings.ensures.value (Arrive c.args.bearer c.args.length c.args.tag) refl Arrived (search rules)

pub returns-in_err-check_arrive : goal.returns-in_err-check_arrive
returns-in_err-check_arrive g c =
    refuses g.P.Policy.meaning c.self.inside.core c.self.view_is (set c.in_ok-settings.ensures.value) (Arrive c.args.bearer c.args.length c.args.tag) Arrived (search rules) c.in_err-check_arrive.ensures.value

pub arrive-arrival-requires-clause-room : goal.arrive-arrival-requires-clause-room
arrive-arrival-requires-clause-room g c =
    let k = settled (set c.in_ok-settings.ensures.value) c.self.invariant in
    arrive_joins (g.P.Policy.meaning c.self.inside.policy) (settings_of c.in_ok-settings.settings) c.self.inside.core k.0 c.args.bearer c.args.length c.args.tag k.1 c.in_ok-check_arrive.ensures.value

pub set_gate-requires : goal.set_gate-requires
set_gate-requires g c =
    record { openable = opens (g.P.Policy.meaning c.self.inside.policy) (settings_of c.in_ok-settings.settings) c.self.inside.core (settled (set c.in_ok-settings.ensures.value) c.self.invariant).0 (Arrive c.args.bearer c.args.length c.args.tag) _ c.in_ok-check_arrive.ensures.value c.arrive-arrival.ensures.after }

pub invariant_of-self : goal.invariant_of-self
invariant_of-self g c =
    leaves_kept g.P.Policy.meaning c.self.inside.core c.self.view_is (set c.in_ok-settings.ensures.value) (Arrive c.args.bearer c.args.length c.args.tag) (g.met.P.Policy.bounds c.self.inside.policy)
    (g.met.P.Policy.greatest c.self.inside.policy) c.self.invariant c.in_ok-check_arrive.ensures.value c.is_open-was_open.ensures.value c.arrive-arrival.ensures.after c.set_gate.ensures.after

pub returns : goal.returns
returns g c =
    accepts g.P.Policy.meaning c.self.inside.core c.self.view_is (set c.in_ok-settings.ensures.value) (Arrive c.args.bearer c.args.length c.args.tag) (g.met.P.Policy.bounds c.self.inside.policy)
    (g.met.P.Policy.greatest c.self.inside.policy) c.self.invariant c.in_ok-check_arrive.ensures.value c.is_open-was_open.ensures.value c.arrive-arrival.ensures.after c.set_gate.ensures.after
    (Arrived c.arrive-arrival.result) c.arrive-arrival.ensures.value
