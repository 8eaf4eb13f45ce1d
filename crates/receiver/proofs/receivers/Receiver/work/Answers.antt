use Rattle.std.proofs.Common.{refl, rules}
use Rattle.machine.specs.declared.answers.Answer.TheVariants.{Worked}
use Rattle.machine.specs.declared.calls.Call.TheVariants.{Work}
use Rattle.machine.specs.Machine.{call}
use Rattle.receiver.proofs.Called.{set, refuses_unset, refuses, leaves_kept, accepts}
use Rattle.receiver.proofs.receivers.Receiver.work.Goals as goal

pub returns-in_err-settings : goal.returns-in_err-settings
unfolding call
returns-in_err-settings g c =
    refuses_unset g.P.Policy.meaning c.self.inside.core c.self.inside.settings c.self.view_is c.in_err-settings.ensures.value (Work c.args.cycles) refl (λ _. Worked) (search rules)

pub returns-in_err-check_work : goal.returns-in_err-check_work
returns-in_err-check_work g c =
    refuses g.P.Policy.meaning c.self.inside.core c.self.view_is (set c.in_ok-settings.ensures.value) (Work c.args.cycles) (λ _. Worked) (search rules) c.in_err-check_work.ensures.value

pub invariant_of-self : goal.invariant_of-self
invariant_of-self g c =
    leaves_kept g.P.Policy.meaning c.self.inside.core c.self.view_is (set c.in_ok-settings.ensures.value) (Work c.args.cycles) (g.met.P.Policy.bounds c.self.inside.policy)
    (g.met.P.Policy.greatest c.self.inside.policy) c.self.invariant c.in_ok-check_work.ensures.value c.is_open-was_open.ensures.value c.offer_cycles.ensures.after c.set_gate.ensures.after

pub returns : goal.returns
returns g c =
    accepts g.P.Policy.meaning c.self.inside.core c.self.view_is (set c.in_ok-settings.ensures.value) (Work c.args.cycles) (g.met.P.Policy.bounds c.self.inside.policy)
    (g.met.P.Policy.greatest c.self.inside.policy) c.self.invariant c.in_ok-check_work.ensures.value c.is_open-was_open.ensures.value c.offer_cycles.ensures.after c.set_gate.ensures.after
    Worked refl
