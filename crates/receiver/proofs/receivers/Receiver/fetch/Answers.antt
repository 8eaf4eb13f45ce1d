use Rattle.std.proofs.Common.{◌≡◌, Err, refl, rules}
use Rattle.machine.specs.declared.answers.Answer.TheVariants.{Fetched}
use Rattle.machine.specs.declared.calls.Call.TheVariants.{Fetch}
use Rattle.machine.specs.Machine.{call}
use Rattle.receiver.specs.Settings.{settings_of}
use Rattle.receiver.proofs.Called.{set, refuses_unset, refuses, settled, leaves_kept, accepts}
use Rattle.receiver.proofs.Roomy.{opens}
use Rattle.receiver.proofs.receivers.Receiver.fetch.Goals as goal

pub returns-in_err-settings : goal.returns-in_err-settings
unfolding call
returns-in_err-settings g c =
    let given : c.from_residual.result ≡ Err c.in_err-settings.field-0.0 = search rules in
    let d = refuses_unset g.P.Policy.meaning c.self.inside.core c.self.inside.settings c.self.view_is c.in_err-settings.ensures.value Fetch refl (λ r. Fetched r.0) given in
    record { value = d.value; receipt = search rules; after = d.after }

pub returns-in_err-check_fetch : goal.returns-in_err-check_fetch
returns-in_err-check_fetch g c =
    let given : c.from_residual-in_err-check_fetch.result ≡ Err c.in_err-check_fetch.field-0.0 = search rules in
    let d = refuses g.P.Policy.meaning c.self.inside.core c.self.view_is (set c.in_ok-settings.ensures.value) Fetch (λ r. Fetched r.0) given c.in_err-check_fetch.ensures.value in
    record { value = d.value; receipt = search rules; after = d.after }

pub set_gate-requires : goal.set_gate-requires
set_gate-requires g c =
    record { openable = opens (g.P.Policy.meaning c.self.inside.policy) (settings_of c.in_ok-settings.settings) c.self.inside.core (settled (set c.in_ok-settings.ensures.value) c.self.invariant).0 Fetch _ c.in_ok-check_fetch.ensures.value c.fetch-packet.ensures.after }

pub invariant_of-self : goal.invariant_of-self
invariant_of-self g c =
    leaves_kept g.P.Policy.meaning c.self.inside.core c.self.view_is (set c.in_ok-settings.ensures.value) Fetch (g.met.P.Policy.bounds c.self.inside.policy)
    (g.met.P.Policy.greatest c.self.inside.policy) c.self.invariant c.in_ok-check_fetch.ensures.value c.is_open-was_open.ensures.value c.fetch-packet.ensures.after c.set_gate.ensures.after

pub returns : goal.returns
returns g c =
    let d = accepts g.P.Policy.meaning c.self.inside.core c.self.view_is (set c.in_ok-settings.ensures.value) Fetch (g.met.P.Policy.bounds c.self.inside.policy)
    (g.met.P.Policy.greatest c.self.inside.policy) c.self.invariant c.in_ok-check_fetch.ensures.value c.is_open-was_open.ensures.value c.fetch-packet.ensures.after c.set_gate.ensures.after
    (Fetched c.fetch-packet.result) c.fetch-packet.ensures.value in record { value = d.value; receipt = search rules; after = d.after }
