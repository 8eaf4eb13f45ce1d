use Rattle.std.proofs.Common.{◌∙◌, ap, Ok, refl}
use Rattle.machine.specs.declared.calls.Call.TheVariants.{Tell}
use Rattle.receiver.proofs.Called.{answers}
use Rattle.receiver.proofs.Unconfigured.{tells}
use Rattle.receiver.proofs.receivers.Receiver.tell.Goals as goal

pub returns : goal.returns
returns g c = record {
  value = ap Ok c.tell.ensures.value
      ∙ answers g.P.Policy.meaning c.self.inside.policy c.self.inside.core c.self.view_is {q = c.self.inside.settings} refl Tell
      (tells (g.P.Policy.meaning c.self.inside.policy) c.self.inside.settings c.self.inside.core g.P.Policy.GREATEST c.self.invariant);
}
