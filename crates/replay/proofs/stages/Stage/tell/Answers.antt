use Rattle.std.proofs.Common.{ap, ◌∙◌}
use Rattle.machine.specs.Standard.{standard}
use Rattle.replay.specs.Stages.{core}
use Rattle.replay.specs.Turns.{Playing}
use Rattle.replay.proofs.Told.{tells}
use Rattle.replay.proofs.stages.Stage.tell.Goals as goal

pub returns : goal.returns
returns g c =
    let x = c.args.self.now in
    record {
      value = tells _ standard (core x.stage.receiver) _ c.tell.result
          (ap (λ (v : Playing _). v.stage.receiver) c.self.view_is ∙ c.requires.fit.0) c.tell.ensures.value;
    }
