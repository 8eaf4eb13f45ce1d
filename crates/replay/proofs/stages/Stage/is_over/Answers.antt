use Rattle.std.proofs.Common.{ap, rules, ◌∙◌, ◌&&◌, ◌+◌, eqb, true}
use Rattle.machine.specs.declared.answers.Report.{Report}
use Rattle.replay.specs.Stages.{core, holds_none}
use Rattle.replay.proofs.Gone.{all_gone}
use Rattle.replay.proofs.stages.Stage.is_over.Goals as goal

pub returns-then-is_empty : goal.returns-then-is_empty
returns-then-is_empty g c =
    let x = core c.args.self.now.stage.receiver in
    record {
      value = ap (λ (r : Report). eqb (r.counts.delivered + r.counts.bearer_full + r.counts.queue_full + r.counts.discarded) r.counts.numbered) c.tell.ensures.value
          ∙ all_gone x c.requires.fit.1.kept.counted ∙ ap (λ b. b && holds_none x) {x = true} (search rules);
    }
