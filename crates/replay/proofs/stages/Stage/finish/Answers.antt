use Rattle.std.proofs.Common.{Ok, ap, rules, ◌∙◌}
use Rattle.machine.specs.declared.answers.Answer.TheVariants.{Finished}
use Rattle.machine.specs.declared.calls.Call.TheVariants.{Finish}
use Rattle.machine.proofs.OneCall.{finish_done}
use Rattle.replay.specs.Turns.{Playing, answer_at, policy_of}
use Rattle.replay.proofs.Fits.{task_out}
use Rattle.replay.proofs.Refused.{as_answered}
use Rattle.replay.proofs.stages.Stage.finish.Goals as goal

pub unwrap-requires : goal.unwrap-requires
unwrap-requires g c =
    let x = c.args.self.now in
    let n = c.in_ok-receipt.field-0.receipt.number in
    let p = policy_of g.P.Policy.meaning x in
    let out = task_out p x.stage c.requires.fit (record { number = n; to_go = c.in_ok-receipt.field-0.to_go }) (search rules) in
    as_answered _ _ c.finish.result (Ok Finished)
    (c.finish.ensures.value ∙ ap (λ (v : Playing _). answer_at g.P.Policy.meaning (Finish n) v) c.self.view_is
    ∙ finish_done p n x.stage.receiver out)
