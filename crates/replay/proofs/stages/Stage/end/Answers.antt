use Rattle.std.proofs.Common.{Ok, ap, rules, ◌∙◌}
use Rattle.machine.specs.declared.answers.Answer.TheVariants.{Discarded}
use Rattle.machine.specs.declared.calls.Call.TheVariants.{Discard}
use Rattle.machine.proofs.OneCall.{discard_done}
use Rattle.replay.specs.Turns.{Playing, answer_at, policy_of}
use Rattle.replay.proofs.Fits.{task_out}
use Rattle.replay.proofs.Refused.{as_answered}
use Rattle.replay.proofs.stages.Stage.end.Goals as goal

pub unwrap-requires : goal.unwrap-requires
unwrap-requires g c =
    let x = c.args.self in
    let n = c.in-Some.field-0.receipt.number in
    let p = policy_of g.P.Policy.meaning x in
    let out = task_out p x.stage c.requires.fit (record { number = n; to_go = c.in-Some.field-0.to_go }) (search rules) in
    as_answered _ _ c.discard.result (Ok Discarded)
    (c.discard.ensures.value ∙ ap (λ (v : Playing _). answer_at g.P.Policy.meaning (Discard n) v) c.self.view_is
    ∙ discard_done p n x.stage.receiver out)
