use Rattle.std.proofs.Common.{ap, sym, ◌∙◌, is_ok}
use Rattle.std.proofs.lemmas.Result.{err_from_is_err_and}
use Rattle.machine.specs.declared.calls.Call.TheVariants.{Fetch}
use Rattle.replay.specs.Turns.{Playing, answer_at, policy_of}
use Rattle.replay.proofs.Fits.{fetched_if_left}
use Rattle.replay.proofs.Refused.{as_answered}
use Rattle.replay.proofs.stages.Stage.fetch.Goals as goal

pub returns-in_err-_packet-clause-value : goal.returns-in_err-_packet-clause-value
returns-in_err-_packet-clause-value g c =
    let x = c.args.self.now in
    let e = err_from_is_err_and c.from_residual.result c.from_residual.ensures.1 in
    ap is_ok e.1 ∙ sym (ap is_ok c.in_err-_packet.was) ∙ as_answered _ _ c.fetch.result _ c.fetch.ensures.value
    ∙ ap (λ (v : Playing _). is_ok (answer_at g.P.Policy.meaning Fetch v)) c.self.view_is
    ∙ sym (fetched_if_left (policy_of g.P.Policy.meaning x) x.stage c.requires.fit c.requires.none)

pub returns-clause-value : goal.returns-clause-value
returns-clause-value g c =
    let x = c.args.self.now in
    sym (ap is_ok c.in_ok-_packet.was) ∙ as_answered _ _ c.fetch.result _ c.fetch.ensures.value
    ∙ ap (λ (v : Playing _). is_ok (answer_at g.P.Policy.meaning Fetch v)) c.self.view_is
    ∙ sym (fetched_if_left (policy_of g.P.Policy.meaning x) x.stage c.requires.fit c.requires.none)
