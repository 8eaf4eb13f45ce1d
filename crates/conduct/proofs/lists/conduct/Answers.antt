use Rattle.std.proofs.Common.{arith, ◌≡◌, ◌∙◌, ap, map}
use Rattle.std.proofs.lemmas.Grind.{common_steps}
use Rattle.machine.specs.Laws.{Lawful}
use Rattle.machine.proofs.Lawful.{lawful}
use Rattle.machine.specs.State.{put_up}
use Rattle.receiver.specs.declared.receipts.Receipt.{Receipt}
use Rattle.conduct.specs.Lists.{after_list, receipts_of}
use Rattle.conduct.proofs.Keeping.{keeps, ledger_out}
use Rattle.conduct.proofs.lists.conduct.Goals as goal

pub returns-clause-laws : goal.returns-clause-laws
returns-clause-laws g c =
    keeps (g.P.Policy.meaning c.args.policy) (g.B.Board.bearers c.args.board) c.args.calls.now Lawful lawful (g.met.P.Policy.bounds c.args.policy)

pub returns-clause-out : goal.returns-clause-out
returns-clause-out g c =
    let p = g.P.Policy.meaning c.args.policy in
    let bs = g.B.Board.bearers c.args.board in
    let ended : c.loop-call.receiver.state ≡ after_list p (put_up bs) c.args.calls.now = grind (arith, common_steps) in
    ap (map (λ (r : Receipt). r.number)) (c.loop-call.invariant.held ∙ ap receipts_of ended) ∙ ledger_out p bs c.args.calls.now
