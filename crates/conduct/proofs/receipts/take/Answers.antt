use Rattle.std.proofs.Common.{rules, map, sym, ap, ◌∙◌, cond, Some, None}
use Rattle.conduct.specs.Lists.{unspent}
use Rattle.conduct.proofs.Places.{found, none_found, without_none}
use Rattle.conduct.proofs.receipts.take.Goals as goal

pub returns-in_err-at-clause-value : goal.returns-in_err-at-clause-value
returns-in_err-at-clause-value c ns e =
    let n = c.args.number in
    let h = none_found n ns c.args.receipts.now.items e (search rules) in
    c.from_residual.ensures ∙ ap (λ b. cond b (Some (unspent n)) None) (sym h)

pub returns-in_err-at-clause-after : goal.returns-in_err-at-clause-after
returns-in_err-at-clause-after c ns e =
    let n = c.args.number in
    let h = none_found n ns c.args.receipts.now.items e (search rules) in
    e ∙ ap (map unspent) (sym (without_none n ns h))

pub returns-clause-value : goal.returns-clause-value
returns-clause-value c ns e =
    let n = c.args.number in
    let f = found n ns c.args.receipts.now.items c.in_ok-at.at e (search rules) in
    ap Some (c.remove.ensures.value ∙ f.item c.remove.result) ∙ ap (λ b. cond b (Some (unspent n)) None) (sym f.held)

pub returns-clause-after : goal.returns-clause-after
returns-clause-after c ns e = c.remove.ensures.items ∙ (found c.args.number ns c.args.receipts.now.items c.in_ok-at.at e (search rules)).rest
