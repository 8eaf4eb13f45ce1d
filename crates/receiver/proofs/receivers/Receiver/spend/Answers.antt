use Rattle.std.proofs.Common.{◌≡◌, ◌∙◌, sym, ap, Err, None, ℕ}
use Rattle.std.specs.Result.{result_err}
use Rattle.machine.specs.Calls.{spend}
use Rattle.machine.specs.Checks.{first_refusal}
use Rattle.machine.specs.Machine.{out_checks}
use Rattle.receiver.specs.Ends.{one_of}
use Rattle.receiver.specs.declared.receipts.Unspent.{Unspent}
use Rattle.receiver.proofs.Unconfigured.{hands_back, spends, spent_kept}
use Rattle.receiver.proofs.receivers.Receiver.spend.Given as given
use Rattle.receiver.proofs.receivers.Receiver.spend.Goals as goal

pub returns-in-Err : goal.returns-in-Err
returns-in-Err g c =
    let failed = ap result_err (sym c.in-Err.is) ∙ c.spend.ensures.value ∙ ap (λ n. first_refusal (out_checks n c.self.inside.core)) c.number.ensures.value in
    let d = hands_back g.P.Policy.meaning c.self.inside.settings c.self.inside.core c.self.view_is c.args.receipt.number c.args.end c.in-Err.ensures.same failed in
    record { value = ap (λ (u : Unspent). Err u.refusal) c.refused.ensures.value ∙ d.value; receipt = ap (λ (u : Unspent). u.receipt) c.refused.ensures.value; after = d.after }

-- a number that is out
passed : (g : given.Over) (c : goal.After-spend-2 g) → None ≡ first_refusal (out_checks c.args.receipt.number c.self.inside.core)
passed g c = ap result_err (sym c.in_default.is) ∙ c.spend.ensures.value ∙ ap (λ n. first_refusal (out_checks n c.self.inside.core)) c.number.ensures.value

left : (g : given.Over) (c : goal.After-spend-2 g) → c.spend.new.self ≡ spend c.args.receipt.number (one_of c.args.end) c.self.inside.core
left g c = c.in_default.ensures.after ∙ ap (λ (n : ℕ). spend n (one_of c.args.end) c.self.inside.core) c.number.ensures.value

pub invariant_of-self-2 : goal.invariant_of-self-2
invariant_of-self-2 g c =
    spent_kept g.P.Policy.meaning c.self.inside.settings c.self.inside.core c.self.view_is c.args.receipt.number c.args.end
    (g.met.P.Policy.bounds c.self.inside.policy) (g.met.P.Policy.greatest c.self.inside.policy) c.self.invariant (passed g c) (left g c)

pub returns : goal.returns
returns g c =
    let d = spends g.P.Policy.meaning c.self.inside.settings c.self.inside.core c.self.view_is c.args.receipt.number c.args.end
    (g.met.P.Policy.bounds c.self.inside.policy) (g.met.P.Policy.greatest c.self.inside.policy) c.self.invariant (passed g c) (left g c) in
    record { value = d.value; receipt = tt; after = d.after }
