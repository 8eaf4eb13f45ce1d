use Rattle.std.proofs.Common.{◌≡◌, ◌++◌, [], ◌∷◌, rules}
use Rattle.conduct.proofs.Sweeping.{ends_there, not_all_out}
use Rattle.conduct.proofs.lists.Conducted.sweep.Given as given
use Rattle.conduct.proofs.lists.Conducted.sweep.Goals as goal

back : (g : given.Over) (c : goal.After-push_reserved g) → c.push_reserved.new.self.items ≡ c.pop.new.self.items ++ c.in-Some.receipt ∷ []
back g c = search rules

pub returns-in-Err-clause-refused : goal.returns-in-Err-clause-refused
returns-in-Err-clause-refused g c =
    let kept = c.loop-receipt.invariant in
    ends_there (λ q. g.P.Policy.meaning q) c.args.self.receiver c.loop-receipt.self.receiver c.discard.new.self
    c.args.self.receipts.items c.pop.new.self.items c.push_reserved.new.self.items c.in-Some.receipt c.in-Err.unspent.refusal
    kept.policy (rw c.in-Some.ensures.items at kept.swept) c.in-Err.ensures.value c.discard.ensures.after (back g c)

pub returns-in-Err-clause-all_out : goal.returns-in-Err-clause-all_out
returns-in-Err-clause-all_out g c =
    λ out. absurd (not_all_out (g.P.Policy.meaning c.args.self.receiver.policy) c.args.self.receiver c.discard.new.self c.args.self.receipts.items c.pop.new.self.items
    c.push_reserved.new.self.items c.in-Some.receipt (returns-in-Err-clause-refused g c) (back g c) out)
