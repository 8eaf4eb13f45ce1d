use Rattle.std.proofs.Common.{◌≡◌, reverse, vec_items, vec_len}
use Rattle.conduct.specs.Sweeps.{swept}
use Rattle.conduct.proofs.lists.Conducted.sweep.Given as goal

-- the sweep of what is left is the sweep of all
abbrev pub invariant-loop-receipt : goal.invariant-loop-receipt
invariant-loop-receipt g l =
    let p = g.P.Policy.meaning l.fn.self.receiver.policy in
    let all = l.fn.self in
    record {
      swept : swept p l.self.receiver.state (reverse (vec_items l.self.receipts)) ≡ swept p all.receiver.state (reverse (vec_items all.receipts));
      policy : l.self.receiver.policy ≡ all.receiver.policy;
      replies : l.self.replies ≡ all.replies;
    }

abbrev pub decreases-loop-receipt : goal.decreases-loop-receipt
decreases-loop-receipt g l = vec_len l.self.receipts
