use Rattle.std.proofs.Common.{◌≡◌, ◌≤◌, ◌++◌, drop, length, vec_len, vec_capacity, vec_items}
use Rattle.machine.specs.State.{put_up}
use Rattle.conduct.specs.Lists.{after_list, receipts_of, replies_to}
use Rattle.conduct.proofs.lists.conduct.Given as goal

-- what is made so far, and what is left to make, give the whole
abbrev pub invariant-loop-call : goal.invariant-loop-call
invariant-loop-call g l =
    let p = g.P.Policy.meaning l.fn.policy in
    let start = put_up (g.B.Board.bearers l.fn.board) in
    let rest = drop l.call-index l.calls in
    record {
      replies : vec_items l.replies ++ replies_to p l.receiver.state rest ≡ replies_to p start l.calls;
      after : after_list p l.receiver.state rest ≡ after_list p start l.calls;
      policy : l.receiver.policy ≡ l.fn.policy;
      held : vec_items l.receipts ≡ receipts_of l.receiver.state;
      room : 16 ≤ vec_capacity l.receipts;
      replied : vec_len l.replies ≡ l.call-index;
      space : length l.calls ≤ vec_capacity l.replies;
    }
