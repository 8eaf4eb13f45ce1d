-- The two ends of a packet that was fetched, by the call that spends its receipt.
use Rattle.std.specs.Prelude.{ℕ}
use Rattle.machine.specs.declared.answers.Answer.{Answer}
use Rattle.machine.specs.declared.answers.Counts.{Counts}
use Rattle.machine.specs.declared.answers.Answer.TheVariants.{Finished, Discarded as DiscardedAnswer}
use Rattle.machine.specs.declared.calls.Call.{Call}
use Rattle.machine.specs.declared.calls.Call.TheVariants.{Finish, Discard}
use Rattle.machine.specs.Moves.{one_delivered, one_discarded}
use Rattle.receiver.specs.declared.ends.End.{End}
use Rattle.receiver.specs.declared.ends.End.TheVariants.{Delivered, Discarded}

abbrev pub call_of : End → ℕ → Call
call_of Delivered = Finish
call_of Discarded = Discard

abbrev pub answer_of : End → Answer
answer_of Delivered = Finished
answer_of Discarded = DiscardedAnswer

-- one more is counted with this end
abbrev pub one_of : End → Counts → Counts
one_of Delivered = one_delivered
one_of Discarded = one_discarded
