-- What is said of an answer: a line of words and numbers with blanks between.
use Rattle.std.specs.Prelude.{ℕ, cond, List, ◌++◌, [], Some, None, Option, codes, decimal}
use Rattle.board.specs.declared.packets.Packet.{Packet}
use Rattle.machine.specs.declared.answers.Answer.{Answer}
use Rattle.machine.specs.declared.answers.Answer.TheVariants.{Configured, Arrived, Stepped, Worked, Fetched, Finished, Discarded, Told}
use Rattle.machine.specs.declared.answers.Arrival.{Arrival}
use Rattle.machine.specs.declared.answers.Counts.{Counts}
use Rattle.machine.specs.declared.answers.Period.{Period}
use Rattle.machine.specs.declared.answers.Progress.{Progress}
use Rattle.machine.specs.declared.answers.Progress.TheVariants.{Begun, Empty, Taken, Rescheduled, Completed}
use Rattle.machine.specs.declared.answers.Report.{Report}

abbrev pub arrival_text : Arrival → List ℕ
arrival_text a = codes "arrived " ++ (decimal a.number ++ cond a.accepted (codes " accepted") (codes " dropped bearer-full"))

abbrev pub progress_text : Progress → List ℕ
progress_text (Begun bearer quota) = codes "begun " ++ (decimal bearer ++ (codes " quota " ++ decimal quota))
progress_text Empty = codes "empty"
progress_text (Taken number queued) = codes "taken " ++ (decimal number ++ cond queued (codes " queued") (codes " dropped queue-full"))
progress_text Rescheduled = codes "rescheduled"
progress_text Completed = codes "completed"

abbrev pub packet_text : Packet → List ℕ
packet_text p = codes "fetched " ++ (decimal p.number ++ (codes " length " ++ (decimal p.length ++ (codes " tag " ++ decimal p.tag))))

abbrev pub counts_text : Counts → List ℕ
counts_text n =
    codes "numbered " ++ (decimal n.numbered ++ (codes " delivered " ++ (decimal n.delivered
    ++ (codes " bearer-full " ++ (decimal n.bearer_full ++ (codes " queue-full " ++ (decimal n.queue_full
    ++ (codes " discarded " ++ decimal n.discarded))))))))

-- nothing is said of a last period while none has closed
abbrev pub last_text : Option Period → List ℕ
last_text None = []
last_text (Some p) = codes " offered " ++ (decimal p.offered ++ (codes " network " ++ decimal p.network))

abbrev pub report_text : Report → List ℕ
report_text r = codes "told " ++ (counts_text r.counts ++ (codes " closed " ++ (decimal r.closed ++ last_text r.last)))

abbrev pub answer_text : Answer → List ℕ
answer_text Configured = codes "configured"
answer_text (Arrived a) = arrival_text a
answer_text (Stepped p) = progress_text p
answer_text Worked = codes "worked"
answer_text (Fetched p) = packet_text p
answer_text Finished = codes "finished"
answer_text Discarded = codes "discarded"
answer_text (Told r) = report_text r
