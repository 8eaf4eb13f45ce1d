-- What became of packets: the fate of each, and how many periods were closed when it fell.
use Rattle.std.specs.Prelude.{ℕ, ◌+◌, cond, List, [], ◌∷◌, replicate, Some, None, Ok, Err, fold, Option, Result, nat_lt, slice_set}
use Rattle.machine.specs.declared.answers.Answer.{Answer}
use Rattle.machine.specs.declared.answers.Answer.TheVariants.{Arrived, Stepped}
use Rattle.machine.specs.declared.answers.Progress.{Progress}
use Rattle.machine.specs.declared.answers.Progress.TheVariants.{Taken}
use Rattle.machine.specs.declared.calls.Call.{Call}
use Rattle.machine.specs.declared.calls.Call.TheVariants.{Finish}
use Rattle.machine.specs.declared.refusals.Refusal.{Refusal}
use Rattle.machine.specs.Laws.{closed_in}
use Rattle.machine.specs.Trace.{Entry}
use Rattle.replay.specs.declared.fates.Decision.{Decision}
use Rattle.replay.specs.declared.fates.Fallen.{Fallen}
use Rattle.replay.specs.declared.fates.Fate.TheVariants.{Delivered, BearerFull, QueueFull, Waiting, Pending}

-- a packet that a step dropped
abbrev pub not_queued : Progress → Option Decision
not_queued (Taken n queued) = cond queued None (Some (record { number = n; fate = QueueFull }))
not_queued _ = None

-- a packet that an arrival or a step dropped
abbrev pub dropped : Answer → Option Decision
dropped (Arrived a) = cond a.accepted None (Some (record { number = a.number; fate = BearerFull }))
dropped (Stepped did) = not_queued did
dropped _ = None

-- the packet whose fate an accepted call decides, if it decides any
abbrev pub decided : Call → Result Answer Refusal → Option Decision
decided c (Err r) = None
decided (Finish n) (Ok a) = Some (record { number = n; fate = Delivered })
decided c (Ok a) = dropped a

-- it is written down, with the periods closed after the call. Of one packet this is done once at the most: its number stands in one place
abbrev pub noted : Option Decision → ℕ → List (Option Fallen) → List (Option Fallen)
noted None closed fs = fs
noted (Some d) closed fs = slice_set fs d.number (Some (record { fate = d.fate; period = closed }))

-- what a trace decides, of so many packets, by their numbers
unfoldable pub fates : ℕ → List Entry → List (Option Fallen)
fates n es = fold (λ fs (e : Entry). noted (decided e.asked e.answered) (closed_in e.after) fs) (replicate n None) es

-- In the end, with so many packets numbered and periods closed, what is not decided is waiting, or pending if it has no number.
abbrev pub in_the_end : ℕ → ℕ → ℕ → Option Fallen → Fallen
in_the_end numbered closed i (Some f) = f
in_the_end numbered closed i None = record { fate = cond (nat_lt i numbered) Waiting Pending; period = closed }

-- of each packet, counted from i
abbrev pub all_in_the_end : ℕ → ℕ → ℕ → List (Option Fallen) → List Fallen
all_in_the_end numbered closed i [] = []
all_in_the_end numbered closed i (f ∷ fs) = in_the_end numbered closed i f ∷ all_in_the_end numbered closed (i + 1) fs
