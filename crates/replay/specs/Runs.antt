-- A whole replay: the turns that lead from the start to a stop, and what came of it.
use Rattle.std.specs.Prelude.{◌≡◌, ℕ, zero, suc, ◌-◌, List, [], ◌∷◌, ◌++◌, length, None, IsOk}
use Rattle.board.specs.Bearers.{Bearer}
use Rattle.capture.specs.declared.packets.Captured.{Captured}
use Rattle.machine.specs.declared.answers.Period.{Period}
use Rattle.machine.specs.declared.calls.Call.{Call}
use Rattle.machine.specs.declared.calls.Call.TheVariants.{Configure}
use Rattle.machine.specs.Standard.{standard, standard_numbers}
use Rattle.machine.specs.Laws.{offered_in}
use Rattle.machine.specs.State.{put_up}
use Rattle.policy.specs.Batches.{Batches}
use Rattle.machine.specs.Trace.{Entry, trace}
use Rattle.replay.specs.declared.fates.Fallen.{Fallen}
use Rattle.replay.specs.Fates.{fates, all_in_the_end}
use Rattle.replay.specs.Stages.{Stage, start, closed, core, turn, Leads}

-- the record of the k-th period in a trace: the cycles that it offered the application, and the rest of it
abbrev pub record_of : List Entry → ℕ → Period
record_of es k = record { offered = offered_in k es; network = standard.period - offered_in k es }

-- the records of the first k periods
abbrev pub period_records : List Entry → ℕ → List Period
period_records es zero = []
period_records es (suc k) = period_records es k ++ record_of es k ∷ []

-- under a policy, over a board
module _ (p : Batches) (bs : List Bearer) where
  -- the replay of packets: turns, as many as calls, lead from the start to a stop
  pub record Run (ps : List Captured) : Type 0 where
    pub calls : List Call
    pub stop : Stage
    pub leads : Leads p (start bs ps) calls stop
    pub stops : turn p stop ≡ None

  -- there is no other
  pub record OneRun (ps : List Captured) (r : Run ps) : Type 0 where
    pub same_calls : (s : Run ps) → s.calls ≡ r.calls
    pub same_stop : (s : Run ps) → s.stop ≡ r.stop

  -- the trace of its calls, and of configure before them
  abbrev pub entries : List Call → List Entry
  entries cs = trace p (put_up bs) (Configure standard_numbers ∷ cs)

  -- none of these calls is refused
  abbrev pub AllAccepted : (ps : List Captured) → Run ps → Type 0
  AllAccepted ps r = (before rest : List Entry) (e : Entry) → entries r.calls ≡ before ++ e ∷ rest → IsOk e.answered

  -- what became of each packet
  abbrev pub outcomes : (ps : List Captured) → Run ps → List Fallen
  outcomes ps r = all_in_the_end (core r.stop.receiver).counts.numbered (closed r.stop) 0 (fates (length ps) (entries r.calls))

  -- the record of each closed period
  abbrev pub periods : (ps : List Captured) → Run ps → List Period
  periods ps r = period_records (entries r.calls) (closed r.stop)
