-- What a replay writes down as it goes, and what it then comes to.
use Rattle.std.specs.Prelude.{◌≡◌, ℕ, cond, ◌&&◌, List, [], ◌∷◌, ◌++◌, length, nat_lt}
use Rattle.std.specs.Option.{option_map_or}
use Rattle.board.specs.Bearers.{Bearer}
use Rattle.capture.specs.declared.packets.Captured.{Captured}
use Rattle.machine.specs.Calls.{report_of}
use Rattle.machine.specs.declared.answers.Period.{Period}
use Rattle.machine.specs.declared.answers.Report.{Report}
use Rattle.policy.specs.Batches.{Batches}
use Rattle.ring.specs.Queue.{ring_elements}
use Rattle.replay.specs.declared.runs.Outcome.{Outcome}
use Rattle.replay.specs.Fates.{fates}
use Rattle.replay.specs.Runs.{Run, entries, periods}
use Rattle.replay.specs.Stages.{core}

-- the last closed period's record joins the others, if more periods are closed than they are, and there is room
abbrev pub noted_record : ℕ → Report → List Period → List Period
noted_record room r ds = option_map_or (λ d. cond (nat_lt (length ds) r.closed && nat_lt (length ds) room) (ds ++ d ∷ []) ds) r.last ds

-- of the turns that lead to the stop: how many they were, what the receiver told there, the fates, and the records of the periods
pub record IsOutcome (p : Batches) (bs : List Bearer) (ps : List Captured) (o : Outcome) : Type 0 where
  pub run : Run p bs ps
  pub turns : o.turns ≡ length run.calls
  pub report_is : o.report ≡ report_of (core run.stop.receiver)
  pub fates_are : o.fates.items ≡ fates (length ps) (entries p bs run.calls)
  pub records_are : ring_elements o.records ≡ periods p bs ps run
