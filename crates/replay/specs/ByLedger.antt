-- The rows of a replay by the ledger, which is told its calls and their answers, and nothing else.
use Rattle.std.specs.Prelude.{◌≡◌, ℕ, ◌≤◌, true, List, ◌∷◌, ◌++◌, length, Some, Ok}
use Rattle.std.specs.List.{slice_get, flat_map}
use Rattle.std.specs.Option.{option_map}
use Rattle.board.specs.Bearers.{Bearer}
use Rattle.capture.specs.declared.packets.Captured.{Captured}
use Rattle.machine.specs.declared.answers.Answer.TheVariants.{Arrived}
use Rattle.machine.specs.declared.answers.Arrival.{Arrival}
use Rattle.machine.specs.Ledger.{Ledger, Columns, ledger}
use Rattle.machine.specs.Numbers.{holds}
use Rattle.policy.specs.Batches.{Batches}
use Rattle.machine.specs.Trace.{Entry}
use Rattle.replay.specs.declared.fates.Fallen.{Fallen}
use Rattle.replay.specs.declared.fates.Fate.{Fate}
use Rattle.replay.specs.declared.fates.Fate.TheVariants.{Delivered, BearerFull, QueueFull, Waiting, Pending}
use Rattle.replay.specs.Runs.{Run, entries, outcomes}
use Rattle.replay.specs.Stages.{arrival}

-- the numbers in the bearers' columns, in the queue's and out
abbrev pub on_the_way : Columns → List ℕ
on_the_way k = flat_map (λ (ns : List ℕ). ns) k.waiting ++ (k.queue ++ k.out)

-- where a number of this fate stands in the ledger; of a packet that is pending, the number is not given yet
abbrev pub Stands : Fate → ℕ → Ledger → Type 0
Stands Delivered n l = holds n l.columns.delivered ≡ true
Stands BearerFull n l = holds n l.columns.bearer_full ≡ true
Stands QueueFull n l = holds n l.columns.queue_full ≡ true
Stands Waiting n l = holds n (on_the_way l.columns) ≡ true
Stands Pending n l = l.next ≤ n

-- Each packet of the capture has one row, in the capture's order. The number that an arrival was given is its packet's place in the capture; and the fate in
-- a row is the one place in which the row's number stands.
pub record RowsByLedger (p : Batches) (bs : List Bearer) (ps : List Captured) (r : Run p bs ps) : Type 0 where
  pub one_each : length (outcomes p bs ps r) ≡ length ps
  pub numbered : (before after : List Entry) (e : Entry) (a : Arrival) → entries p bs r.calls ≡ before ++ e ∷ after → e.answered ≡ Ok (Arrived a) →
      option_map arrival (slice_get ps a.number) ≡ Some e.asked
  pub stands : (i : ℕ) (f : Fallen) → slice_get (outcomes p bs ps r) i ≡ Some f → Stands f.fate i (ledger bs (entries p bs r.calls))
