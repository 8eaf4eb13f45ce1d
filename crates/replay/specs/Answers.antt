-- What a replay answers, and what it leaves in the memory that is lent for its tables.
use Rattle.std.specs.Prelude.{◌≡◌, ℕ, ◌+◌, cond, List, length, fold, Ok, Err, IsOk, Result}
use Rattle.capture.specs.declared.packets.Captured.{Captured}
use Rattle.capture.specs.declared.refusals.ReadError.{ReadError}
use Rattle.capture.specs.declared.refusals.ReadError.TheVariants as reading
use Rattle.capture.specs.Captures.{Meaning}
use Rattle.machine.specs.Standard.{standard_board, four}
use Rattle.table.specs.Memory.{fits, left, refusal}
use Rattle.table.specs.declared.memory.TooSmall.{TooSmall}
use Rattle.replay.specs.declared.answers.FateCounts.{FateCounts}
use Rattle.replay.specs.declared.answers.Figures.{Figures}
use Rattle.replay.specs.declared.answers.Replayed.{Replayed}
use Rattle.replay.specs.declared.answers.Tables.{Tables}
use Rattle.replay.specs.declared.fates.Fallen.{Fallen}
use Rattle.replay.specs.declared.fates.Fate.{Fate}
use Rattle.replay.specs.declared.fates.Fate.TheVariants.{Delivered, BearerFull, QueueFull, Waiting, Pending}
use Rattle.replay.specs.declared.refusals.Refusal.TheVariants.{Unreadable, TooSmall as TableTooSmall}
use Rattle.replay.specs.declared.refusals.ReplayError.{ReplayError}
use Rattle.replay.specs.declared.refusals.ReplayError.TheVariants.{Memory, Refused}
use Rattle.replay.specs.Runs.{Run, outcomes, periods}
use Rattle.replay.specs.Stages.{closed}
use Rattle.replay.specs.Tables.{packets_table, periods_table}

-- What is answered where tables are to be written into so much memory: the packets' table is asked for first.
abbrev pub fitted : Figures → List ℕ → List ℕ → List ℕ → List ℕ → Result Replayed TooSmall
fitted f packets_text periods_text packets periods =
    cond (fits packets 0 packets_text)
    (cond (fits periods 0 periods_text)
    (Ok (record { figures = f; packets_len = length packets_text; periods_len = length periods_text }))
    (Err (refusal periods_text)))
    (Err (refusal packets_text))

-- and what is left in a memory: its table, if both are written
abbrev pub left_in : Result Replayed TooSmall → List ℕ → List ℕ → List ℕ
left_in (Ok d) text memory = left memory 0 text
left_in (Err e) text memory = memory

-- how many packets there are of each fate
abbrev pub one_more : Fate → FateCounts → FateCounts
one_more Delivered n = record n { delivered = n.delivered + 1 }
one_more BearerFull n = record n { bearer_full = n.bearer_full + 1 }
one_more QueueFull n = record n { queue_full = n.queue_full + 1 }
one_more Waiting n = record n { waiting = n.waiting + 1 }
one_more Pending n = record n { pending = n.pending + 1 }

abbrev pub counted : List Fallen → FateCounts
counted fs = fold (λ n (f : Fallen). one_more f.fate n) (record { delivered = 0; bearer_full = 0; queue_full = 0; waiting = 0; pending = 0 }) fs

-- the replay is made of the standard receiver
abbrev pub StandardRun : List Captured → Type 0
StandardRun = Run four standard_board

module _ (ps : List Captured) (r : StandardRun ps) where
  abbrev pub figures : Figures
  figures =
      record {
        packets = length ps;
        turns = length r.calls;
        periods = closed r.stop;
        fates = counted (outcomes four standard_board ps r);
      }

  -- the texts of its tables
  abbrev pub packets_text : List ℕ
  packets_text = packets_table ps (outcomes four standard_board ps r)

  abbrev pub periods_text : List ℕ
  periods_text = periods_table (periods four standard_board ps r)

-- When an answer is what a capture's replay comes to. Want of memory is told only of a capture that is not refused.
abbrev pub Refuses : Meaning → ReadError → Type 0
Refuses m (reading.Refused f) = m ≡ Err f
Refuses m reading.Memory = IsOk m

-- a reader's error, as a replay's
abbrev pub passed_on : ReadError → ReplayError
passed_on (reading.Refused f) = Refused (Unreadable f)
passed_on reading.Memory = Memory

pub record Tabled (m : Meaning) (t : Tables) : Type 0 where
  pub captured : List Captured
  pub means : m ≡ Ok captured
  pub run : StandardRun captured
  pub figures_are : t.figures ≡ figures captured run
  pub packets : t.packets.items ≡ packets_text captured run
  pub periods : t.periods.items ≡ periods_text captured run

-- whatever run the capture has keeps P, if it is read
abbrev pub EveryRun : Meaning → ((ps : List Captured) → StandardRun ps → Type 0) → Type 0
EveryRun (Ok ps) P = (r : StandardRun ps) → P ps r
EveryRun (Err f) P = Unit {0}

-- what is answered to a capture that is read, where no want of memory of the host's comes between
pub record Answered (m : Meaning) (packets periods : List ℕ) (r : Result Replayed TooSmall) : Type 0 where
  pub captured : List Captured
  pub means : m ≡ Ok captured
  pub run : StandardRun captured
  pub answer_is : r ≡ fitted (figures captured run) (packets_text captured run) (periods_text captured run) packets periods

-- a replay answers, and leaves its tables in the memory that is lent for them
pub record Replays (m : Meaning) (packets periods : List ℕ) (done : Replayed) (packets_left periods_left : List ℕ) : Type 0 where
  pub answered : Answered m packets periods (Ok done)
  pub packets_written : packets_left ≡ left packets 0 (packets_text answered.captured answered.run)
  pub periods_written : periods_left ≡ left periods 0 (periods_text answered.captured answered.run)

-- or it is refused
abbrev pub Declines : Meaning → List ℕ → List ℕ → ReplayError → Type 0
Declines m packets periods (Refused (Unreadable f)) = m ≡ Err f
Declines m packets periods (Refused (TableTooSmall need)) = Answered m packets periods (Err (record { need = need }))
Declines m packets periods Memory = IsOk m
