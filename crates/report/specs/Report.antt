-- What is printed of a capture's replay.
use Rattle.std.specs.Prelude.{◌≡◌, ℕ, List, Ok, Err}
use Rattle.capture.specs.declared.packets.Captured.{Captured}
use Rattle.capture.specs.declared.refusals.Refusal.{Refusal}
use Rattle.capture.specs.Captures.{Meaning}
use Rattle.listing.specs.Listing.{refusal_row}
use Rattle.replay.specs.Answers.{StandardRun, figures, packets_text, periods_text}
use Rattle.report.specs.declared.reports.Report.{Report}
use Rattle.report.specs.declared.reports.Table.{Table}
use Rattle.report.specs.declared.reports.Table.TheVariants.{Packets, Periods}

-- of the two tables' texts, that of this one
abbrev pub chosen : Table → List ℕ → List ℕ → List ℕ
chosen Packets packets periods = packets
chosen Periods packets periods = periods

-- the replay of these packets: its figures, and the text of the table
pub record ReportsTable (ps : List Captured) (table : Table) (r : Report) : Type 0 where
  pub run : StandardRun ps
  pub outcome : r.outcome ≡ Ok (figures ps run)
  pub text : r.text.items ≡ chosen table (packets_text ps run) (periods_text ps run)

-- the refusal, and its row
pub record ReportsRefusal (f : Refusal) (r : Report) : Type 0 where
  pub outcome : r.outcome ≡ Err f
  pub text : r.text.items ≡ refusal_row f

-- what is printed of a capture that means this
abbrev pub Reports : Meaning → Table → Report → Type 0
Reports (Ok ps) table r = ReportsTable ps table r
Reports (Err f) table r = ReportsRefusal f r
