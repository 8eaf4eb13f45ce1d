-- A report of the tables that a capture's replay gave.
use Rattle.std.proofs.Common.{◌≡◌, Ok, ap, ◌∙◌}
use Rattle.capture.specs.Captures.{Meaning}
use Rattle.replay.specs.Answers.{Tabled}
use Rattle.replay.specs.declared.answers.Tables.{Tables}
use Rattle.report.specs.Report.{Reports, chosen}
use Rattle.report.specs.declared.reports.Report.{Report}
use Rattle.report.specs.declared.reports.Table.{Table}

pub reported : (m : Meaning) (table : Table) (t : Tables) (r : Report) → Tabled m t → r.outcome ≡ Ok t.figures → r.text.items ≡ chosen table t.packets.items t.periods.items → Reports m table r
reported m table t r h figures text =
    rw h.means
    (record {
      run = h.run;
      outcome = figures ∙ ap Ok h.figures_are;
      text = cc (text, h.packets, h.periods);
    })
