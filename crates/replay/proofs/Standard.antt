-- The standard receiver: it can be standard_ready, and its replay gives the tables.
use Rattle.std.proofs.Common.{◌≡◌, List, length, Ok, refl, ap, ◌∙◌, subst}
use Rattle.board.specs.Bearers.{Bearer}
use Rattle.capture.specs.declared.packets.Captured.{Captured}
use Rattle.machine.specs.declared.answers.Answer.TheVariants.{Configured}
use Rattle.machine.specs.declared.calls.Call.TheVariants.{Configure}
use Rattle.machine.specs.Standard.{standard_board, four, standard, standard_numbers}
use Rattle.machine.specs.Machine.{call, fresh}
use Rattle.machine.specs.State.{configured, put_up}
use Rattle.policy.specs.Batches.{Batches}
use Rattle.ring.specs.Queue.{ring_elements}
use Rattle.replay.specs.declared.answers.Tables.{Tables}
use Rattle.replay.specs.declared.fates.Fallen.{Fallen}
use Rattle.replay.specs.declared.runs.Outcome.{Outcome}
use Rattle.replay.specs.Accounts.{IsOutcome}
use Rattle.replay.specs.Answers.{Tabled, counted}
use Rattle.replay.specs.Fates.{all_in_the_end}
use Rattle.replay.specs.Runs.{outcomes}
use Rattle.replay.specs.Tables.{packets_table, periods_table}
use Rattle.replay.proofs.Decided.{length-fates}
use Rattle.replay.proofs.Rows.{length-all}

pub standard_configured : call four (Configure standard_numbers) (put_up standard_board) ≡ (Ok Configured, configured standard (fresh standard_board))
unfolding call
standard_configured = refl

pub standard_ready : {p : Batches} {bs : List Bearer} → p ≡ four → bs ≡ standard_board →
    call p (Configure standard_numbers) (put_up bs) ≡ (Ok Configured, configured standard (fresh bs))
standard_ready e f = rw (e, f) standard_configured

module _ {p : Batches} {bs : List Bearer} {ps : List Captured} {o : Outcome} (came : IsOutcome p bs ps o) {fs : List Fallen}
    (all : fs ≡ all_in_the_end o.report.counts.numbered o.report.closed 0 o.fates.items) where
  -- what became of the packets
  outcomes_are : fs ≡ outcomes p bs ps came.run
  outcomes_are = all ∙ rw (came.report_is, came.fates_are) refl

  pub as_many : length fs ≡ length ps
  as_many = ap length all ∙ length-all _ _ 0 o.fates.items ∙ ap length came.fates_are ∙ length-fates (length ps) _

pub tabled : {p : Batches} {bs : List Bearer} {ps : List Captured} {o : Outcome} → IsOutcome p bs ps o → {fs : List Fallen} →
    fs ≡ all_in_the_end o.report.counts.numbered o.report.closed 0 o.fates.items → {t : Tables} → p ≡ four → bs ≡ standard_board →
    t.figures ≡ record { packets = length ps; turns = o.turns; periods = o.report.closed; fates = counted fs } → t.packets.items ≡ packets_table ps fs →
    t.periods.items ≡ periods_table (ring_elements o.records) → Tabled (Ok ps) t
tabled {bs = bs} {ps = ps} {o = o} came all e f g h i =
    let c = subst (λ b. IsOutcome four b ps o) f (subst (λ q. IsOutcome q bs ps o) e came) in
    record {
      captured = ps;
      means = refl;
      run = c.run;
      figures_are = g ∙ rw (c.turns, c.report_is, outcomes_are c all) refl;
      packets = h ∙ ap (packets_table ps) (outcomes_are c all);
      periods = i ∙ ap periods_table c.records_are;
    }
