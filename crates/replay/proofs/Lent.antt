-- The tables of a capture's replay in memory that is lent for them.
use Rattle.std.proofs.Common.{◌≡◌, ℕ, List, Ok, Err, Result, ap, ◌∙◌}
use Rattle.capture.specs.Captures.{Meaning}
use Rattle.table.specs.Memory.{left}
use Rattle.table.specs.declared.memory.TooSmall.{TooSmall}
use Rattle.replay.specs.declared.answers.Replayed.{Replayed}
use Rattle.replay.specs.declared.answers.Tables.{Tables}
use Rattle.replay.specs.declared.refusals.Refusal.TheVariants as refusal
use Rattle.replay.specs.declared.refusals.ReplayError.{ReplayError}
use Rattle.replay.specs.declared.refusals.ReplayError.TheVariants.{Refused}
use Rattle.replay.specs.Answers.{Answered, Declines, Replays, Tabled, figures, fitted, packets_text}

module _ {m : Meaning} {t : Tables} (d : Tabled m t) (packets periods : List ℕ) where
  abbrev answered : {r : Result Replayed TooSmall} → r ≡ fitted t.figures t.packets.items t.periods.items packets periods → Answered m packets periods r
  answered e = record {
    captured = d.captured;
    means = d.means;
    run = d.run;
    answer_is = e ∙ ap (λ f. fitted f t.packets.items t.periods.items packets periods) d.figures_are
        ∙ ap (λ a. fitted (figures d.captured d.run) a t.periods.items packets periods) d.packets
        ∙ ap (λ b. fitted (figures d.captured d.run) (packets_text d.captured d.run) b packets periods) d.periods;
  }

  pub declined : {small : TooSmall} {e : ReplayError} → Err small ≡ fitted t.figures t.packets.items t.periods.items packets periods →
      e ≡ Refused (refusal.TooSmall small.need) → Declines m packets periods e
  declined h r = rw r (answered h)

  pub written : {done : Replayed} {packets_left periods_left : List ℕ} → Ok done ≡ fitted t.figures t.packets.items t.periods.items packets periods →
      packets_left ≡ left packets 0 t.packets.items → periods_left ≡ left periods 0 t.periods.items → Replays m packets periods done packets_left periods_left
  written h a b = record {
    answered = answered h;
    packets_written = a ∙ ap (left packets 0) d.packets;
    periods_written = b ∙ ap (left periods 0) d.periods;
  }
