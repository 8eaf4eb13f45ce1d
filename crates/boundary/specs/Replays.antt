-- A replay's answer in numbers, and what a host finds in the memory that it lent.
use Rattle.std.specs.Prelude.{◌≡◌, ℕ, List, Ok, Err, Result}
use Rattle.capture.specs.Captures.{Meaning}
use Rattle.replay.specs.Answers.{Declines, Replays}
use Rattle.replay.specs.Refusals.{number_of, place_of}
use Rattle.replay.specs.declared.answers.Replayed.{Replayed}
use Rattle.replay.specs.declared.refusals.ReplayError.{ReplayError}
use Rattle.replay.specs.declared.refusals.ReplayError.TheVariants.{Memory, Refused}
use Rattle.boundary.specs.declared.replays.Figures.{Figures}
use Rattle.boundary.specs.declared.replays.ReplayEnd.{ReplayEnd}
use Rattle.boundary.specs.declared.replays.TheConstants.{NO_FIGURES}
use Rattle.boundary.specs.declared.statuses.TheConstants.{WRITTEN, REFUSED, NO_MEMORY}

abbrev pub figures_of : Replayed → Figures
figures_of d =
    record {
      packets = d.figures.packets;
      turns = d.figures.turns;
      periods = d.figures.periods;
      delivered = d.figures.fates.delivered;
      bearer_full = d.figures.fates.bearer_full;
      queue_full = d.figures.fates.queue_full;
      waiting = d.figures.fates.waiting;
      pending = d.figures.fates.pending;
      packets_len = d.packets_len;
      periods_len = d.periods_len;
    }

abbrev pub replay_end : Result Replayed ReplayError → ReplayEnd
replay_end (Ok d) = record { status = WRITTEN; number = 0; place = 0; figures = figures_of d }
replay_end (Err (Refused r)) = record { status = REFUSED; number = number_of r; place = place_of r; figures = NO_FIGURES }
replay_end (Err Memory) = record { status = NO_MEMORY; number = 0; place = 0; figures = NO_FIGURES }

-- when an answer, and what is left in the memories, are a capture's replay; without an answer both are as they were
abbrev pub Ends : Meaning → List ℕ → List ℕ → Result Replayed ReplayError → List ℕ → List ℕ → Type 0
Ends m packets periods (Ok d) packets_left periods_left = Replays m packets periods d packets_left periods_left
Ends m packets periods (Err e) packets_left periods_left =
    Declines m packets periods e × (packets_left ≡ packets) × (periods_left ≡ periods)
