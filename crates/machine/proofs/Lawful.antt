-- Every law holds of every list of calls, made on a receiver just put up under a policy that keeps its bounds.
use Rattle.machine.specs.Laws.{Always, Lawful}
use Rattle.machine.proofs.Agreement.{ledger_agrees, true_answers}
use Rattle.machine.proofs.Batches.{bounded_batches}
use Rattle.machine.proofs.Order.{arrival_order}
use Rattle.machine.proofs.Places.{one_place}
use Rattle.machine.proofs.Room.{bounded_memory}
use Rattle.machine.proofs.Runs.{refusals_leave}
use Rattle.machine.proofs.Share.{share, true_records}
use Rattle.machine.proofs.Tidy.{no_lost_wakeup, one_way, quiet}
use Rattle.machine.proofs.Turns.{equal_turns}

pub lawful : Always Lawful
lawful p bounded bs cs = record {
  refusals_leave = refusals_leave p bounded bs cs;
  share = share p bounded bs cs;
  true_records = true_records p bounded bs cs;
  ledger_agrees = ledger_agrees p bounded bs cs;
  true_answers = true_answers p bounded bs cs;
  one_place = one_place p bounded bs cs;
  arrival_order = arrival_order p bounded bs cs;
  no_lost_wakeup = no_lost_wakeup p bounded bs cs;
  one_way = one_way p bounded bs cs;
  equal_turns = equal_turns p bounded bs cs;
  bounded_batches = bounded_batches p bounded bs cs;
  quiet = quiet p bounded bs cs;
  bounded_memory = bounded_memory p bounded bs cs;
}
