use Rattle.std.proofs.Common.{rules}
use Rattle.replay.proofs.Standard.{as_many, tabled}
use Rattle.replay.proofs.entry.replayed.Goals as goal

pub packets_table-requires : goal.packets_table-requires
packets_table-requires c = record { outcomes = as_many c.in_ok-outcome.ensures.value (search rules) }

pub returns : goal.returns
returns c = record {
  value = tabled c.in_ok-outcome.ensures.value {fs = c.deref-3.result.now} (search rules) (search rules) (search rules) (search rules) (search rules) (search rules);
}
