-- What the fixed memory of a receiver asks of its figures: small enough that a call can add to them.
use Rattle.std.specs.Prelude.{◌≤◌}
use Rattle.machine.specs.declared.answers.Counts.{Counts}
use Rattle.machine.specs.State.{Clock}

pub record Timely (k : Clock) : Type 0 where
  pub elapsed : k.elapsed ≤ 2000000000
  pub used : k.used ≤ 1000000000
  pub offered : k.offered ≤ 1000000000
  pub closed : k.closed ≤ 1000000000

pub record Counted (n : Counts) : Type 0 where
  pub numbered : n.numbered ≤ 1000000000
  pub delivered : n.delivered ≤ 1000000000
  pub bearer_full : n.bearer_full ≤ 1000000000
  pub queue_full : n.queue_full ≤ 1000000000
  pub discarded : n.discarded ≤ 1000000000
