use Rattle.std.proofs.Common.{rules}
use Rattle.ring.specs.Queue.{ring_elements}
use Rattle.replay.proofs.Written.{row_written}
use Rattle.replay.proofs.texts.periods_table.Goals as goal

pub loop-index-preserved : goal.loop-index-preserved
loop-index-preserved c = row_written (ring_elements c.args.records.now) c.loop-index.index c.unwrap-record.result _ _ _ (search rules) c.loop-index.invariant (search rules)
