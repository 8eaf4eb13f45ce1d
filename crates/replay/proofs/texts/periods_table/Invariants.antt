use Rattle.std.proofs.Common.{◌≡◌, ◌++◌, drop, vec_items}
use Rattle.ring.specs.Queue.{ring_elements}
use Rattle.table.specs.Text.{table}
use Rattle.replay.specs.Tables.{period_rows, periods_table}
use Rattle.replay.proofs.texts.periods_table.Given as goal

-- what is written and what is left give the whole
abbrev pub invariant-loop-index : goal.invariant-loop-index
invariant-loop-index l = vec_items l.text ++ table (period_rows l.index (drop l.index (ring_elements l.records))) ≡ periods_table (ring_elements l.records)
