use Rattle.std.proofs.Common.{◌≡◌, ◌++◌, drop, vec_items}
use Rattle.table.specs.Text.{table}
use Rattle.replay.specs.Tables.{packet_rows, packets_table}
use Rattle.replay.proofs.texts.packets_table.Given as goal

-- what is written and what is left give the whole
abbrev pub invariant-loop-index : goal.invariant-loop-index
invariant-loop-index l =
    vec_items l.text ++ table (packet_rows l.index (drop l.index l.packets) (drop l.index l.outcomes)) ≡ packets_table l.packets l.outcomes
