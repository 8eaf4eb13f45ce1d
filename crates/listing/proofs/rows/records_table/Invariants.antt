use Rattle.std.proofs.Common.{◌≡◌, ◌++◌, drop, vec_items}
use Rattle.table.specs.Text.{table}
use Rattle.listing.specs.Listing.{records, record_rows}
use Rattle.listing.proofs.rows.records_table.Given as goal

-- what is written and what is left give the whole
abbrev pub invariant-loop-index : goal.invariant-loop-index
invariant-loop-index l =
    vec_items l.text ++ table (record_rows l.index l.first (drop l.index l.packets)) ≡ table (records l.packets)
