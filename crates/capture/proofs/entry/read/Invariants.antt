use Rattle.std.proofs.Common.{◌≡◌, length, vec_items}
use Rattle.capture.specs.Captures.{ahead, meaning, rest}
use Rattle.capture.proofs.entry.read.Given as goal

-- what is read so far, and then the rest
abbrev pub invariant-loop-packets : goal.invariant-loop-packets
invariant-loop-packets l = meaning l.shown l.bytes ≡ ahead (vec_items l.packets) (rest l.reader)

abbrev pub decreases-loop-packets : goal.decreases-loop-packets
decreases-loop-packets l = length l.reader.contents.records
