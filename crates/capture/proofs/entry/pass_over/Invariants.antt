use Rattle.std.proofs.Common.{◌≡◌, length, List}
use Rattle.capture.specs.declared.packets.Captured.{Captured}
use Rattle.capture.specs.Captures.{ahead, rest}
use Rattle.capture.proofs.entry.pass_over.Given as goal

-- what is passed over, and then the rest
abbrev pub invariant-loop-packet : goal.invariant-loop-packet
invariant-loop-packet l = (ps : List Captured) × (rest l.initial.reader ≡ ahead ps (rest l.reader))

abbrev pub decreases-loop-packet : goal.decreases-loop-packet
decreases-loop-packet l = length l.reader.contents.records
