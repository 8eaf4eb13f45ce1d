use Rattle.std.proofs.Common.{◌≡◌, ◌+◌, length, drop, vec_items}
use Rattle.script.specs.Words.{lines}
use Rattle.script.specs.Texts.{ahead, from_line, meaning}
use Rattle.script.proofs.entry.read.Given as goal

-- what is read so far, and then the rest
abbrev pub invariant-loop-index : goal.invariant-loop-index
invariant-loop-index l =
    meaning l.text ≡ ahead (vec_items l.calls) (from_line (length l.yielded + 1) (drop (length l.yielded) (lines l.text)))
