use Rattle.std.proofs.Common.{◌≡◌, ◌+◌, length, drop}
use Rattle.script.specs.Words.{lines}
use Rattle.script.specs.Script.{contents_of, script_from, script_meaning}
use Rattle.script.proofs.entry.read_script.Given as goal

-- what is said so far, and then the rest
abbrev pub invariant-loop-index : goal.invariant-loop-index
invariant-loop-index l =
    script_meaning l.text ≡ script_from (length l.yielded + 1) (contents_of l.script) (drop (length l.yielded) (lines l.text))
