use Rattle.std.proofs.Common.{◌≡◌, ◌++◌, drop, string_bytes}
use Rattle.transcript.specs.Transcript.{lines_of}
use Rattle.transcript.proofs.lines.lines.Given as goal

-- what is written and what is left give the whole
abbrev pub invariant-loop-reply : goal.invariant-loop-reply
invariant-loop-reply l = string_bytes l.text ++ lines_of (drop l.reply-index l.replies) ≡ lines_of l.replies
