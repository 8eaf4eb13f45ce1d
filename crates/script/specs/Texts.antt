-- What a text of calls means: the calls that its lines ask for, in order, or the first line that cannot be read.
use Rattle.std.specs.Prelude.{ℕ, ◌+◌, List, [], ◌∷◌, ◌++◌, Some, None, Ok, Err, Option, Result}
use Rattle.machine.specs.declared.calls.Call.{Call}
use Rattle.script.specs.declared.faults.Fault.{Fault}
use Rattle.script.specs.declared.faults.Unread.{Unread}
use Rattle.script.specs.Words.{lines, words}
use Rattle.script.specs.Keywords.{call_of}

abbrev pub Meaning : Type 0
Meaning = Result (List Call) Unread

-- calls before what further lines mean, unless one of those cannot be read
abbrev pub ahead : List Call → Meaning → Meaning
ahead cs (Ok ds) = Ok (cs ++ ds)
ahead cs (Err u) = Err u

-- what the line of this number asks for, and then what the further lines mean
abbrev pub and_then : ℕ → Result (Option Call) Fault → Meaning → Meaning
and_then n (Ok (Some c)) m = ahead (c ∷ []) m
and_then n (Ok None) m = m
and_then n (Err f) m = Err (record { line = n; fault = f })

-- the lines from that of number n on
abbrev pub from_line : ℕ → List (List ℕ) → Meaning
from_line n [] = Ok []
from_line n (l ∷ ls) = and_then n (call_of (words l)) (from_line (n + 1) ls)

-- lines count from 1
abbrev pub meaning : List ℕ → Meaning
meaning text = from_line 1 (lines text)
