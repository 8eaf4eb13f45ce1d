-- When a host's answer is what the capture means.
use Rattle.std.specs.Prelude.{◌≡◌, Ok, Err, IsOk, vec_items, Result, Vec}
use Rattle.std.specs.declared.alloc.Global.{Global}
use Rattle.capture.specs.declared.packets.Captured.{Captured}
use Rattle.capture.specs.declared.refusals.ReadError.{ReadError}
use Rattle.capture.specs.declared.refusals.ReadError.TheVariants.{Memory, Refused}
use Rattle.capture.specs.Captures.{Meaning}

-- want of memory is answered only to a capture that is not refused
abbrev pub IsAnswerTo : Meaning → Result (Vec Captured Global) ReadError → Type 0
IsAnswerTo m (Ok packets) = m ≡ Ok (vec_items packets)
IsAnswerTo m (Err (Refused f)) = m ≡ Err f
IsAnswerTo m (Err Memory) = IsOk m
