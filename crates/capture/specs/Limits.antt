-- What is asked of any capture, whatever its format: of its size, and of each packet that is read.
use Rattle.std.specs.Prelude.{ℕ, ◌+◌, ◌-◌, ◌<◌, ◌≤◌, Bool, false, cond, ◌||◌, List, length, Some, None, Ok, Err, Option, Result, ◌==◌, nat_le, nat_lt, unwrap_or}
use Rattle.capture.specs.declared.limits.Limits.{Limits}
use Rattle.capture.specs.declared.packets.Captured.{Captured}
use Rattle.capture.specs.declared.packets.Record.{Record}
use Rattle.capture.specs.declared.refusals.Refusal.{Refusal}
use Rattle.capture.specs.declared.refusals.Refusal.TheVariants.{TooLong, NotShown, TooMany, TooLate, BadLength}

-- with nothing read yet: 1,024 packets may come
abbrev pub start_limits : ℕ → Limits
start_limits shown = record { shown = shown; room = 1024; first = None }

-- those of a file, unless it is too long
abbrev pub first_limits : ℕ → List ℕ → Result Limits Refusal
first_limits shown bs = cond (nat_lt 65536 (length bs)) (Err TooLong) (Ok (start_limits shown))

-- whether a timestamp is a second or more after the first packet's
abbrev pub is_late : Option ℕ → ℕ → Bool
is_late None t = false
is_late (Some first) t = nat_le (first + 1000000) t

-- the record's packet, or the first check that it fails
abbrev pub admission : Limits → Record → Result Captured Refusal
admission l x =
    cond (nat_le l.shown x.packet.bearer) (Err (NotShown x.at))
    (cond (l.room == 0) (Err (TooMany x.at))
    (cond (is_late l.first x.packet.microseconds) (Err (TooLate x.at))
    (cond (nat_lt x.packet.length 1 || nat_lt 384 x.packet.length) (Err (BadLength x.at))
    (Ok x.packet))))

-- only a packet that is admitted counts
abbrev pub limits_after : Result Captured Refusal → Limits → Limits
limits_after (Ok p) l = record l { room = l.room - 1; first = Some (unwrap_or l.first p.microseconds) }
limits_after (Err f) l = l

-- what the rules ask of a packet by itself, where `first` is the first packet's timestamp
pub record IsAdmissible (shown first : ℕ) (p : Captured) : Type 0 where
  pub bearer : p.bearer < shown
  pub early : p.microseconds < first + 1000000
  pub least : 1 ≤ p.length
  pub most : p.length ≤ 384
