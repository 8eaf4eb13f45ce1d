-- What a capture of any format means: the packets that it tells of, in order, or why it is refused.
use Rattle.std.specs.Prelude.{ℕ, List, [], ◌∷◌, ◌++◌, drop, Some, None, Ok, Err, Option, Result}
use Rattle.capture.specs.declared.limits.Limits.{Limits}
use Rattle.capture.specs.declared.packets.Captured.{Captured}
use Rattle.capture.specs.declared.packets.Record.{Record}
use Rattle.capture.specs.declared.refusals.Refusal.{Refusal}
use Rattle.capture.specs.Contents.{Contents}
use Rattle.capture.specs.Limits.{first_limits, admission, limits_after}
use Rattle.capture.specs.Savefile as savefile

abbrev pub Meaning : Type 0
Meaning = Result (List Captured) Refusal

-- the timestamp of the first packet
abbrev pub first_stamp : List Captured → ℕ
first_stamp [] = 0
first_stamp (p ∷ ps) = p.microseconds

-- What a file holds, by its format: the one so far is the savefile. Proofs above do not see which, so a second changes none.
unfoldable pub contents : List ℕ → Result Contents Refusal
contents bs = savefile.contents bs

-- A reading under way: what is still to be read, and what is asked of it.
pub record Reading : Type 0 where
  pub contents : Contents
  pub limits : Limits

-- the size is asked for before all else
abbrev pub reading_of : Result Limits Refusal → Result Contents Refusal → Result Reading Refusal
reading_of (Ok l) (Ok c) = Ok (record { contents = c; limits = l })
reading_of (Ok l) (Err f) = Err f
reading_of (Err f) c = Err f

abbrev pub first_reading : ℕ → List ℕ → Result Reading Refusal
first_reading shown bs = reading_of (first_limits shown bs) (contents bs)

-- packets before what the rest of a capture means, unless that is refused
abbrev pub ahead : List Captured → Meaning → Meaning
ahead ps (Ok qs) = Ok (ps ++ qs)
ahead ps (Err f) = Err f

-- a packet that is admitted, and then what the rest means
abbrev pub and_then : Result Captured Refusal → Meaning → Meaning
and_then (Ok p) m = ahead (p ∷ []) m
and_then (Err f) m = Err f

-- what records mean, with the fault behind them
abbrev pub meaning_of : Limits → List Record → Option Refusal → Meaning
meaning_of l [] None = Ok []
meaning_of l [] (Some f) = Err f
meaning_of l (x ∷ xs) e = and_then (admission l x) (meaning_of (limits_after (admission l x) l) xs e)

-- what is still to be read means
abbrev pub rest : Reading → Meaning
rest r = meaning_of r.limits r.contents.records r.contents.fault

abbrev pub meaning_from : Result Reading Refusal → Meaning
meaning_from (Ok r) = rest r
meaning_from (Err f) = Err f

-- what a capture means to a board that shows so many bearers
abbrev pub meaning : ℕ → List ℕ → Meaning
meaning shown bs = meaning_from (first_reading shown bs)

-- What one call of a reader answers: a packet, the end or a refusal.
abbrev pub some_packet : Result Captured Refusal → Result (Option Captured) Refusal
some_packet (Ok p) = Ok (Some p)
some_packet (Err f) = Err f

abbrev pub item_of : Limits → List Record → Option Refusal → Result (Option Captured) Refusal
item_of l [] None = Ok None
item_of l [] (Some f) = Err f
item_of l (x ∷ xs) e = some_packet (admission l x)

abbrev pub item : Reading → Result (Option Captured) Refusal
item r = item_of r.limits r.contents.records r.contents.fault

-- where it leaves the reading: it moves only past a packet
abbrev pub reading_after : Result (Option Captured) Refusal → Reading → Reading
reading_after (Ok (Some p)) r =
    record {
      contents = record { records = drop 1 r.contents.records; fault = r.contents.fault };
      limits = limits_after (Ok p) r.limits;
    }
reading_after (Ok None) r = r
reading_after (Err f) r = r
