-- The number and the place of each refusal of a replay.
use Rattle.std.specs.Prelude.{ℕ}
use Rattle.capture.specs.Refusals.{number, place}
use Rattle.replay.specs.declared.refusals.Refusal.{Refusal}
use Rattle.replay.specs.declared.refusals.Refusal.TheVariants.{Unreadable, TooSmall}

abbrev pub number_of : Refusal → ℕ
number_of (Unreadable f) = number f
number_of (TooSmall need) = 17

-- of memory that is too small, the bytes needed
abbrev pub place_of : Refusal → ℕ
place_of (Unreadable f) = place f
place_of (TooSmall need) = need
