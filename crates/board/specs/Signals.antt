-- What a signal's state says.
use Rattle.std.specs.Prelude.{Bool, true, false}
use Rattle.board.specs.declared.signals.Signal.{Signal}
use Rattle.board.specs.declared.signals.Signal.TheVariants.{Disarmed, Down, Up}

abbrev pub is_armed : Signal → Bool
is_armed Disarmed = false
is_armed Down = true
is_armed Up = true

abbrev pub is_up : Signal → Bool
is_up Disarmed = false
is_up Down = false
is_up Up = true
