-- A receiver just put up.
use Rattle.std.specs.Prelude.{List, []}
use Rattle.board.specs.Bearers.{Bearer}
use Rattle.machine.specs.State.{Core}
use Rattle.machine.specs.Machine.{fresh}

-- all empty, over bearers in any state
abbrev pub empty_over : List Bearer → Core
empty_over bs = record (fresh []) { bearers = bs }
