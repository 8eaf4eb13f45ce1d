-- What a receiver's fields hold, as the state machine has it.
use Rattle.std.specs.Prelude.{Some, None, Option}
use Rattle.machine.specs.State.{Clock, Grant}
use Rattle.receiver.specs.declared.clocks.Clock.{Clock as HeldClock}
use Rattle.receiver.specs.declared.grants.Grant.{Grant as HeldGrant}

abbrev pub clock_of : HeldClock → Clock
clock_of k = record { elapsed = k.elapsed; used = k.used; offered = k.offered; closed = k.closed; last = k.last }

abbrev pub grant_of : HeldGrant → Grant
grant_of g = record { bearer = g.bearer; left = g.left }

abbrev pub grant_held : Option HeldGrant → Option Grant
grant_held None = None
grant_held (Some g) = Some (grant_of g)
