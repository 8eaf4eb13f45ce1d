-- The moves that the calls of a receiver are made of.
use Rattle.std.specs.Prelude.{ℕ, zero, suc, ◌+◌, ◌-◌, Bool, false, cond, [], ◌∷◌, ◌++◌, map, length, Some, nat_le}
use Rattle.board.specs.Bearers.{changed, any_in, after_arm, after_disarm}
use Rattle.machine.specs.declared.answers.Counts.{Counts}
use Rattle.machine.specs.Settings.{Settings}
use Rattle.machine.specs.State.{Clock, Core, waits, busy, is_open}

-- Bearers: one is armed, one is disarmed, one joins the poll list's back. The receiver arms a bearer only where nothing waits, or disarms it at once,
-- so that it does not matter whether the bearer's kind raises the signal.
abbrev pub arm : ℕ → Core → Core
arm b x = record x { bearers = changed x.bearers b (after_arm false) }

abbrev pub disarm : ℕ → Core → Core
disarm b x = record x { bearers = changed x.bearers b after_disarm }

abbrev pub join : ℕ → Core → Core
join b x = record x { listed = x.listed ++ b ∷ [] }

-- Time. A period closes where the cycles elapsed have reached its end.
abbrev pub is_over : Settings → Clock → Bool
is_over s k = nat_le s.period k.elapsed

abbrev pub next_period : Settings → Clock → Clock
next_period s k =
    record {
      elapsed = k.elapsed - s.period;
      used = k.elapsed - s.period;
      offered = 0;
      closed = k.closed + 1;
      last = Some (record { offered = k.offered; network = s.period - k.offered });
    }

-- a clock, with the period closed if it is over; then the hold, if there is one, falls by one
abbrev pub settle : Settings → Clock → Core → Core
settle s k x = record x { clock = cond (is_over s k) (next_period s k) k; hold = cond (is_over s k) (x.hold - 1) x.hold }

-- cycles that bearers use, and cycles that the application is offered
abbrev pub charge : Settings → ℕ → Core → Core
charge s c x = settle s (record x.clock { elapsed = x.clock.elapsed + c; used = x.clock.used + c }) x

abbrev pub offer_cycles : Settings → ℕ → Core → Core
offer_cycles s c x = settle s (record x.clock { elapsed = x.clock.elapsed + c; offered = x.clock.offered + c }) x

-- The gate. When it opens, each bearer that is neither listed nor served is armed, in the order of the numbers; one in which packets wait is then disarmed
-- and listed.
abbrev pub open_bearer : ℕ → Core → Core
open_bearer b x = cond (busy x b) x (cond (any_in (waits x.bearers b)) (join b (disarm b (arm b x))) (arm b x))

-- a move made on n bearers, from bearer i on
abbrev pub on_each : (ℕ → Core → Core) → ℕ → ℕ → Core → Core
on_each move i zero x = x
on_each move i (suc n) x = on_each move (i + 1) n (move i x)

unfoldable pub open_gate : Core → Core
open_gate x = on_each open_bearer 0 (length x.bearers) x

-- when it shuts, every bearer is disarmed
unfoldable pub shut_gate : Core → Core
shut_gate x = record x { bearers = map after_disarm x.bearers }

-- the gate is set at the end of an accepted call, by what it was before the call and what it is to be
unfoldable pub set_gate : Settings → Core → Core → Core
set_gate s before x = cond (is_open s before) (cond (is_open s x) x (shut_gate x)) (cond (is_open s x) (open_gate x) x)

-- Counts.
abbrev pub one_numbered : Counts → Counts
one_numbered n = record n { numbered = n.numbered + 1 }

abbrev pub one_bearer_full : Counts → Counts
one_bearer_full n = record n { bearer_full = n.bearer_full + 1 }

abbrev pub one_queue_full : Counts → Counts
one_queue_full n = record n { queue_full = n.queue_full + 1 }

abbrev pub one_delivered : Counts → Counts
one_delivered n = record n { delivered = n.delivered + 1 }

abbrev pub one_discarded : Counts → Counts
one_discarded n = record n { discarded = n.discarded + 1 }
