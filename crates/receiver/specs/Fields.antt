-- A receiver's fields as a state of the state machine, and what they keep.
use Rattle.std.specs.Prelude.{◌≡◌, ℕ, ◌≤◌, length, Some, None, Option}
use Rattle.machine.specs.Kept.{Kept}
use Rattle.machine.specs.State.{Core, State, put_up, configured}
use Rattle.receiver.specs.declared.settings.Settings.{Settings as HeldSettings}
use Rattle.receiver.specs.Empty.{empty_over}
use Rattle.receiver.specs.Settings.{settings_of}

-- without settings it is not configured
abbrev pub state_of : Option HeldSettings → Core → State
state_of None x = put_up x.bearers
state_of (Some s) x = configured (settings_of s) x

-- under a policy of greatest batch M: until it is configured, a receiver is empty; then it keeps what every call keeps, over at most eight bearers
abbrev pub IsKept : ℕ → Option HeldSettings → Core → Type 0
IsKept m None x = x ≡ empty_over x.bearers
IsKept m (Some s) x = Kept m (settings_of s) x × (length x.bearers ≤ 8)
