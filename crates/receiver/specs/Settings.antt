-- A receiver's settings as the state machine has them.
use Rattle.machine.specs.Settings.{Settings}
use Rattle.receiver.specs.declared.settings.Settings.{Settings as HeldSettings}

abbrev pub settings_of : HeldSettings → Settings
settings_of s = record { period = s.period; limit = s.limit; size = s.size; high = s.high; low = s.low; hold = s.hold }
