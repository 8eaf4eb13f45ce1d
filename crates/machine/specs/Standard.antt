-- The standard receiver: its board as it is put up, what its policy means, and its settings.
use Rattle.std.specs.Prelude.{ℕ, false, List, [], ◌∷◌}
use Rattle.board.specs.Bearers.{Bearer}
use Rattle.policy.specs.Batches.{Batches}
use Rattle.policy.specs.Quotas.{fixed_batches}
use Rattle.machine.specs.declared.calls.RawSettings.{RawSettings}
use Rattle.machine.specs.Settings.{Settings, settings_from}

-- a ring bearer and a mailbox bearer of a depth, as they are put up
abbrev pub ring : ℕ → Bearer
ring depth = record { depth = depth; cost = 200; waiting = []; armed = false; signal = false }

abbrev pub mailbox : ℕ → Bearer
mailbox depth = record (ring depth) { cost = 120 }

abbrev pub standard_board : List Bearer
standard_board = ring 8 ∷ mailbox 4 ∷ ring 16 ∷ []

-- the fixed policy at 4
abbrev pub four : Batches
four = fixed_batches 4

abbrev pub standard_numbers : RawSettings
standard_numbers = record { period = 64000; limit = 32000; size = 32; high = 24; low = 8; hold = 2 }

abbrev pub standard : Settings
standard = settings_from standard_numbers
