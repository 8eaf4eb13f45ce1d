-- The settings of a receiver, their ranges, and the grant bound.
use Rattle.std.specs.Prelude.{ℕ, ◌+◌, ◌*◌, max, List, [], ◌∷◌, nat_lt}
use Rattle.board.specs.Bearers.{Bearer}
use Rattle.board.specs.Costs.{highest_class_cost}
use Rattle.machine.specs.declared.calls.RawSettings.{RawSettings}
use Rattle.machine.specs.declared.calls.Setting.TheVariants.{Period, Limit, Size, High, Low, Hold}
use Rattle.machine.specs.Checks.{Check, in_range}
use Rattle.machine.specs.Refusals.{bad_setting}

-- what configure fixes for as long as the receiver is used
pub record Settings : Type 0 where
  pub period : ℕ
  pub limit : ℕ
  pub size : ℕ
  pub high : ℕ
  pub low : ℕ
  pub hold : ℕ

-- by the numbers that a host gives
abbrev pub settings_from : RawSettings → Settings
settings_from n = record { period = n.period; limit = n.limit; size = n.size; high = n.high; low = n.low; hold = n.hold }

-- which are in their ranges, in the order P, N, S, H, L, T
abbrev pub settings_checks : RawSettings → List Check
settings_checks n =
    (in_range 1000 1000000000 n.period, bad_setting Period)
    ∷ (in_range 1 n.period n.limit, bad_setting Limit)
    ∷ (in_range 1 64 n.size, bad_setting Size)
    ∷ (in_range 1 n.size n.high, bad_setting High)
    ∷ (nat_lt n.low n.high, bad_setting Low)
    ∷ (in_range 1 1000 n.hold, bad_setting Hold)
    ∷ []

abbrev pub highest_cost : List Bearer → ℕ
highest_cost [] = 0
highest_cost (x ∷ bs) = max x.cost (highest_cost bs)

-- B, by the greatest batch M: no grant charges more
abbrev pub grant_bound : ℕ → List Bearer → ℕ
grant_bound m bs = 80 + m * (highest_cost bs + highest_class_cost)
