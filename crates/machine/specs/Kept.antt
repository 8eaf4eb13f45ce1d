-- What holds of a receiver between calls, whatever was called before.
use Rattle.std.specs.Prelude.{◌≡◌, ℕ, ◌≤◌, List, length}
use Rattle.board.specs.Bearers.{Bearer}
use Rattle.machine.specs.Funded.{FundedCore}
use Rattle.machine.specs.Laws.{accounted}
use Rattle.machine.specs.Settings.{Settings}
use Rattle.machine.specs.State.{Core, State, unconfigured, configured, is_open}
use Rattle.machine.specs.Tidy.{TidyCore, OnlyShown}

-- of a configured receiver, under a policy of greatest batch M: `start` are the bearers that the board showed when it was put up, and `offered` what each
-- period offered the application
pub record Kept (m : ℕ) (s : Settings) (x : Core) : Type 0 where
  pub tidy : TidyCore (is_open s x) x
  pub shown : OnlyShown x
  pub start : List Bearer
  pub offered : ℕ → ℕ
  pub funded : FundedCore m start s offered x
  pub period : s.period ≤ 1000000000
  pub size : s.size ≤ 64
  pub queue : length x.queue ≤ s.size
  pub out : length x.out ≤ 16
  pub counted : accounted x.bearers x.queue x.out x.counts ≡ x.counts.numbered
  pub numbered : x.counts.numbered ≤ 1000000000
  pub closed : x.clock.closed ≤ 1000000000

abbrev pub KeptState : ℕ → State → Type 0
KeptState m (unconfigured u) = Unit {0}
KeptState m (configured s x) = Kept m s x
