-- What bearers may still use of the open period, and what each period offered the application, as they are between calls.
use Rattle.std.specs.Prelude.{◌≡◌, ℕ, ◌+◌, ◌*◌, ◌<◌, ◌≤◌, List, Some, None, Option}
use Rattle.board.specs.Bearers.{Bearer, bearer_of}
use Rattle.board.specs.Costs.{highest_class_cost}
use Rattle.machine.specs.Laws.{LastRecorded}
use Rattle.machine.specs.Settings.{Settings, highest_cost, grant_bound}
use Rattle.machine.specs.State.{Clock, Grant, Core}

-- The accounts f of what each period offered agree with the clock; what bearers have used and what is due are together below `most`, and each closed
-- period offered more than the period less `most`.
pub record Accounts (s : Settings) (most : ℕ) (f : ℕ → ℕ) (k : Clock) (due : ℕ) : Type 0 where
  pub spent : k.elapsed ≡ k.used + f k.closed
  pub offered : k.offered ≡ f k.closed
  pub recorded : LastRecorded s.period f k.closed k.last
  pub fits : f k.closed ≤ s.period
  pub bound : k.used + due + 1 ≤ most
  pub before : (j : ℕ) → j < k.closed → s.period + 1 ≤ f j + most
  pub later : (j : ℕ) → k.closed < j → f j ≡ 0

-- `start` are the bearers that the board showed when the receiver was put up
module _ (start : List Bearer) where
  -- taking a packet costs no more
  abbrev pub price : ℕ
  price = highest_cost start + highest_class_cost

  -- what the packets left to a grant may cost
  abbrev pub due : Option Grant → ℕ
  due None = 0
  due (Some g) = g.left * price

  abbrev pub Cheap : List Bearer → Type 0
  Cheap bs = (b : ℕ) → (bearer_of bs b).cost ≤ highest_cost start

-- under a policy of greatest batch M, what bearers have used and the grant may still use is below the limit and the grant bound together
pub record Funded (m : ℕ) (start : List Bearer) (s : Settings) (f : ℕ → ℕ) (bs : List Bearer) (k : Clock) (g : Option Grant) : Type 0 where
  pub accounts : Accounts s (s.limit + grant_bound m start) f k (due start g)
  pub few : due start g ≤ m * price start
  pub cheap : Cheap start bs
  pub some : s.limit + grant_bound m start ≤ s.period

abbrev pub FundedCore : ℕ → List Bearer → Settings → (ℕ → ℕ) → Core → Type 0
FundedCore m start s f x = Funded m start s f x.bearers x.clock x.grant
