-- The application's share is sharp: there is a run that meets the bound of the law Share.
use Rattle.std.specs.Prelude.{◌≡◌, ℕ, ◌+◌, ◌<◌, List}
use Rattle.board.specs.Bearers.{Bearer, IsBoard}
use Rattle.machine.specs.declared.calls.Call.{Call}
use Rattle.machine.specs.State.{Core, State, configured, unconfigured, put_up}
use Rattle.policy.specs.Batches.{Batches, IsBounded}
use Rattle.machine.specs.Settings.{Settings, grant_bound}
use Rattle.machine.specs.Trace.{trace, end_of}
use Rattle.machine.specs.Laws.{Law, offered_in}

-- what is said holds of some policy, of some bearers that a board may show, and of some list of calls
abbrev pub Sometimes : Law → Type 0
Sometimes said = (p : Batches) × IsBounded p × (bs : List Bearer) × IsBoard bs × (cs : List Call) × said p bs (trace p (put_up bs) cs)

-- configured, and P of the settings and of what the receiver holds
abbrev pub IsConfiguredAnd : State → (Settings → Core → Type 0) → Type 0
IsConfiguredAnd (unconfigured u) P = ⊥
IsConfiguredAnd (configured s x) P = P s x

-- some closed period offered the application exactly P - N - B + 1 cycles
abbrev pub ShareMet : Law
ShareMet p bs es =
    IsConfiguredAnd (end_of (put_up bs) es) (λ s x. (k : ℕ) × (k < x.clock.closed) × (s.period + 1 ≡ offered_in k es + (s.limit + grant_bound p.greatest bs)))
