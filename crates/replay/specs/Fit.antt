-- What holds of a replay between turns.
use Rattle.std.specs.Prelude.{◌≡◌, ℕ, ◌+◌, ◌-◌, ◌<◌, ◌≤◌, List, length, Option}
use Rattle.std.specs.List.{AllByRecursion}
use Rattle.std.specs.Option.{option_map, option_to_list}
use Rattle.capture.specs.declared.packets.Captured.{Captured}
use Rattle.machine.specs.Standard.{standard}
use Rattle.machine.specs.State.{Core, configured}
use Rattle.policy.specs.Batches.{Batches}
use Rattle.machine.specs.Kept.{Kept}
use Rattle.replay.specs.Stages.{Task, Stage, core}
use Rattle.replay.specs.Turns.{Playing, policy_of}

-- a packet as it is read, for a board of n bearers: less than a second after the first timestamp
pub record Readable (n first : ℕ) (q : Captured) : Type 0 where
  pub bearer : q.bearer < n
  pub least : 1 ≤ q.length
  pub most : q.length ≤ 384
  pub soon : q.microseconds - first < 1000000

-- of what the receiver holds, the packets still to arrive, the first timestamp and the application's packet: no other packet is out
pub record FitCore (p : Batches) (x : Core) (coming : List Captured) (first : ℕ) (task : Option Task) : Type 0 where
  pub kept : Kept p.greatest standard x
  pub elapsed : x.clock.elapsed < standard.period
  pub closed : x.clock.closed ≤ 1000
  pub out : x.out ≡ option_to_list (option_map (λ (t : Task). t.number) task)
  pub few : x.counts.numbered + length coming ≤ 1024
  pub readable : AllByRecursion (Readable (length x.bearers) first) coming

-- the receiver is configured, by the replay's settings
abbrev pub Fit : Batches → Stage → Type 0
Fit p x = (x.receiver ≡ configured standard (core x.receiver)) × FitCore p (core x.receiver) x.coming x.first x.task

-- and so is a replay under way
abbrev pub Playable : {P : Type 0} → (P → Batches) → Playing P → Type 0
Playable meaning x = Fit (policy_of meaning x) x.stage
