-- Arming, signals, poll list and grant, as they are between calls.
use Rattle.std.specs.Prelude.{◌≡◌, ℕ, ◌+◌, ◌<◌, ◌≤◌, Bool, true, false, cond, List, [], length, Option}
use Rattle.board.specs.Bearers.{Bearer, bearer_of}
use Rattle.machine.specs.Numbers.{times}
use Rattle.machine.specs.State.{Grant, Core, serves}

-- how often a bearer is listed or served
abbrev pub busy_count : List ℕ → Option Grant → ℕ → ℕ
busy_count l g b = times b l + cond (serves g b) 1 0

-- how often it is armed, listed or served, counted together
abbrev pub ways : List Bearer → List ℕ → Option Grant → ℕ → ℕ
ways bs l g b = cond (bearer_of bs b).armed 1 0 + busy_count l g b

-- a bearer whose signal is down, and that is armed only while nothing waits in it
pub record Calm (v : Bearer) : Type 0 where
  pub quiet : v.signal ≡ false
  pub empty : v.armed ≡ true → v.waiting ≡ []

-- As the gate was last set: every bearer is calm, and at most one of armed, listed and served;
-- with the gate shut none is armed, and with the gate open each bearer that is shown is one of the three.
pub record Tidy (gate : Bool) (bs : List Bearer) (l : List ℕ) (g : Option Grant) : Type 0 where
  pub calm : (b : ℕ) → Calm (bearer_of bs b)
  pub once : (b : ℕ) → ways bs l g b ≤ 1
  pub shut : gate ≡ false → (b : ℕ) → (bearer_of bs b).armed ≡ false
  pub ready : gate ≡ true → (b : ℕ) → b < length bs → 1 ≤ ways bs l g b

abbrev pub TidyCore : Bool → Core → Type 0
TidyCore gate x = Tidy gate x.bearers x.listed x.grant

-- only bearers that are shown are listed or served
abbrev pub OnlyShown : Core → Type 0
OnlyShown x = (b : ℕ) → length x.bearers ≤ b → busy_count x.listed x.grant b ≡ 0

-- a board of n bearers, between the gate's steps: each is listed once at most, and only those that are shown are listed or served
pub record Openable (n : ℕ) (x : Core) : Type 0 where
  pub size : length x.bearers ≡ n
  pub once : (b : ℕ) → times b x.listed ≤ 1
  pub shown : (b : ℕ) → n ≤ b → busy_count x.listed x.grant b ≡ 0
