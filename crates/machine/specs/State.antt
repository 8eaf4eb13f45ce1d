-- What a receiver holds.
use Rattle.std.specs.Prelude.{ℕ, Bool, false, ◌&&◌, ◌||◌, List, [], Some, None, Option, ◌==◌, nat_le, nat_lt}
use Rattle.board.specs.declared.packets.Packet.{Packet}
use Rattle.board.specs.Bearers.{Bearer, bearer_of}
use Rattle.machine.specs.declared.answers.Counts.{Counts}
use Rattle.machine.specs.declared.answers.Period.{Period}
use Rattle.machine.specs.Settings.{Settings}
use Rattle.machine.specs.Numbers.{holds}

-- the open period: cycles elapsed in it, used by bearers, offered to the application; the periods closed, and the last one's record
pub record Clock : Type 0 where
  pub elapsed : ℕ
  pub used : ℕ
  pub offered : ℕ
  pub closed : ℕ
  pub last : Option Period

-- a grant that runs: its bearer, and how many packets are left to it
pub record Grant : Type 0 where
  pub bearer : ℕ
  pub left : ℕ

-- all that a configured receiver holds: the hold is 0 if there is none, `listed` is the poll list, `out` are the numbers fetched and not yet spent
pub record Core : Type 0 where
  pub bearers : List Bearer
  pub clock : Clock
  pub hold : ℕ
  pub listed : List ℕ
  pub grant : Option Grant
  pub queue : List Packet
  pub out : List ℕ
  pub counts : Counts

-- what a receiver holds until it is configured: the board's bearers
pub record PutUp : Type 0 where
  pub bearers : List Bearer

pub data State : Type 0 where
  unconfigured : PutUp → State
  configured : Settings → Core → State

-- a receiver just put up over bearers
abbrev pub put_up : List Bearer → State
put_up bs = unconfigured (record { bearers = bs })

-- the numbers that are out
abbrev pub out_of : State → List ℕ
out_of (unconfigured u) = []
out_of (configured s x) = x.out

-- the packets waiting in a bearer
abbrev pub waits : List Bearer → ℕ → List Packet
waits bs b = (bearer_of bs b).waiting

-- whether a grant serves a bearer
abbrev pub serves : Option Grant → ℕ → Bool
serves None b = false
serves (Some g) b = g.bearer == b

-- whether a bearer is on the poll list or being served
abbrev pub busy : Core → ℕ → Bool
busy x b = holds b x.listed || serves x.grant b

-- the gate is open while used is below N and the hold is 0
abbrev pub is_open : Settings → Core → Bool
is_open s x = nat_lt x.clock.used s.limit && x.hold == 0

-- retired: 1,000,000,000 packets are numbered, or as many periods closed
abbrev pub is_retired : Core → Bool
is_retired x = nat_le 1000000000 x.counts.numbered || nat_le 1000000000 x.clock.closed
