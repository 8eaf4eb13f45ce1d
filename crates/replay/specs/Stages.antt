-- A replay under way: where it stands, and what each turn does.
use Rattle.std.specs.Prelude.{◌≡◌, ℕ, ◌-◌, ◌+◌, ◌*◌, min, Bool, true, false, cond, not, ◌&&◌, List, [], ◌∷◌, drop, Some, None, Ok, Option, Result, is_ok, is_some, ◌==◌, nat_le}
use Rattle.std.specs.List.{slice_get, list_any}
use Rattle.std.specs.Option.{option_map, option_map_or}
use Rattle.board.specs.Bearers.{Bearer, any_in}
use Rattle.capture.specs.declared.packets.Captured.{Captured}
pub use Rattle.capture.specs.Captures.{first_stamp}
use Rattle.machine.specs.declared.answers.Answer.{Answer}
use Rattle.machine.specs.declared.answers.Answer.TheVariants.{Fetched}
use Rattle.machine.specs.declared.calls.Call.{Call}
use Rattle.machine.specs.declared.calls.Call.TheVariants.{Arrive, Step, Work, Fetch, Finish}
use Rattle.machine.specs.declared.refusals.Refusal.{Refusal}
use Rattle.machine.specs.Standard.{standard}
use Rattle.machine.specs.Machine.{call, fresh}
use Rattle.machine.specs.State.{Core, State, unconfigured, configured}
use Rattle.policy.specs.Batches.{Batches}

-- the application's packet: its number, and the cycles that are still to go
pub record Task : Type 0 where
  pub number : ℕ
  pub to_go : ℕ

-- the receiver; the packets still to arrive, in order; the timestamp that moments count from; and the application's packet, if it has one
pub record Stage : Type 0 where
  pub receiver : State
  pub coming : List Captured
  pub first : ℕ
  pub task : Option Task

-- at the start the receiver is just configured, over a board, and all packets are still to arrive
abbrev pub start : List Bearer → List Captured → Stage
start bs ps = record { receiver = configured standard (fresh bs); coming = ps; first = first_stamp ps; task = None }

-- what a receiver holds. That of a replay is configured from the start on; of one that is not, what it would hold then
abbrev pub core : State → Core
core (unconfigured u) = fresh u.bearers
core (configured s x) = x

-- Time: the periods closed; and in cycles, now, and how far it is to the period's end.
abbrev pub closed : Stage → ℕ
closed x = (core x.receiver).clock.closed

abbrev pub now : Stage → ℕ
now x = closed x * standard.period + (core x.receiver).clock.elapsed

abbrev pub to_end : Stage → ℕ
to_end x = standard.period - (core x.receiver).clock.elapsed

-- the next packet to arrive
abbrev pub next : Stage → Option Captured
next x = slice_get x.coming 0

-- a packet's moment, at 64 cycles a microsecond; it is 0 if the timestamp is before the first one's
abbrev pub moment : Stage → Captured → ℕ
moment x q = 64 * (q.microseconds - x.first)

-- cycles to the period's end or to the next packet's moment, whichever comes first
abbrev pub span : Stage → ℕ
span x = option_map_or (λ q. min (to_end x) (moment x q - now x)) (next x) (to_end x)

-- When a rule applies: the next packet's moment is not after now; the application's packet has no cycles to go;
abbrev pub is_due : Stage → Bool
is_due x = option_map_or (λ q. nat_le (moment x q) (now x)) (next x) false

abbrev pub is_through : Stage → Bool
is_through x = option_map_or (λ (t : Task). t.to_go == 0) x.task false

-- no packet is still to arrive, and none is in a bearer, the queue or out.
abbrev pub holds_none : Core → Bool
holds_none x = not (list_any (λ (v : Bearer). any_in v.waiting) x.bearers) && (not (any_in x.queue) && not (any_in x.out))

abbrev pub is_over : Stage → Bool
is_over x = not (any_in x.coming) && holds_none (core x.receiver)

-- a rule: whether it applies, and the call that is then made; at the stop, none
abbrev pub Rule : Type 0
Rule = Bool × Option Call

abbrev pub first_of : List Rule → Option Call
first_of [] = None
first_of (r ∷ rs) = cond r.0 r.1 (first_of rs)

-- the call that a packet arrives by; its tag is 0
abbrev pub arrival : Captured → Call
arrival q = Arrive q.bearer q.length 0

-- what a fetch hands to the application: a packet with 2,000 cycles to go
abbrev pub handed : Result Answer Refusal → Option Task
handed (Ok (Fetched q)) = Some (record { number = q.number; to_go = 2000 })
handed _ = None

-- what a call does to the packets still to arrive, and to the application's packet
abbrev pub coming_after : Call → List Captured → List Captured
coming_after (Arrive b n t) qs = drop 1 qs
coming_after _ qs = qs

abbrev pub task_after : Call → Result Answer Refusal → Option Task → Option Task
task_after (Work c) r t = option_map (λ (u : Task). record u { to_go = u.to_go - c }) t
task_after Fetch r t = handed r
task_after (Finish n) r t = None
task_after _ r t = t

module _ (p : Batches) where
  -- the rules, in their order
  abbrev pub rules : Stage → List Rule
  rules x =
      (nat_le 1000 (closed x), None)
      ∷ (is_due x, option_map arrival (next x))
      ∷ (is_through x, option_map (λ (t : Task). Finish t.number) x.task)
      ∷ (is_ok (call p Step x.receiver).0, Some Step)
      ∷ (is_some x.task, option_map (λ (t : Task). Work (min t.to_go (span x))) x.task)
      ∷ (any_in (core x.receiver).queue, Some Fetch)
      ∷ (is_over x, None)
      ∷ (true, Some (Work (span x)))
      ∷ []

  -- the call that a turn makes, by the first rule that applies; none is the stop
  unfoldable pub turn : Stage → Option Call
  turn x = first_of (rules x)

  -- where the replay stands after a turn with this call
  abbrev pub after : Call → Stage → Stage
  after c x =
      record x {
        receiver = (call p c x.receiver).1;
        coming = coming_after c x.coming;
        task = task_after c (call p c x.receiver).0 x.task;
      }

  -- turns lead from one stage to another, and make these calls, one each
  abbrev pub Leads : Stage → List Call → Stage → Type 0
  Leads x [] y = x ≡ y
  Leads x (c ∷ cs) y = (turn x ≡ Some c) × Leads (after c x) cs y
