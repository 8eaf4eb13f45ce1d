-- What each accepted call of a configured receiver does, and answers.
use Rattle.std.specs.Prelude.{ℕ, ◌+◌, ◌-◌, Bool, cond, List, [], ◌∷◌, ◌++◌, length, drop, Some, None, Option, ◌==◌, nat_le, nat_lt, slice_index_or}
use Rattle.std.specs.List.{slice_get}
use Rattle.board.specs.declared.packets.Packet.{Packet}
use Rattle.board.specs.Bearers.{blank, bearer_of, changed, has_room, any_in, after_offer, after_take}
use Rattle.board.specs.Costs.{cost_of_length}
use Rattle.machine.specs.declared.answers.Answer.{Answer}
use Rattle.machine.specs.declared.answers.Answer.TheVariants.{Arrived, Stepped, Worked, Fetched, Finished, Discarded, Told}
use Rattle.machine.specs.declared.answers.Report.{Report}
use Rattle.machine.specs.declared.answers.Counts.{Counts}
use Rattle.machine.specs.declared.answers.Progress.TheVariants.{Begun, Empty, Taken, Rescheduled, Completed}
use Rattle.machine.specs.Settings.{Settings}
use Rattle.machine.specs.State.{Grant, Core, waits, is_open}
use Rattle.policy.specs.Batches.{Batches}
use Rattle.machine.specs.Moves.{arm, disarm, join, charge, offer_cycles, one_numbered, one_bearer_full, one_queue_full, one_delivered, one_discarded}
use Rattle.machine.specs.Numbers.{without}

-- a packet that arrives gets the next number
abbrev pub next_packet : ℕ → ℕ → Core → Packet
next_packet n t x = record { number = x.counts.numbered; length = n; tag = t }

-- and is offered to its bearer
abbrev pub packet_offered : ℕ → ℕ → ℕ → Core → Core
packet_offered b n t x = record x { bearers = changed x.bearers b (after_offer (next_packet n t x)); counts = one_numbered x.counts }

-- the grant runs on with so many packets left
abbrev pub left_with : Grant → ℕ → Core → Core
left_with g n x = record x { grant = Some (record g { left = n }) }

-- the oldest packet has left the bearer that is served
abbrev pub taken_off : Grant → Core → Core
taken_off g x = record x { bearers = changed x.bearers g.bearer after_take }

module _ (s : Settings) where
  -- arrive. A bearer whose signal is up is disarmed and joins the poll list, at 60 cycles
  abbrev pub heard : ℕ → Core → Core
  heard b x = charge s 60 (join b (disarm b x))

  unfoldable pub arrive : ℕ → ℕ → ℕ → Core → Answer × Core
  arrive b n t x =
      let room : Bool = has_room (bearer_of x.bearers b) in
      let y : Core = packet_offered b n t x in (
        Arrived (record { number = x.counts.numbered; accepted = room }),
        cond room (cond (bearer_of y.bearers b).signal (heard b y) y) (record y { counts = one_bearer_full y.counts }),
      )

  -- step without a grant: the first of the poll list leaves it and gets a grant, at 80 cycles
  unfoldable pub begin : Batches → Core → Answer × Core
  begin p x =
      let b : ℕ = slice_index_or x.listed 0 0 in
      let q : ℕ = p.quota b (length (waits x.bearers b)) in (
        Stepped (Begun b q),
        charge s 80 (record x { listed = drop 1 x.listed; grant = Some (record { bearer = b; left = q }) }),
      )

  -- the queue has room for a packet
  abbrev pub has_queue_room : Core → Bool
  has_queue_room x = nat_lt (length x.queue) s.size

  -- the packet joins the queue, or is dropped if S packets are there
  abbrev pub queued : Packet → Core → Core
  queued q x = cond (has_queue_room x) (record x { queue = x.queue ++ q ∷ [] }) (record x { counts = one_queue_full x.counts })

  -- the grant has one left less, and the take cost and the class cost are charged
  abbrev pub paid : Grant → Packet → Core → Core
  paid g q x = charge s ((bearer_of x.bearers g.bearer).cost + cost_of_length q.length) (left_with g (g.left - 1) (taken_off g x))

  -- at the high mark the hold begins, and the grant has none left
  abbrev pub high_marked : Grant → Core → Core
  high_marked g x = cond (nat_le s.high (length x.queue)) (record (left_with g 0 x) { hold = s.hold }) x

  -- step, a grant with packets left: take from its bearer, and queue what came, if anything did
  abbrev pub take_by : Grant → Option Packet → Core → Answer × Core
  take_by g None x = (Stepped Empty, left_with g 0 (taken_off g x))
  take_by g (Some q) x = (Stepped (Taken q.number (has_queue_room x)), high_marked g (queued q (paid g q x)))

  -- step, a grant with none left: it closes
  abbrev pub close : Grant → Core → Answer × Core
  close g x =
      cond (any_in (waits x.bearers g.bearer))
      (Stepped Rescheduled, record (join g.bearer x) { grant = None })
      (Stepped Completed, record (cond (is_open s x) (arm g.bearer x) x) { grant = None })

  -- step with a grant
  unfoldable pub serve : Grant → Core → Answer × Core
  serve g x = cond (g.left == 0) (close g x) (take_by g (slice_get (waits x.bearers g.bearer) 0) x)

  -- step goes by the grant, if one runs
  abbrev pub step : Batches → Option Grant → Core → Answer × Core
  step p None x = begin p x
  step p (Some g) x = serve g x

  -- work: the application is offered cycles
  abbrev pub work : ℕ → Core → Answer × Core
  work c x = (Worked, offer_cycles s c x)

  -- fetch: at the low mark the hold ends
  unfoldable pub fetch : Core → Answer × Core
  fetch x =
      let q : Packet = slice_index_or x.queue 0 blank in
      let rest : List Packet = drop 1 x.queue in (
        Fetched q,
        record x { hold = cond (nat_le (length rest) s.low) 0 x.hold; queue = rest; out = x.out ++ q.number ∷ [] },
      )

-- finish and discard: a number that is out is spent, and its packet counted
abbrev pub spend : ℕ → (Counts → Counts) → Core → Core
spend n count x = record x { out = without n x.out; counts = count x.counts }

abbrev pub finish : ℕ → Core → Answer × Core
finish n x = (Finished, spend n one_delivered x)

abbrev pub discard : ℕ → Core → Answer × Core
discard n x = (Discarded, spend n one_discarded x)

-- tell: nothing changes
abbrev pub report_of : Core → Report
report_of x = record { counts = x.counts; closed = x.clock.closed; last = x.clock.last }

abbrev pub tell : Core → Answer × Core
tell x = (Told (report_of x), x)
