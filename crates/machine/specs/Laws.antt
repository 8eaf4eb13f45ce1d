-- Laws of every list of calls, made on a receiver just put up. Each speaks of a policy, of the bearers that the board showed then, and of a trace.
use Rattle.std.specs.Prelude.{◌≡◌, ℕ, ◌+◌, ◌<◌, ◌≤◌, Bool, true, false, cond, ◌≢◌, List, [], ◌∷◌, ◌++◌, map, length, Some, None, Ok, Err, Option, Result, ◌==◌, nat_lt}
use Rattle.std.specs.List.{slice_get, flat_map, sum_by}
use Rattle.board.specs.declared.packets.Packet.{Packet}
use Rattle.board.specs.Bearers.{Bearer, bearer_of}
use Rattle.machine.specs.declared.answers.Answer.{Answer}
use Rattle.machine.specs.declared.answers.Answer.TheVariants.{Configured, Arrived, Worked, Fetched, Finished, Discarded, Told, Stepped}
use Rattle.machine.specs.declared.answers.Counts.{Counts}
use Rattle.machine.specs.declared.answers.Period.{Period}
use Rattle.machine.specs.declared.answers.Progress.{Progress}
use Rattle.machine.specs.declared.answers.Progress.TheVariants.{Begun, Taken}
use Rattle.machine.specs.declared.answers.Report.{Report}
use Rattle.machine.specs.declared.calls.Call.{Call}
use Rattle.machine.specs.declared.calls.Call.TheVariants.{Configure, Arrive, Step, Work, Fetch, Finish, Discard, Tell}
use Rattle.machine.specs.declared.refusals.Refusal.{Refusal}
use Rattle.machine.specs.State.{Core, State, configured, waits, busy, is_open, unconfigured, put_up}
use Rattle.policy.specs.Batches.{Batches, IsBounded}
use Rattle.machine.specs.Settings.{Settings, grant_bound}
use Rattle.machine.specs.Tidy.{ways}
use Rattle.machine.specs.Trace.{Entry, trace, end_of, Throughout}
use Rattle.machine.specs.Ledger.{Ledger, Columns, column, column_room, queue_room, progress_in, depths_of, ledger, counts_of}
use Rattle.machine.specs.Numbers.{holds, times}

abbrev pub Law : Type 1
Law = Batches → List Bearer → List Entry → Type 0

-- a law holds of every policy that keeps its bounds, of any list of bearers, in any state, and of every list of calls
abbrev pub Always : Law → Type 0
Always law = (p : Batches) → IsBounded p → (bs : List Bearer) (cs : List Call) → law p bs (trace p (put_up bs) cs)

-- once configured: of the settings, and of what the receiver holds
abbrev pub OnceConfigured : State → (Settings → Core → Type 0) → Type 0
OnceConfigured (unconfigured u) P = Unit {0}
OnceConfigured (configured s x) P = P s x

-- REFUSALS LEAVE ALL AS IT WAS. A refused call changes nothing.
abbrev pub RefusalsLeave : Law
RefusalsLeave p bs es =
    (before after : List Entry) (e : Entry) (r : Refusal) → es ≡ before ++ e ∷ after → e.answered ≡ Err r → e.after ≡ e.before

-- the periods closed
abbrev pub closed_in : State → ℕ
closed_in (unconfigured u) = 0
closed_in (configured s x) = x.clock.closed

-- the cycles that an accepted call of work offered
abbrev pub cycles_of : Call → ℕ
cycles_of (Work c) = c
cycles_of _ = 0

abbrev pub offered_by : Call → Result Answer Refusal → ℕ
offered_by c (Err r) = 0
offered_by c (Ok a) = cycles_of c

-- the cycles offered while k periods were closed
abbrev pub offered_in : ℕ → List Entry → ℕ
offered_in k = sum_by (λ (e : Entry). cond (closed_in e.before == k) (offered_by e.asked e.answered) 0)

-- THE APPLICATION'S SHARE. N and B together are at most P, and every closed period offered the application at least P - N - B + 1 cycles.
pub record Shared (p : Batches) (bs : List Bearer) (es : List Entry) (s : Settings) (x : Core) : Type 0 where
  pub some : s.limit + grant_bound p.greatest bs ≤ s.period
  pub each : (k : ℕ) → k < x.clock.closed → s.period + 1 ≤ offered_in k es + (s.limit + grant_bound p.greatest bs)

abbrev pub Share : Law
Share p bs es = OnceConfigured (end_of (put_up bs) es) (Shared p bs es)

-- the record of the last period closed, if one has: what it offered, and the rest of it
abbrev pub LastRecorded : ℕ → (ℕ → ℕ) → ℕ → Option Period → Type 0
LastRecorded period offered closed None = closed ≡ 0
LastRecorded period offered closed (Some d) = (k : ℕ) × (closed ≡ k + 1) × (d.offered ≡ offered k) × (d.offered + d.network ≡ period)

-- what a report says of periods, after es and of the receiver then
abbrev pub TruePeriods : List Entry → State → Report → Type 0
TruePeriods es (unconfigured u) r = (r.closed ≡ 0) × (r.last ≡ None)
TruePeriods es (configured s x) r = (r.closed ≡ x.clock.closed) × LastRecorded s.period (λ k. offered_in k es) r.closed r.last

-- TRUE RECORDS. tell answers how many periods have closed, and of the last one what it offered the application and the rest of it.
abbrev pub TrueRecords : Law
TrueRecords p bs es =
    (before after : List Entry) (e : Entry) (r : Report) → es ≡ before ++ e ∷ after → e.answered ≡ Ok (Told r) → TruePeriods before e.before r

-- the numbers of packets
abbrev pub numbers : List Packet → List ℕ
numbers = map (λ (q : Packet). q.number)

-- LEDGER AGREES. Once configured, after every call, the receiver holds what the ledger says.
pub record Agrees (x : Core) (l : Ledger) : Type 0 where
  pub waiting : map (λ (v : Bearer). numbers v.waiting) x.bearers ≡ l.columns.waiting
  pub queue : numbers x.queue ≡ l.columns.queue
  pub out : x.out ≡ l.columns.out
  pub counts : x.counts ≡ counts_of l

abbrev pub LedgerAgrees : Law
LedgerAgrees p bs es = Throughout (put_up bs) es (λ before t. OnceConfigured t (λ s x. Agrees x (ledger bs before)))

-- a step that takes answers the front of the column last begun, and queued where the queue's column has room
abbrev pub TrueStep : Option Progress → Ledger → Type 0
TrueStep None l = ⊥
TrueStep (Some (Taken n queued)) l = (slice_get (column l l.serving) 0 ≡ Some n) × (queued ≡ queue_room l)
TrueStep (Some did) l = Unit {0}

-- an arrival, the next number, and accepted where its bearer's column has room; fetch, the queue's front; what is spent is out; tell, the counts
abbrev pub TrueAnswer : List ℕ → Call → Answer → Ledger → Type 0
TrueAnswer depths (Configure s) a l = a ≡ Configured
TrueAnswer depths (Arrive b n t) a l = (b < length l.columns.waiting) × (a ≡ Arrived (record { number = l.next; accepted = column_room depths l b }))
TrueAnswer depths Step a l = TrueStep (progress_in a) l
TrueAnswer depths (Work c) a l = a ≡ Worked
TrueAnswer depths Fetch a l = (q : Packet) × (a ≡ Fetched q) × (slice_get l.columns.queue 0 ≡ Some q.number)
TrueAnswer depths (Finish n) a l = (a ≡ Finished) × (holds n l.columns.out ≡ true)
TrueAnswer depths (Discard n) a l = (a ≡ Discarded) × (holds n l.columns.out ≡ true)
TrueAnswer depths Tell a l = (r : Report) × (a ≡ Told r) × (r.counts ≡ counts_of l)

abbrev pub Truly : List ℕ → Call → Result Answer Refusal → Ledger → Type 0
Truly depths c (Err r) l = Unit {0}
Truly depths c (Ok a) l = TrueAnswer depths c a l

-- TRUE ANSWERS. What each accepted call answers is what the ledger says before it.
abbrev pub TrueAnswers : Law
TrueAnswers p bs es =
    (before after : List Entry) (e : Entry) → es ≡ before ++ e ∷ after → Truly (depths_of bs) e.asked e.answered (ledger bs before)

-- how often a number stands in a list of lists
abbrev pub times_in_all : ℕ → List (List ℕ) → ℕ
times_in_all n = sum_by (times n)

-- how often a number stands in all the columns together
abbrev pub places : ℕ → Columns → ℕ
places n k =
    times_in_all n k.waiting + times n k.queue + times n k.out + times n k.delivered + times n k.bearer_full + times n k.queue_full
    + times n k.discarded

-- ONE PLACE. After every call, each number below the next stands exactly once in the ledger, and no other stands there.
abbrev pub OnePlace : Law
OnePlace p bs es =
    Throughout (put_up bs) es (λ before _. (n : ℕ) → places n (ledger bs before).columns ≡ cond (nat_lt n (ledger bs before).next) 1 0)

-- the numbers fetched, and those that arrived on a bearer, in order
abbrev pub fetched_by : Answer → List ℕ
fetched_by (Fetched q) = q.number ∷ []
fetched_by _ = []

abbrev pub arrived_by : Answer → List ℕ
arrived_by (Arrived a) = a.number ∷ []
arrived_by _ = []

-- whether a call is an arrival on a bearer
abbrev pub comes_on : ℕ → Call → Bool
comes_on b (Arrive c n t) = c == b
comes_on b _ = false

abbrev pub if_accepted : (Answer → List ℕ) → Result Answer Refusal → List ℕ
if_accepted f (Err r) = []
if_accepted f (Ok a) = f a

abbrev pub fetches : List Entry → List ℕ
fetches = flat_map (λ (e : Entry). if_accepted fetched_by e.answered)

abbrev pub arrivals : ℕ → List Entry → List ℕ
arrivals b = flat_map (λ (e : Entry). cond (comes_on b e.asked) (if_accepted arrived_by e.answered) [])

-- of two numbers in a list, m stands before n
abbrev pub Before : List ℕ → ℕ → ℕ → Type 0
Before ns m n = (i : ℕ) × (j : ℕ) × (i < j) × (slice_get ns i ≡ Some m) × (slice_get ns j ≡ Some n)

-- ARRIVAL ORDER. Of two packets fetched, both of which arrived on one bearer, the one fetched first arrived first.
abbrev pub ArrivalOrder : Law
ArrivalOrder p bs es =
    (b m n : ℕ) → holds m (arrivals b es) ≡ true → holds n (arrivals b es) ≡ true → Before (fetches es) m n → Before (arrivals b es) m n

-- NO LOST WAKEUP. Once configured, after every call, no packet waits in an armed bearer; and with the gate open, a bearer with packets is listed or served.
pub record NoWakeupLost (s : Settings) (x : Core) : Type 0 where
  pub armed_empty : (b : ℕ) → (bearer_of x.bearers b).armed ≡ true → waits x.bearers b ≡ []
  pub waiting_busy : is_open s x ≡ true → (b : ℕ) → waits x.bearers b ≢ [] → busy x b ≡ true

abbrev pub NoLostWakeup : Law
NoLostWakeup p bs es = Throughout (put_up bs) es (λ _ t. OnceConfigured t NoWakeupLost)

-- ONE WAY. Once configured, after every call, a bearer is at most one of armed, listed and served, and is listed once at most; with the gate open each bearer
-- shown is one of them, and with the gate shut none is armed.
pub record OneWayEach (s : Settings) (x : Core) : Type 0 where
  pub once : (b : ℕ) → ways x.bearers x.listed x.grant b ≤ 1
  pub open_some : is_open s x ≡ true → (b : ℕ) → b < length x.bearers → ways x.bearers x.listed x.grant b ≡ 1
  pub shut_unarmed : is_open s x ≡ false → (b : ℕ) → (bearer_of x.bearers b).armed ≡ false

abbrev pub OneWay : Law
OneWay p bs es = Throughout (put_up bs) es (λ _ t. OnceConfigured t OneWayEach)

-- the grants begun on a bearer
abbrev pub begun_by : ℕ → Option Progress → ℕ
begun_by b (Some (Begun c q)) = cond (c == b) 1 0
begun_by b _ = 0

abbrev pub begun_on : ℕ → Result Answer Refusal → ℕ
begun_on b (Err r) = 0
begun_on b (Ok a) = begun_by b (progress_in a)

abbrev pub begins : ℕ → List Entry → ℕ
begins b = sum_by (λ (e : Entry). begun_on b e.answered)

-- packets wait in a bearer
abbrev pub Waiting : ℕ → State → Type 0
Waiting b (unconfigured u) = waits u.bearers b ≢ []
Waiting b (configured s x) = waits x.bearers b ≢ []

abbrev pub AlwaysWaiting : ℕ → List Entry → Type 0
AlwaysWaiting b [] = Unit {0}
AlwaysWaiting b (e ∷ es) = Waiting b e.after × AlwaysWaiting b es

-- EQUAL TURNS. Wherever the trace is cut into before, stretch and after, and a bearer has packets at the stretch's start and after each of its calls, no other
-- bearer begins more than one grant more in the stretch. So of two such bearers each begins at most one more than the other.
abbrev pub EqualTurns : Law
EqualTurns p bs es =
    (before stretch after : List Entry) → es ≡ before ++ (stretch ++ after) →
    (b c : ℕ) → b ≢ c →
    Waiting c (end_of (put_up bs) before) → AlwaysWaiting c stretch →
    begins b stretch ≤ begins c stretch + 1

-- the packets that steps took
abbrev pub taken_by : Option Progress → ℕ
taken_by (Some (Taken n q)) = 1
taken_by _ = 0

abbrev pub taken_on : Result Answer Refusal → ℕ
taken_on (Err r) = 0
taken_on (Ok a) = taken_by (progress_in a)

abbrev pub takes : List Entry → ℕ
takes = sum_by (λ (e : Entry). taken_on e.answered)

-- BOUNDED BATCHES. A grant begins with the policy's quota for the packets that wait in its bearer, and no more than that are taken before the next one begins.
pub record Batch (p : Batches) (l : Ledger) (b q : ℕ) (stretch : List Entry) : Type 0 where
  pub quota : q ≡ p.quota b (length (column l b))
  pub bound : takes stretch ≤ q

abbrev pub BoundedBatches : Law
BoundedBatches p bs es =
    (before stretch after : List Entry) (e : Entry) (b q : ℕ) → es ≡ before ++ e ∷ (stretch ++ after) →
    e.answered ≡ Ok (Stepped (Begun b q)) → ((c : ℕ) → begins c stretch ≡ 0) → Batch p (ledger bs before) b q stretch

-- QUIET BETWEEN CALLS. Once configured, after every call every signal is down.
abbrev pub Quiet : Law
Quiet p bs es = Throughout (put_up bs) es (λ _ t. OnceConfigured t (λ s x. (b : ℕ) → (bearer_of x.bearers b).signal ≡ false))

-- how many packets are somewhere: those that wait, are queued or are out, and those counted as delivered or dropped
abbrev pub accounted : List Bearer → List Packet → List ℕ → Counts → ℕ
accounted bs q o n =
    sum_by (λ (v : Bearer). length v.waiting) bs + length q + length o + n.delivered + n.bearer_full + n.queue_full + n.discarded

-- BOUNDED MEMORY. Once configured, after every call, the poll list has no more entries than the board shows bearers, the queue no more than S packets, and
-- at most sixteen numbers are out; as many packets are somewhere as are numbered; and at most 1,000,000,000 packets are numbered, and no more periods closed
-- than that.
pub record Within (s : Settings) (x : Core) : Type 0 where
  pub listed : length x.listed ≤ length x.bearers
  pub queue : length x.queue ≤ s.size
  pub out : length x.out ≤ 16
  pub counted : accounted x.bearers x.queue x.out x.counts ≡ x.counts.numbered
  pub numbered : x.counts.numbered ≤ 1000000000
  pub closed : x.clock.closed ≤ 1000000000

abbrev pub BoundedMemory : Law
BoundedMemory p bs es = Throughout (put_up bs) es (λ _ t. OnceConfigured t Within)

-- All the laws together.
pub record Lawful (p : Batches) (bs : List Bearer) (es : List Entry) : Type 0 where
  pub refusals_leave : RefusalsLeave p bs es
  pub share : Share p bs es
  pub true_records : TrueRecords p bs es
  pub ledger_agrees : LedgerAgrees p bs es
  pub true_answers : TrueAnswers p bs es
  pub one_place : OnePlace p bs es
  pub arrival_order : ArrivalOrder p bs es
  pub no_lost_wakeup : NoLostWakeup p bs es
  pub one_way : OneWay p bs es
  pub equal_turns : EqualTurns p bs es
  pub bounded_batches : BoundedBatches p bs es
  pub quiet : Quiet p bs es
  pub bounded_memory : BoundedMemory p bs es
