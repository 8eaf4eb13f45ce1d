-- Each stage that turns reach is fit, and the calls of turns are accepted there.
use Rattle.std.proofs.Common.{◌≡◌, ℕ, ◌+◌, ◌-◌, ◌<◌, ◌≤◌, Bool, true, false, List, [], ◌∷◌, length, drop, Some, None, Ok, Err, Option, Result, is_ok, option_map, option_to_list, refl, sym, ap, ◌∙◌, subst, arith}
use Rattle.std.specs.List.{AllByRecursion}
use Rattle.std.proofs.lemmas.Bool.{eq-eqb}
use Rattle.std.proofs.lemmas.List.{length-map}
use Rattle.board.specs.declared.packets.Packet.{Packet}
use Rattle.board.specs.Bearers.{Bearer, bearer_of, has_room, after_arm, after_disarm, any_in}
use Rattle.capture.specs.declared.packets.Captured.{Captured}
use Rattle.machine.specs.declared.answers.Answer.{Answer}
use Rattle.machine.specs.declared.answers.Answer.TheVariants.{Configured, Arrived, Worked, Fetched, Finished}
use Rattle.machine.specs.declared.answers.Arrival.{Arrival}
use Rattle.machine.specs.declared.calls.Call.{Call}
use Rattle.machine.specs.declared.calls.Call.TheVariants.{Configure, Step, Work, Fetch, Finish}
use Rattle.machine.specs.Settings.{Settings}
use Rattle.machine.specs.declared.refusals.Refusal.{Refusal}
use Rattle.machine.specs.Standard.{standard, standard_numbers}
use Rattle.machine.specs.Machine.{fresh, call}
use Rattle.machine.specs.Numbers.{holds, without}
use Rattle.machine.specs.State.{Core, State, configured, out_of, put_up}
use Rattle.policy.specs.Batches.{Batches, IsBounded}
use Rattle.machine.proofs.Basics.{none_left}
use Rattle.machine.specs.Kept.{Kept, KeptState}
use Rattle.machine.proofs.Kept.{keeps, call_keeps}
use Rattle.machine.proofs.Moved.{Happens, happened}
use Rattle.machine.proofs.OneCall.{out_by, numbered_by, outs, numbers, passes, same_bearers, below_period, arrive_done, work_done, fetch_done, fetch_none, finish_done}
use Rattle.replay.specs.Fit.{Readable, FitCore, Fit}
use Rattle.replay.specs.Stages.{Task, Stage, first_stamp, start, core, closed, to_end, span, arrival, coming_after, task_after, turn, after}
use Rattle.replay.proofs.Applies.{Applies, applies, arrives, finishes, steps, works, fetches, idles, ended, over, span_least, span_most}

-- a packet that the application has is out
abbrev numbers_of : Option Task → List ℕ
numbers_of task = option_to_list (option_map (λ (t : Task). t.number) task)

spent_alone : (n : ℕ) → without n (n ∷ []) ≡ []
spent_alone n = rw (eq-eqb n n refl)

held_alone : (n : ℕ) → holds n (n ∷ []) ≡ true
held_alone n = rw (eq-eqb n n refl)

same_number : (c : ℕ) (task : Option Task) → numbers_of (option_map (λ (u : Task). record u { to_go = u.to_go - c }) task) ≡ numbers_of task
same_number c None = refl
same_number c (Some t) = refl

-- the number that an arrival is given, and whether there is room
abbrev given : Core → Captured → Arrival
given x q = record { number = x.counts.numbered; accepted = has_room (bearer_of x.bearers q.bearer) }

-- a list of which some is left has a front
record Front {A : Type 0} (xs : List A) : Type 0 where
  pub head : A
  pub rest : List A
  pub same : xs ≡ head ∷ rest

front : {A : Type 0} (xs : List A) → any_in xs ≡ true → Front xs
front [] h = cc h
front (x ∷ xs) h = record { head = x; rest = xs; same = refl }

accepted : (r : Result Answer Refusal) → is_ok r ≡ true → (a : Answer) × (r ≡ Ok a)
accepted (Ok a) h = (a, refl)
accepted (Err q) h = cc h

module _ (p : Batches) where
  -- what a configured receiver holds after a call
  abbrev pub left_by : Settings → Core → Call → Core
  left_by s x c = core (call p c (configured s x)).1

  pub runs : (s : Settings) (x : Core) (c : Call) → (call p c (configured s x)).1 ≡ configured s (left_by s x c)
  unfolding call
  runs s x c = refl

module _ (p : Batches) {x : Core} {coming : List Captured} {first : ℕ} {task : Option Task} (f : FitCore p x coming first task) where
  abbrev answer : Call → Result Answer Refusal
  answer c = (call p c (configured standard x)).0

  first_readable : (q : Captured) (qs : List Captured) → coming ≡ q ∷ qs → AllByRecursion (Readable (length x.bearers) first) (q ∷ qs)
  first_readable q qs e = subst (AllByRecursion (Readable (length x.bearers) first)) e f.readable

  arrive_fit : (q : Captured) (qs : List Captured) → coming ≡ q ∷ qs → answer (arrival q) ≡ Ok (Arrived (given x q))
  arrive_fit q qs e =
      let r = (first_readable q qs e).0 in
      arrive_done p standard x q.bearer q.length 0 (omega (arith, f.few)) (omega (arith, f.closed)) r.bearer r.least r.most

  work_fit : (c : ℕ) → 1 ≤ c → x.clock.elapsed + c ≤ standard.period → answer (Work c) ≡ Ok Worked
  work_fit c = work_done p standard x c (omega (arith, f.few)) (omega (arith, f.closed))

  out_is : (t : Task) → task ≡ Some t → x.out ≡ t.number ∷ []
  out_is t e = f.out ∙ ap numbers_of e

  none_out : task ≡ None → x.out ≡ []
  none_out e = f.out ∙ ap numbers_of e

  fetch_fit : (q : Packet) (rest : List Packet) → task ≡ None → x.queue ≡ q ∷ rest → answer Fetch ≡ Ok (Fetched q)
  fetch_fit q rest n e = fetch_done p standard x q rest e (omega (arith, ap length (none_out n)))

  is_out : (t : Task) → task ≡ Some t → holds t.number x.out ≡ true
  is_out t e = rw (out_is t e) (held_alone t.number)

  -- an accepted call leaves all fit, where it leaves these packets to arrive and the application this packet
  stays : IsBounded p → x.clock.closed < 1000 → (c : Call) (a : Answer) → answer c ≡ Ok a → (qs : List Captured) (u : Option Task) →
      out_by c (Ok a) x.out ≡ numbers_of u → numbered_by c x.counts.numbered + length qs ≤ 1024 → AllByRecursion (Readable (length x.bearers) first) qs →
      FitCore p (left_by p standard x c) qs first u
  stays bounded l c a e qs u o n r =
      let h : Happens p (configured standard x) c (Ok a) (configured standard (left_by p standard x c)) = happened p c (configured standard x) e (runs p standard x c) in
      let kept : Kept p.greatest standard _ = call_keeps p bounded (configured standard x) _ c (Ok a) f.kept h in
      record {
        kept = kept;
        elapsed = below_period p.greatest standard x _ f.elapsed (passes h) kept;
        closed = omega (arith, (passes h).most);
        out = outs h ∙ o;
        few = omega (arith, n, numbers h);
        readable = subst (λ m. AllByRecursion (Readable m first) qs) (sym (same_bearers h)) r;
      }

-- the call of a turn is accepted, it is numbered if it is an arrival, and the stage after it is fit
pub record Goes (p : Batches) (x : Stage) (c : Call) : Type 0 where
  pub answer : Answer
  pub answered : (call p c x.receiver).0 ≡ Ok answer
  pub numbered : (core (call p c x.receiver).1).counts.numbered ≡ numbered_by c (core x.receiver).counts.numbered
  pub fit : Fit p (after p c x)

abbrev GoesOn : Batches → Stage → Option Call → Type 0
GoesOn p x None = Unit {0}
GoesOn p x (Some c) = Goes p x c

module _ (p : Batches) (x : Stage) (f : Fit p x) where
  abbrev held : Core
  held = core x.receiver

  -- what holds of the receiver as it is configured, holds of the stage's
  pub there : (P : State → Type 0) → P (configured standard held) → P x.receiver
  there P = subst P (sym f.0)

  pub here : (P : State → Type 0) → P x.receiver → P (configured standard held)
  here P = subst P f.0

  -- the receiver is left fit
  abbrev Stays : Call → State → Type 0
  Stays c t =
      ((call p c t).1 ≡ configured standard (core (call p c t).1))
      × FitCore p (core (call p c t).1) (coming_after c x.coming) x.first (task_after c (call p c t).0 x.task)

  -- a call with this answer
  goes : (c : Call) (a : Answer) → (call p c (configured standard held)).0 ≡ Ok a →
      FitCore p (left_by p standard held c) (coming_after c x.coming) x.first (task_after c (Ok a) x.task) → Goes p x c
  goes c a e k = record {
    answer = a;
    answered = there (λ t. (call p c t).0 ≡ Ok a) e;
    numbered = there (λ t. (core (call p c t).1).counts.numbered ≡ numbered_by c held.counts.numbered)
        (numbers (happened p c (configured standard held) e (runs p standard held c)));
    fit = there (Stays c)
        (runs p standard held c, subst (λ r. FitCore p (left_by p standard held c) (coming_after c x.coming) x.first (task_after c r x.task)) (sym e) k);
  }

  -- whatever the turn is, the application's packet is out, and a fetch is accepted if there is one to fetch
  pub task_out : (t : Task) → x.task ≡ Some t → holds t.number (out_of x.receiver) ≡ true
  task_out t e = there (λ u. holds t.number (out_of u) ≡ true) (is_out p f.1 t e)

  pub fetched_if_left : x.task ≡ None → any_in held.queue ≡ is_ok (call p Fetch x.receiver).0
  fetched_if_left n = there (λ t. any_in held.queue ≡ is_ok (call p Fetch t).0) (by (any_in held.queue) refl)
    where
      by : (b : Bool) → any_in held.queue ≡ b → any_in held.queue ≡ is_ok (call p Fetch (configured standard held)).0
      by true h = let q = front held.queue h in h ∙ sym (ap is_ok (fetch_fit p f.1 q.head q.rest n q.same))
      by false h = h ∙ sym (fetch_none p standard held (none_left held.queue h))

  module _ (bounded : IsBounded p) where
    -- one that leaves the packets still to arrive as they are, and is given no number
    goes_same : closed x < 1000 → (c : Call) (a : Answer) → (call p c (configured standard held)).0 ≡ Ok a →
        coming_after c x.coming ≡ x.coming → numbered_by c held.counts.numbered ≡ held.counts.numbered →
        out_by c (Ok a) held.out ≡ numbers_of (task_after c (Ok a) x.task) → Goes p x c
    goes_same l c a e same n o =
        goes c a e (stays p f.1 bounded l c a e _ _ o (omega (arith, n, ap length same, f.1.few)) (rw same f.1.readable))

    works_on : closed x < 1000 → (c : ℕ) → 1 ≤ c → c ≤ to_end x → Goes p x (Work c)
    works_on l c m n =
        goes_same l (Work c) Worked (work_fit p f.1 c m (omega (arith, f.1.elapsed))) refl refl (f.1.out ∙ sym (same_number c x.task))

    goes_on : (o : Option Call) → Applies p x o → GoesOn p x o
    goes_on _ (ended l) = tt
    goes_on _ (arrives {q = q} {qs = qs} l e m) =
        let a = arrive_fit p f.1 q qs e in
        goes (arrival q) _ a
        (stays p f.1 bounded l (arrival q) _ a (drop 1 x.coming) x.task f.1.out
        (omega (arith, f.1.few, ap length e, ap (λ (k : List Captured). length (drop 1 k)) e)) (rw e (first_readable p f.1 q qs e).1))
    goes_on _ (finishes {t = t} l d e z) =
        goes_same l (Finish t.number) Finished (finish_done p t.number (configured standard held) (is_out p f.1 t e)) refl refl (rw (out_is p f.1 t e) (spent_alone t.number))
    goes_on _ (steps l d h o) =
        let a = accepted (call p Step (configured standard held)).0 (here (λ t. is_ok (call p Step t).0 ≡ true) o) in
        goes_same l Step a.0 a.1 refl refl f.1.out
    goes_on _ (works {t = t} k e z) = works_on k.few _ (omega (arith, z, span_least x k.due f.1.elapsed)) (omega (arith, span_most x))
    goes_on _ (fetches k n h) =
        let q = front held.queue h in
        let a = fetch_fit p f.1 q.head q.rest n q.same in
        goes_same k.few Fetch (Fetched q.head) a refl refl (rw (none_out p f.1 n))
    goes_on _ (over k n q o) = tt
    goes_on _ (idles k n q o) = works_on k.few (span x) (span_least x k.due f.1.elapsed) (span_most x)

-- every turn's call is accepted, and leads to a fit stage
pub turn_goes : (p : Batches) → IsBounded p → (x : Stage) → Fit p x → (c : Call) → turn p x ≡ Some c → Goes p x c
turn_goes p bounded x f c e = subst (GoesOn p x) e (goes_on p x f bounded (turn p x) (applies p x))

pub stays_fit : (p : Batches) → IsBounded p → (x : Stage) → Fit p x → (c : Call) → turn p x ≡ Some c → Fit p (after p c x)
stays_fit p bounded x f c e = (turn_goes p bounded x f c e).fit

-- the start is fit, of packets as a capture has them, on a receiver that can be configured
pub start_fits : (p : Batches) → IsBounded p → (bs : List Bearer) (ps : List Captured) →
    call p (Configure standard_numbers) (put_up bs) ≡ (Ok Configured, configured standard (fresh bs)) →
    AllByRecursion (Readable (length bs) (first_stamp ps)) ps → length ps ≤ 1024 → Fit p (start bs ps)
start_fits p bounded bs ps ready r l = (
  refl,
  record {
    kept = subst (KeptState p.greatest) (ap (λ (d : Result Answer Refusal × State). d.1) ready) (keeps p bounded (Configure standard_numbers) (put_up bs) tt);
    elapsed = omega arith;
    closed = omega arith;
    out = refl;
    few = omega (arith, l);
    readable =
        subst (λ n. AllByRecursion (Readable n (first_stamp ps)) ps) (sym (length-map bs (λ (v : Bearer). after_arm false (after_disarm v)))) r;
  },
)
