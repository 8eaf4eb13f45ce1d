-- What a call comes to: it is refused, it is tell asked before it is configured, it configures, or it is one of the moves below.
-- What a law needs of the machine is shown by these cases.
use Rattle.std.proofs.Common.{◌≡◌, ℕ, ◌+◌, ◌-◌, ◌<◌, ◌≤◌, Bool, true, false, cond, ◌||◌, eqb, leb, List, [], ◌∷◌, ◌++◌, length, get_or, drop, Some, None, Ok, Err, Option, Result, sym, refl, ap, ◌∙◌, subst, arith}
use Rattle.std.specs.List.{slice_get}
use Rattle.std.proofs.lemmas.Bool.{cond_both, cond-true, cond-false, ltb-true, leb-true, eqb-true, eqb-false, not-true}
use Rattle.board.specs.declared.packets.Packet.{Packet}
use Rattle.board.specs.Bearers.{blank, Bearer, bearer_of, changed, has_room, any_in, after_offer, after_arm, after_disarm}
use Rattle.board.specs.Costs.{cost_of_length}
use Rattle.board.proofs.Changes.{bearer_changed, changed_twice}
use Rattle.machine.specs.declared.answers.Answer.{Answer}
use Rattle.machine.specs.declared.answers.Answer.TheVariants.{Configured, Arrived, Stepped, Worked, Fetched, Finished, Discarded, Told}
use Rattle.machine.specs.declared.answers.Progress.TheVariants.{Begun, Empty, Taken, Rescheduled, Completed}
use Rattle.machine.specs.declared.calls.Call.{Call}
use Rattle.machine.specs.declared.calls.Call.TheVariants.{Configure, Arrive, Step, Work, Fetch, Finish, Discard, Tell}
use Rattle.machine.specs.declared.refusals.Refusal.{Refusal}
use Rattle.machine.specs.State.{Grant, Core, PutUp, State, unconfigured, configured, waits, is_open, is_retired}
use Rattle.policy.specs.Batches.{Batches}
use Rattle.machine.specs.declared.calls.RawSettings.{RawSettings}
use Rattle.machine.specs.Settings.{Settings, settings_from, settings_checks, grant_bound}
use Rattle.machine.specs.Moves.{join, charge, offer_cycles, set_gate, one_numbered, one_bearer_full, one_queue_full}
use Rattle.machine.specs.Calls.{next_packet, left_with, taken_off, heard, arrive, begin, has_queue_room, high_marked, paid, take_by, close, serve, step, fetch, finish, discard, tell}
use Rattle.machine.specs.Machine.{unless, no_report, fresh, waiting_checks, configure_checks, unconfigured_call, arrive_checks, step_checks, work_checks, fetch_checks, out_checks, checks_of, effect_of, gated, configured_call, call}
use Rattle.machine.proofs.Basics.{tested, changed_same, none_left}
use Rattle.machine.specs.Checks.{Check, first_refusal}
use Rattle.machine.specs.Numbers.{holds}

-- a packet behind those that wait
abbrev pub behind : Packet → Bearer → Bearer
behind q v = record v { waiting = v.waiting ++ q ∷ []; signal = v.signal || v.armed }

-- a packet was taken, and queued or not; the grant has m left, and the hold is h
abbrev pub took : Settings → Grant → Packet → ℕ → ℕ → Bool → Core → Core
took s g q m h room x =
    record (left_with g m (charge s ((bearer_of x.bearers g.bearer).cost + cost_of_length q.length) (taken_off g x))) {
      hold = h;
      queue = cond room (x.queue ++ q ∷ []) x.queue;
      counts = cond room x.counts (one_queue_full x.counts);
    }

-- what an accepted call of a configured receiver does, with what was found before it
pub data Move (s : Settings) (p : Batches) (x : Core) : Call → Answer → Core → Type 0 where
  lost : {b n t : ℕ} → b < length x.bearers → has_room (bearer_of x.bearers b) ≡ false → is_retired x ≡ false →
      Move s p x (Arrive b n t) (Arrived (record { number = x.counts.numbered; accepted = false })) (record x { counts = one_bearer_full (one_numbered x.counts) })
  stored : {b n t : ℕ} → b < length x.bearers → has_room (bearer_of x.bearers b) ≡ true →
      ((bearer_of x.bearers b).signal || (bearer_of x.bearers b).armed) ≡ false → is_retired x ≡ false →
      Move s p x (Arrive b n t) (Arrived (record { number = x.counts.numbered; accepted = true }))
      (record x { bearers = changed x.bearers b (behind (next_packet n t x)); counts = one_numbered x.counts })
  signalled : {b n t : ℕ} → b < length x.bearers → has_room (bearer_of x.bearers b) ≡ true →
      ((bearer_of x.bearers b).signal || (bearer_of x.bearers b).armed) ≡ true → is_retired x ≡ false →
      Move s p x (Arrive b n t) (Arrived (record { number = x.counts.numbered; accepted = true }))
      (charge s 60 (join b (record x { bearers = changed x.bearers b (λ v. after_disarm (behind (next_packet n t x) v)); counts = one_numbered x.counts })))
  begun : {b : ℕ} {rest : List ℕ} → x.grant ≡ None → x.listed ≡ b ∷ rest → x.clock.used < s.limit → x.hold ≡ 0 → is_retired x ≡ false →
      Move s p x Step (Stepped (Begun b (p.quota b (length (waits x.bearers b)))))
      (charge s 80 (record x { listed = rest; grant = Some (record { bearer = b; left = p.quota b (length (waits x.bearers b)) }) }))
  emptied : {g : Grant} → x.grant ≡ Some g → waits x.bearers g.bearer ≡ [] → (g.left ≡ 0 → ⊥) → is_retired x ≡ false →
      Move s p x Step (Stepped Empty) (left_with g 0 (taken_off g x))
  taken : {g : Grant} {q : Packet} {rest : List Packet} {m h : ℕ} {room : Bool} → x.grant ≡ Some g → waits x.bearers g.bearer ≡ q ∷ rest → (g.left ≡ 0 → ⊥) →
      m ≤ g.left - 1 → has_queue_room s x ≡ room → is_retired x ≡ false →
      Move s p x Step (Stepped (Taken q.number room)) (took s g q m h room x)
  rescheduled : {g : Grant} → x.grant ≡ Some g → is_retired x ≡ false → Move s p x Step (Stepped Rescheduled) (record (join g.bearer x) { grant = None })
  completed : {g : Grant} {o : Bool} → x.grant ≡ Some g → waits x.bearers g.bearer ≡ [] → is_open s x ≡ o → is_retired x ≡ false →
      Move s p x Step (Stepped Completed) (record x { bearers = cond o (changed x.bearers g.bearer (after_arm false)) x.bearers; grant = None })
  worked : {c : ℕ} → x.clock.elapsed + c ≤ s.period → is_retired x ≡ false → Move s p x (Work c) Worked (offer_cycles s c x)
  fetched : {q : Packet} {rest : List Packet} {h : ℕ} → x.queue ≡ q ∷ rest → length x.out < 16 →
      Move s p x Fetch (Fetched q) (record x { hold = h; queue = rest; out = x.out ++ q.number ∷ [] })
  finished : {n : ℕ} → holds n x.out ≡ true → Move s p x (Finish n) Finished (finish n x).1
  discarded : {n : ℕ} → holds n x.out ≡ true → Move s p x (Discard n) Discarded (discard n x).1
  told : Move s p x Tell (tell x).0 x

-- a receiver that is not retired: one more packet may be numbered, and one more period closed
pub record IsUnretired (x : Core) : Type 0 where
  pub numbered : x.counts.numbered < 1000000000
  pub closed : x.clock.closed < 1000000000

pub unretired : (x : Core) → is_retired x ≡ false → IsUnretired x
unretired x h = record { numbered = grind (arith, h); closed = grind (arith, h) }

-- what checks that all passed tell
abbrev pub Passed : List Check → Type 0
Passed [] = Unit {0}
Passed (c ∷ cs) = (c.0 ≡ true) × Passed cs

pub all_passed : (cs : List Check) → first_refusal cs ≡ None → Passed cs
all_passed [] h = tt
all_passed (c ∷ cs) h = by (all_passed cs) c.0 h
  where
    by : (first_refusal cs ≡ None → Passed cs) → (t : Bool) → cond t (first_refusal cs) (Some c.1) ≡ None → (t ≡ true) × Passed cs
    by rest true h = (refl, rest h)
    by rest false h = cc

pub passed_append : (cs ds : List Check) → Passed (cs ++ ds) → Passed cs × Passed ds
passed_append [] ds h = (tt, h)
passed_append (c ∷ cs) ds h = let r = passed_append cs ds h.1 in ((h.0, r.0), r.1)

pub data Happens (p : Batches) : State → Call → Result Answer Refusal → State → Type 0 where
  refused : {t : State} {c : Call} {r : Refusal} → Happens p t c (Err r) t
  asked_unconfigured : {u : PutUp} → Happens p (unconfigured u) Tell (Ok (Told no_report)) (unconfigured u)
  configures : {u : PutUp} {n : RawSettings} → Passed (settings_checks n) → Passed (waiting_checks 0 u.bearers) →
      n.limit + grant_bound p.greatest u.bearers ≤ n.period →
      Happens p (unconfigured u) (Configure n) (Ok Configured) (configured (settings_from n) (fresh u.bearers))
  moved : {s : Settings} {x y : Core} {c : Call} {a : Answer} → Move s p x c a y → Happens p (configured s x) c (Ok a) (configured s (set_gate s x y))

module _ (s : Settings) (p : Batches) (x : Core) where
  abbrev pub Moves : Call → Answer × Core → Type 0
  Moves c r = Move s p x c r.0 r.1

  -- of a receiver that is not retired
  module _ (live : is_retired x ≡ false) where
    arrive_moves : (b n t : ℕ) → b < length x.bearers → Moves (Arrive b n t) (arrive s b n t x)
    unfolding arrive
    arrive_moves b n t l =
        tested (λ room. Arrives room (after room (changed x.bearers b (after_offer q)))) (has_room v)
        (λ e. subst (λ (k : List Bearer). Arrives true (after true k))
        (ap (λ (w : Bearer). changed x.bearers b (λ _. w)) (sym (cond-true (has_room v) (behind q v) v e))) (kept e))
        (λ e. subst (λ (k : List Bearer). Arrives false (after false k))
        (sym (changed_same x.bearers b (after_offer q) (cond-false (has_room v) (behind q v) v e))) (lost l e live))
      where
        Arrives : Bool → Core → Type 0
        Arrives room y = Move s p x (Arrive b n t) (Arrived (record { number = x.counts.numbered; accepted = room })) y

        q : Packet
        q = next_packet n t x

        v : Bearer
        v = bearer_of x.bearers b

        with_board : List Bearer → Core
        with_board k = record x { bearers = k; counts = one_numbered x.counts }

        after : Bool → List Bearer → Core
        after room k = cond room (cond (bearer_of k b).signal (heard s b (with_board k)) (with_board k)) (record (with_board k) { counts = one_bearer_full (one_numbered x.counts) })

        signal_is : (bearer_of (changed x.bearers b (behind q)) b).signal ≡ (v.signal || v.armed)
        signal_is = ap (λ (w : Bearer). w.signal) (bearer_changed x.bearers b (behind q) l)

        kept : has_room v ≡ true → Arrives true (after true (changed x.bearers b (behind q)))
        kept e = cond_both (bearer_of (changed x.bearers b (behind q)) b).signal _ _ (Arrives true)
            (λ h. subst (λ (k : List Bearer). Arrives true (charge s 60 (join b (with_board k))))
            (sym (changed_twice x.bearers b (behind q) after_disarm)) (signalled l e (sym signal_is ∙ h) live))
            (λ h. stored l e (sym signal_is ∙ h) live)

    first_moves : (l : List ℕ) → x.listed ≡ l → x.grant ≡ None → x.clock.used < s.limit → x.hold ≡ 0 → any_in l ≡ true →
        Move s p x Step (Stepped (Begun (get_or l 0 0) (p.quota (get_or l 0 0) (length (waits x.bearers (get_or l 0 0))))))
        (charge s 80 (record x { listed = drop 1 l; grant = Some (record { bearer = get_or l 0 0; left = p.quota (get_or l 0 0) (length (waits x.bearers (get_or l 0 0))) }) }))
    first_moves [] e g u h a = cc a
    first_moves (b ∷ rest) e g u h a = begun g e u h live

    begin_moves : x.grant ≡ None → x.clock.used < s.limit → x.hold ≡ 0 → any_in x.listed ≡ true → Moves Step (begin s p x)
    unfolding begin
    begin_moves g u h a = first_moves x.listed refl g u h a

    close_moves : (g : Grant) → x.grant ≡ Some g → Moves Step (close s g x)
    close_moves g e = cond_both (any_in (waits x.bearers g.bearer)) _ _ (Moves Step) (λ _. rescheduled e live)
        (λ h. cond_both (is_open s x) _ _ (λ (y : Core). Move s p x Step (Stepped Completed) (record y { grant = None }))
        (λ o. completed e (none_left _ h) o live) (λ o. completed e (none_left _ h) o live))

    take_moves : (g : Grant) (w : List Packet) → x.grant ≡ Some g → (g.left ≡ 0 → ⊥) → waits x.bearers g.bearer ≡ w → Moves Step (take_by s g (slice_get w 0) x)
    take_moves g [] e n h = emptied e h n live
    take_moves g (q ∷ rest) e n h = tested (λ room. Takes room (high_marked s g (after room))) (has_queue_room s x) (marked true) (marked false)
      where
        Takes : Bool → Core → Type 0
        Takes room z = Move s p x Step (Stepped (Taken q.number room)) z

        y : Core
        y = paid s g q x

        after : Bool → Core
        after room = cond room (record y { queue = x.queue ++ q ∷ [] }) (record y { counts = one_queue_full x.counts })

        -- at the high mark, and below it
        stopped : (room : Bool) → has_queue_room s x ≡ room → Takes room (took s g q 0 s.hold room x)
        stopped room r = taken e h n (omega arith) r live

        goes_on : (room : Bool) → has_queue_room s x ≡ room → Takes room (took s g q (g.left - 1) y.hold room x)
        goes_on room r = taken e h n (omega arith) r live

        marked : (room : Bool) → has_queue_room s x ≡ room → Takes room (high_marked s g (after room))
        marked true r = cond_both (leb s.high (length (x.queue ++ q ∷ []))) _ _ (Takes true) (λ _. stopped true r) (λ _. goes_on true r)
        marked false r = cond_both (leb s.high (length x.queue)) _ _ (Takes false) (λ _. stopped false r) (λ _. goes_on false r)

    serve_moves : (g : Grant) → x.grant ≡ Some g → Moves Step (serve s g x)
    unfolding serve
    serve_moves g e = cond_both (eqb g.left 0) _ _ (Moves Step)
        (λ _. close_moves g e)
        (λ n. take_moves g (waits x.bearers g.bearer) e (eqb-false g.left 0 n) refl)

  front_moves : (l : List Packet) → x.queue ≡ l → length x.out < 16 → any_in l ≡ true →
      Move s p x Fetch (Fetched (get_or l 0 blank)) (record x { hold = cond (leb (length (drop 1 l)) s.low) 0 x.hold; queue = drop 1 l; out = x.out ++ (get_or l 0 blank).number ∷ [] })
  front_moves [] e few a = cc a
  front_moves (q ∷ rest) e few a = fetched e few

  fetch_moves : length x.out < 16 → any_in x.queue ≡ true → Moves Fetch (fetch s x)
  unfolding fetch
  fetch_moves few a = front_moves x.queue refl few a

  -- a call whose checks all passed
  step_moves : (g : Option Grant) → x.grant ≡ g → first_refusal (step_checks s x g) ≡ None → Moves Step (step s p g x)
  step_moves (Some g) e h = serve_moves (not-true _ (all_passed (step_checks s x (Some g)) h).0) g e
  step_moves None e h =
      let passed = all_passed (step_checks s x None) h in
      begin_moves (not-true _ passed.0) e (ltb-true x.clock.used s.limit passed.1.0) (eqb-true x.hold 0 passed.1.1.0) passed.1.1.1.0

  pub checked_moves : (c : Call) → first_refusal (checks_of s x c) ≡ None → Moves c (effect_of s x p c)
  checked_moves (Configure n) h = cc h
  checked_moves (Arrive b n t) h =
      let passed = all_passed (arrive_checks b n x) h in arrive_moves (not-true _ passed.0) b n t (ltb-true b (length x.bearers) passed.1.0)
  checked_moves Step h = step_moves x.grant refl h
  checked_moves (Work c) h =
      let passed = all_passed (work_checks s c x) h in worked (leb-true (x.clock.elapsed + c) s.period passed.1.1.0) (not-true _ passed.0)
  checked_moves Fetch h = let passed = all_passed (fetch_checks x) h in fetch_moves (ltb-true (length x.out) 16 passed.1.0) passed.0
  checked_moves (Finish n) h = finished (all_passed (out_checks n x) h).0
  checked_moves (Discard n) h = discarded (all_passed (out_checks n x) h).0
  checked_moves Tell h = told

  configured_comes : (c : Call) → Happens p (configured s x) c (configured_call s x p c).0 (configured s (configured_call s x p c).1)
  configured_comes c = by (first_refusal (checks_of s x c)) refl
    where
      by : (o : Option Refusal) → first_refusal (checks_of s x c) ≡ o →
          Happens p (configured s x) c (unless o x (gated s x (effect_of s x p c))).0 (configured s (unless o x (gated s x (effect_of s x p c))).1)
      by (Some r) e = refused
      by None e = moved (checked_moves c e)

module _ (p : Batches) (u : PutUp) where
  configure_comes : (n : RawSettings) (o : Option Refusal) → first_refusal (configure_checks p n u.bearers) ≡ o →
      Happens p (unconfigured u) (Configure n) (unless o (unconfigured u) (Configured, configured (settings_from n) (fresh u.bearers))).0
      (unless o (unconfigured u) (Configured, configured (settings_from n) (fresh u.bearers))).1
  configure_comes n (Some r) e = refused
  configure_comes n None e =
      let all = passed_append (settings_checks n) _ (all_passed (configure_checks p n u.bearers) e) in
      let rest = passed_append (waiting_checks 0 u.bearers) _ all.1 in
      configures all.0 rest.0 (leb-true (n.limit + grant_bound p.greatest u.bearers) n.period rest.1.0)

  unconfigured_comes : (c : Call) → Happens p (unconfigured u) c (unconfigured_call p c u).0 (unconfigured_call p c u).1
  unconfigured_comes (Configure n) = configure_comes n (first_refusal (configure_checks p n u.bearers)) refl
  unconfigured_comes Tell = asked_unconfigured
  unconfigured_comes _ = refused

pub happens : (p : Batches) (c : Call) (t : State) → Happens p t c (call p c t).0 (call p c t).1
unfolding call
happens p c (unconfigured u) = unconfigured_comes p u c
happens p c (configured s x) = configured_comes s p x c

-- of what is answered, and left
pub happened : (p : Batches) (c : Call) (t : State) {r : Result Answer Refusal} {u : State} → (call p c t).0 ≡ r → (call p c t).1 ≡ u → Happens p t c r u
happened p c t {u = u} e f = subst (λ r. Happens p t c r u) e (subst (Happens p t c (call p c t).0) f (happens p c t))
