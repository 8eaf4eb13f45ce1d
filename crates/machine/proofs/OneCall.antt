-- What one call comes to: whether it is accepted, and what it makes of the numbers out, of how many packets are numbered, of the time and of the bearers.
use Rattle.std.proofs.Common.{◌≡◌, ℕ, ◌+◌, ◌<◌, ◌≤◌, true, false, cond, List, [], ◌∷◌, ◌++◌, length, Ok, Err, Result, is_ok, refl, sym, ap, ◌∙◌, subst, append-nil, ⊎_elim, arith}
use Rattle.std.proofs.lemmas.Bool.{cond_both, cases_lt, leb-false}
use Rattle.std.proofs.lemmas.List.{length-set, length-map}
use Rattle.board.specs.declared.packets.Packet.{Packet}
use Rattle.board.specs.Bearers.{Bearer, bearer_of, changed, has_room, after_take, after_arm, after_disarm}
use Rattle.machine.specs.Kept.{Kept}
use Rattle.machine.specs.declared.answers.Answer.{Answer}
use Rattle.machine.specs.declared.answers.Answer.TheVariants.{Arrived, Worked, Fetched, Finished, Discarded}
use Rattle.machine.specs.declared.answers.Arrival.{Arrival}
use Rattle.machine.specs.declared.answers.Counts.{Counts}
use Rattle.machine.specs.declared.calls.Call.{Call}
use Rattle.machine.specs.declared.calls.Call.TheVariants.{Arrive, Work, Fetch, Finish, Discard, Tell}
use Rattle.machine.specs.Settings.{Settings}
use Rattle.machine.specs.declared.refusals.Refusal.{Refusal}
use Rattle.machine.specs.Calls.{next_packet, arrive, fetch, tell}
use Rattle.machine.specs.Laws.{fetched_by, if_accepted}
use Rattle.machine.specs.Machine.{call}
use Rattle.machine.specs.Moves.{is_over, set_gate}
use Rattle.machine.specs.Numbers.{holds, without}
use Rattle.machine.specs.State.{Clock, Core, State, configured, out_of, unconfigured}
use Rattle.policy.specs.Batches.{Batches}
use Rattle.machine.proofs.Moved.{Move, lost, stored, signalled, begun, emptied, taken, completed, worked, fetched, finished, discarded, behind, Happens, refused, asked_unconfigured, configures, moved, happened}
use Rattle.machine.proofs.Periods.{settled}
use Rattle.machine.proofs.Runs.{refused_same}
use Rattle.machine.proofs.Unmoved.{Unmoved, gate_unmoved, gate_same}

-- the numbers out after a call, by its answer: one fetched joins at the back, one spent leaves
abbrev pub out_by : Call → Result Answer Refusal → List ℕ → List ℕ
out_by Fetch r out = out ++ if_accepted fetched_by r
out_by (Finish n) r out = cond (is_ok r) (without n out) out
out_by (Discard n) r out = cond (is_ok r) (without n out) out
out_by _ r out = out

refused_out : (c : Call) (q : Refusal) (out : List ℕ) → out ≡ out_by c (Err q) out
refused_out Fetch q out = sym (append-nil out)
refused_out _ q out = refl

-- how many packets are numbered after an accepted call
abbrev pub numbered_by : Call → ℕ → ℕ
numbered_by (Arrive b n t) m = m + 1
numbered_by _ m = m

-- an arrival, and the number that its answer gives
pub record Arrives (c : Call) (a : Arrival) (k : ℕ) : Type 0 where
  pub bearer : ℕ
  pub length : ℕ
  pub tag : ℕ
  pub asked : c ≡ Arrive bearer length tag
  pub number : a.number ≡ k

-- From one clock to another at most one period closes, and then the open one has offered nothing yet.
pub record Passes (s : Settings) (k l : Clock) : Type 0 where
  pub least : k.closed ≤ l.closed
  pub most : l.closed ≤ k.closed + 1
  pub unoffered : k.elapsed < s.period → s.period ≤ l.elapsed → l.offered ≡ 0

settled_passes : (s : Settings) (k l : Clock) → l.closed ≡ k.closed → Passes s k (settled s l)
settled_passes s k l e = cond_both (is_over s l) _ _ (Passes s k)
    (λ _. record { least = omega (arith, e); most = omega (arith, e); unoffered = λ _ _. refl })
    (λ h. record { least = omega (arith, e); most = omega (arith, e); unoffered = λ _ i. absurd (omega (arith, i, leb-false s.period l.elapsed h)) })

same_passes : (s : Settings) (k : Clock) → Passes s k k
same_passes s k = record { least = omega arith; most = omega arith; unoffered = λ e i. absurd (omega (arith, e, i)) }

size_changed : (bs : List Bearer) (b : ℕ) (f : Bearer → Bearer) → length (changed bs b f) ≡ length bs
size_changed bs b f = length-set bs b (f (bearer_of bs b))

module _ (s : Settings) (p : Batches) (x : Core) where
  move_out : (c : Call) (a : Answer) (y : Core) → Move s p x c a y → y.out ≡ out_by c (Ok a) x.out
  move_out _ _ _ (fetched e _) = refl
  move_out _ _ _ (finished h) = refl
  move_out _ _ _ (discarded h) = refl
  move_out _ _ _ _ = refl

  move_numbered : (c : Call) (a : Answer) (y : Core) → Move s p x c a y → y.counts.numbered ≡ numbered_by c x.counts.numbered
  move_numbered _ _ _ (taken {room = room} e w n less r _) = cond_both room _ _ (λ (k : Counts). k.numbered ≡ x.counts.numbered) (λ _. refl) (λ _. refl)
  move_numbered _ _ _ _ = refl

  move_passes : (c : Call) (a : Answer) (y : Core) → Move s p x c a y → Passes s x.clock y.clock
  move_passes _ _ _ (signalled l r e _) = settled_passes s x.clock _ refl
  move_passes _ _ _ (begun e i u h _) = settled_passes s x.clock _ refl
  move_passes _ _ _ (taken e w n less r _) = settled_passes s x.clock _ refl
  move_passes _ _ _ (worked h _) = settled_passes s x.clock _ refl
  move_passes _ _ _ _ = same_passes s x.clock

  move_size : (c : Call) (a : Answer) (y : Core) → Move s p x c a y → length y.bearers ≡ length x.bearers
  move_size _ _ _ (stored {b = b} {n = n} {t = t} l r e _) = size_changed x.bearers b (behind (next_packet n t x))
  move_size _ _ _ (signalled {b = b} {n = n} {t = t} l r e _) = size_changed x.bearers b (λ v. after_disarm (behind (next_packet n t x) v))
  move_size _ _ _ (emptied {g = g} e w n _) = size_changed x.bearers g.bearer after_take
  move_size _ _ _ (taken {g = g} e w n less r _) = size_changed x.bearers g.bearer after_take
  move_size _ _ _ (completed {g = g} {o = o} e w i _) =
      cond_both o _ _ (λ (bs : List Bearer). length bs ≡ length x.bearers) (λ _. size_changed x.bearers g.bearer (after_arm false)) (λ _. refl)
  move_size _ _ _ _ = refl

gate_size : (s : Settings) (x y : Core) → length (set_gate s x y).bearers ≡ length y.bearers
gate_size s x y =
    let z : Core = set_gate s x y in
    let u : Unmoved y z = gate_unmoved s x y in
    sym (length-map z.bearers after_disarm) ∙ ap length u.bearers ∙ length-map y.bearers after_disarm

-- Of a receiver, configured or not.
module _ {p : Batches} where
  pub outs : {t u : State} {c : Call} {r : Result Answer Refusal} → Happens p t c r u → out_of u ≡ out_by c r (out_of t)
  outs {t = t} {c = c} (refused {r = r}) = refused_out c r (out_of t)
  outs asked_unconfigured = refl
  outs (configures _ _ _) = refl
  outs (moved {s = s} {x = x} {y = y} {c = c} {a = a} m) = (gate_unmoved s x y).out ∙ move_out s p x c a y m

  -- fewer than sixteen are out where one is fetched
  pub fetch_room : {t u : State} {a : Answer} → Happens p t Fetch (Ok a) u → length (out_of t) < 16
  fetch_room (moved (fetched _ few)) = few

  -- of a configured one: an arrival is answered by the next number
  pub arrives : {s : Settings} {x : Core} {c : Call} {a : Arrival} {u : State} → Happens p (configured s x) c (Ok (Arrived a)) u → Arrives c a x.counts.numbered
  arrives (moved (lost l r _)) = record { bearer = _; length = _; tag = _; asked = refl; number = refl }
  arrives (moved (stored l r h _)) = record { bearer = _; length = _; tag = _; asked = refl; number = refl }
  arrives (moved (signalled l r h _)) = record { bearer = _; length = _; tag = _; asked = refl; number = refl }

  pub numbers : {s v : Settings} {x z : Core} {c : Call} {a : Answer} → Happens p (configured s x) c (Ok a) (configured v z) →
      z.counts.numbered ≡ numbered_by c x.counts.numbered
  numbers (moved {s = s} {x = x} {y = y} {c = c} {a = a} m) = ap (λ (n : Counts). n.numbered) (gate_unmoved s x y).counts ∙ move_numbered s p x c a y m

  pub passes : {s v : Settings} {x z : Core} {c : Call} {r : Result Answer Refusal} → Happens p (configured s x) c r (configured v z) → Passes s x.clock z.clock
  passes {s = s} {x = x} refused = same_passes s x.clock
  passes (moved {s = s} {x = x} {y = y} {c = c} {a = a} m) = subst (Passes s x.clock) (sym (gate_unmoved s x y).clock) (move_passes s p x c a y m)

  -- no call changes how many bearers there are
  pub same_bearers : {s v : Settings} {x z : Core} {c : Call} {r : Result Answer Refusal} → Happens p (configured s x) c r (configured v z) →
      length z.bearers ≡ length x.bearers
  same_bearers refused = refl
  same_bearers (moved {s = s} {x = x} {y = y} {c = c} {a = a} m) = gate_size s x y ∙ move_size s p x c a y m

-- a period's cycles are below its length again after a call
pub below_period : (m : ℕ) (s : Settings) (x z : Core) → x.clock.elapsed < s.period → Passes s x.clock z.clock → Kept m s z → z.clock.elapsed < s.period
below_period m s x z e h k = ⊎_elim (λ l. l)
    (λ l. absurd (omega (arith, h.unoffered e l, k.funded.accounts.spent, k.funded.accounts.offered, k.funded.accounts.bound, k.funded.some)))
    (cases_lt z.clock.elapsed s.period)

-- What a call answers.
module _ (p : Batches) where
  -- a refused call changes nothing, and neither does tell
  pub call_refused : (c : Call) (t : State) (q : Refusal) → (call p c t).0 ≡ Err q → (call p c t).1 ≡ t
  call_refused c t q e = refused_same (happened p c t e refl)

  pub tell_same : (t : State) → (call p Tell t).1 ≡ t
  unfolding call
  tell_same (unconfigured u) = refl
  tell_same (configured s x) = ap (configured s) (sym (gate_same s x x refl))

  -- a number that is out is spent
  pub finish_done : (n : ℕ) (t : State) → holds n (out_of t) ≡ true → (call p (Finish n) t).0 ≡ Ok Finished
  unfolding call
  finish_done n (unconfigured u) h = cc
  finish_done n (configured s x) h = rw h

  pub discard_done : (n : ℕ) (t : State) → holds n (out_of t) ≡ true → (call p (Discard n) t).0 ≡ Ok Discarded
  unfolding call
  discard_done n (unconfigured u) h = cc
  discard_done n (configured s x) h = rw h

  -- a call of a configured receiver whose checks pass is answered
  module _ (s : Settings) (x : Core) where
    pub arrive_done : (b n t : ℕ) → x.counts.numbered < 1000000000 → x.clock.closed < 1000000000 → b < length x.bearers → 1 ≤ n → n ≤ 384 →
        (call p (Arrive b n t) (configured s x)).0 ≡ Ok (Arrived (record { number = x.counts.numbered; accepted = has_room (bearer_of x.bearers b) }))
    unfolding call arrive
    arrive_done b n t i j k l m = grind arith

    pub work_done : (c : ℕ) → x.counts.numbered < 1000000000 → x.clock.closed < 1000000000 → 1 ≤ c → x.clock.elapsed + c ≤ s.period →
        (call p (Work c) (configured s x)).0 ≡ Ok Worked
    unfolding call
    work_done c i j k l = grind arith

    pub fetch_done : (q : Packet) (rest : List Packet) → x.queue ≡ q ∷ rest → length x.out < 16 → (call p Fetch (configured s x)).0 ≡ Ok (Fetched q)
    unfolding call fetch
    fetch_done q rest e l = rw e (grind arith)

    pub tell_done : (call p Tell (configured s x)).0 ≡ Ok (tell x).0
    unfolding call
    tell_done = refl

    pub fetch_none : x.queue ≡ [] → is_ok (call p Fetch (configured s x)).0 ≡ false
    unfolding call
    fetch_none e = rw e
