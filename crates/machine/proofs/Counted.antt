-- The queue and the numbers out stay in their bounds, and every packet numbered is counted where it is, or by how it left: kept by every move.
use Rattle.std.proofs.Common.{◌≡◌, ℕ, ◌+◌, ◌<◌, ◌≤◌, Bool, true, false, cond, ltb, List, [], ◌∷◌, ◌++◌, map, length, drop, refl, sym, ap, ◌∙◌, ⊎_elim, arith}
use Rattle.std.specs.List.{sum, sum_by}
use Rattle.std.proofs.Math.Seq.{map-set_same}
use Rattle.std.proofs.lemmas.Bool.{cases_lt, cond_both, ltb-true, ltb-false, not-true}
use Rattle.std.proofs.lemmas.List.{length-append, get_or_past}
use Rattle.std.proofs.lemmas.List.Sums.{sum-map, sum_by-cons, sum_by-set}
use Rattle.board.specs.declared.packets.Packet.{Packet}
use Rattle.board.specs.Bearers.{Bearer, absent, bearer_of, changed, any_in, after_take, after_arm, after_disarm}
use Rattle.machine.specs.declared.answers.Answer.{Answer}
use Rattle.machine.specs.declared.answers.Counts.{Counts}
use Rattle.machine.specs.declared.calls.Call.{Call}
use Rattle.machine.specs.Settings.{Settings}
use Rattle.machine.specs.State.{Clock, Core, waits}
use Rattle.policy.specs.Batches.{Batches}
use Rattle.machine.specs.Moves.{is_over, one_numbered, one_queue_full, set_gate}
use Rattle.machine.specs.Calls.{next_packet}
use Rattle.machine.specs.Machine.{waiting_checks}
use Rattle.machine.specs.Numbers.{holds, without}
use Rattle.machine.specs.Laws.{accounted}
use Rattle.machine.proofs.Basics.{length-without}
use Rattle.machine.proofs.Moved.{behind, Move, lost, stored, signalled, begun, emptied, taken, rescheduled, completed, worked, fetched, finished, discarded, told, Passed, unretired}
use Rattle.machine.proofs.Periods.{settled}
use Rattle.machine.proofs.Unmoved.{Unmoved, armed_same, unmoved_bearers, gate_unmoved}

-- over the parts that it speaks of, so that a move that leaves them alone leaves the statement as it is
pub record Counted (size : ℕ) (bs : List Bearer) (q : List Packet) (o : List ℕ) (n : Counts) (periods : ℕ) : Type 0 where
  pub queue : length q ≤ size
  pub out : length o ≤ 16
  pub counted : accounted bs q o n ≡ n.numbered
  pub numbered : n.numbered ≤ 1000000000
  pub closed : periods ≤ 1000000000

abbrev pub CountedCore : Settings → Core → Type 0
CountedCore s x = Counted s.size x.bearers x.queue x.out x.counts x.clock.closed

-- how many wait in a bearer, and in all
abbrev pub waiting_in : Bearer → ℕ
waiting_in v = length v.waiting

same_waiting : (us vs : List Bearer) → map waiting_in us ≡ map waiting_in vs → sum_by waiting_in us ≡ sum_by waiting_in vs
same_waiting us vs e = sym (sum-map waiting_in us) ∙ ap sum e ∙ sum-map waiting_in vs

waits_shown : (bs : List Bearer) (b : ℕ) (q : Packet) (rest : List Packet) → waits bs b ≡ q ∷ rest → b < length bs
waits_shown bs b q rest e =
    ⊎_elim (λ l. l) (λ l. let none = ap (λ (v : Bearer). v.waiting) (get_or_past bs b absent l) in cc) (cases_lt b (length bs))

-- the oldest of a bearer leaves it
pub one_left : (bs : List Bearer) (b : ℕ) (p : Packet) (rest : List Packet) → waits bs b ≡ p ∷ rest →
    sum_by waiting_in (changed bs b after_take) + 1 ≡ sum_by waiting_in bs
one_left bs b p rest w =
    omega (arith, sum_by-set waiting_in bs b (after_take (bearer_of bs b)) absent (waits_shown bs b p rest w), ap length w, ap (λ ps. length (drop 1 ps)) w)

-- one period more is closed, at the most
closes_few : (s : Settings) (k : Clock) → k.closed < 1000000000 → (settled s k).closed ≤ 1000000000
closes_few s k h = cond_both (is_over s k) _ _ (λ (l : Clock). l.closed ≤ 1000000000) (λ _. omega arith) (λ _. omega arith)

module _ {size : ℕ} {bs : List Bearer} {q : List Packet} {o : List ℕ} {n : Counts} {periods : ℕ} (t : Counted size bs q o n periods) where
  -- a bearer changed in which as many wait
  reshown : (b : ℕ) (f : Bearer → Bearer) → waiting_in (f (bearer_of bs b)) ≡ waiting_in (bearer_of bs b) → Counted size (changed bs b f) q o n periods
  reshown b f e = record {
    queue = t.queue;
    out = t.out;
    counted = omega (arith, t.counted, same_waiting (changed bs b f) bs (map-set_same waiting_in bs b (f (bearer_of bs b)) absent e));
    numbered = t.numbered;
    closed = t.closed;
  }

  -- one more waits in a bearer
  one_more : (b : ℕ) (f : Bearer → Bearer) (m : ℕ) → b < length bs → n.numbered < 1000000000 → m ≤ 1000000000 →
      waiting_in (f (bearer_of bs b)) ≡ waiting_in (bearer_of bs b) + 1 → Counted size (changed bs b f) q o (one_numbered n) m
  one_more b f m l i k e = record {
    queue = t.queue;
    out = t.out;
    counted = omega (arith, t.counted, sum_by-set waiting_in bs b (f (bearer_of bs b)) absent l);
    numbered = omega arith;
    closed = k;
  }

  -- other periods closed
  reclosed : (m : ℕ) → m ≤ 1000000000 → Counted size bs q o n m
  reclosed m k = record { queue = t.queue; out = t.out; counted = t.counted; numbered = t.numbered; closed = k }

  -- the oldest of a bearer is taken: into the queue, or lost
  one_taken : (b : ℕ) (p : Packet) (rest : List Packet) (m : ℕ) → waits bs b ≡ p ∷ rest → m ≤ 1000000000 → (room : Bool) → ltb (length q) size ≡ room →
      Counted size (changed bs b after_take) (cond room (q ++ p ∷ []) q) o (cond room n (one_queue_full n)) m
  one_taken b p rest m w k true r = record {
    queue = omega (arith, ltb-true (length q) size r, length-append q (p ∷ []));
    out = t.out;
    counted = omega (arith, t.counted, length-append q (p ∷ []), one_left bs b p rest w);
    numbered = t.numbered;
    closed = k;
  }
  one_taken b p rest m w k false r = record {
    queue = t.queue;
    out = t.out;
    counted = omega (arith, t.counted, one_left bs b p rest w);
    numbered = t.numbered;
    closed = k;
  }

  -- a number that is out is spent, and counted
  one_spent : (m : ℕ) (c : Counts) → holds m o ≡ true → c.numbered ≡ n.numbered →
      c.delivered + c.bearer_full + c.queue_full + c.discarded ≡ n.delivered + n.bearer_full + n.queue_full + n.discarded + 1 →
      Counted size bs q (without m o) c periods
  one_spent m c h same more = record {
    queue = t.queue;
    out = omega (arith, t.out, length-without m o h);
    counted = omega (arith, t.counted, length-without m o h);
    numbered = omega (arith, t.numbered);
    closed = t.closed;
  }

module _ (s : Settings) (p : Batches) (x : Core) (t : CountedCore s x) where
  pub move_counted : (c : Call) (a : Answer) (y : Core) → Move s p x c a y → CountedCore s y
  move_counted _ _ _ (lost l r live) = record {
    queue = t.queue;
    out = t.out;
    counted = omega (arith, t.counted);
    numbered = omega (arith, (unretired x live).numbered);
    closed = t.closed;
  }
  move_counted _ _ _ (stored {b = b} {n = n} {t = tag} l r h live) =
      one_more t b (behind (next_packet n tag x)) x.clock.closed l (unretired x live).numbered t.closed (length-append (waits x.bearers b) _)
  move_counted _ _ _ (signalled {b = b} {n = n} {t = tag} l r h live) =
      one_more t b (λ v. after_disarm (behind (next_packet n tag x) v)) _ l (unretired x live).numbered (closes_few s _ (unretired x live).closed) (length-append (waits x.bearers b) _)
  move_counted _ _ _ (begun e i u z live) = reclosed t _ (closes_few s _ (unretired x live).closed)
  move_counted _ _ _ (emptied {g = g} e w n _) = reshown t g.bearer after_take (cc w)
  move_counted _ _ _ (taken {g = g} {q = q} {rest = rest} {room = room} e w n less r live) =
      one_taken t g.bearer q rest _ w (closes_few s _ (unretired x live).closed) room r
  move_counted _ _ _ (rescheduled e _) = t
  move_counted _ _ _ (completed {g = g} {o = o} e w r _) =
      cond_both o _ _ (λ (bs : List Bearer). Counted s.size bs x.queue x.out x.counts x.clock.closed)
      (λ _. reshown t g.bearer (after_arm false) (ap waiting_in (armed_same false (bearer_of x.bearers g.bearer)))) (λ _. t)
  move_counted _ _ _ (worked h live) = reclosed t _ (closes_few s _ (unretired x live).closed)
  move_counted _ _ _ (fetched {q = q} {rest = rest} e few) = record {
    queue = omega (arith, t.queue, ap length e);
    out = omega (arith, few, length-append x.out (q.number ∷ []));
    counted = omega (arith, t.counted, ap length e, length-append x.out (q.number ∷ []));
    numbered = t.numbered;
    closed = t.closed;
  }
  move_counted _ _ _ (finished {n = n} h) = one_spent t n _ h refl (omega arith)
  move_counted _ _ _ (discarded {n = n} h) = one_spent t n _ h refl (omega arith)
  move_counted _ _ _ told = t

-- the gate's setting
pub gate_counted : (s : Settings) (x y : Core) → CountedCore s y → CountedCore s (set_gate s x y)
gate_counted s x y t =
    let z : Core = set_gate s x y in
    let u : Unmoved y z = gate_unmoved s x y in
    record {
      queue = rw u.queue t.queue;
      out = rw u.out t.out;
      counted = rw (u.queue, u.out, u.counts, same_waiting z.bearers y.bearers (unmoved_bearers waiting_in (λ _. refl) y z u)) t.counted;
      numbered = rw u.counts t.numbered;
      closed = rw u.clock t.closed;
    }

-- nothing waits in bearers just armed
pub fresh_waiting : (i : ℕ) (bs : List Bearer) → Passed (waiting_checks i bs) → sum_by waiting_in (map (λ v. after_arm false (after_disarm v)) bs) ≡ 0
fresh_waiting i [] h = refl
fresh_waiting i (v ∷ bs) h =
    omega (arith, fresh_waiting (i + 1) bs h.1, ltb-false 0 (length v.waiting) (not-true (any_in v.waiting) h.0), sum_by-cons waiting_in)
