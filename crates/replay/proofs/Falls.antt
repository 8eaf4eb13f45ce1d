-- A number that falls with each turn, so that a replay comes to a stop.
use Rattle.std.proofs.Common.{◌≡◌, ℕ, ◌+◌, ◌-◌, ◌*◌, ◌<◌, ◌≤◌, min, Bool, true, false, cond, eqb, List, [], ◌∷◌, ◌++◌, length, drop, get_or, zero, suc, Some, None, Ok, Option, is_some, option_map, refl, ap, subst, arith}
use Rattle.std.specs.List.{AllByRecursion}
use Rattle.std.proofs.lemmas.Bool.{cond_both, leb-true}
use Rattle.std.proofs.lemmas.List.{length-append}
use Rattle.board.specs.declared.packets.Packet.{Packet}
use Rattle.board.specs.Bearers.{Bearer, bearer_of}
use Rattle.board.specs.Costs.{class_costs, length_class, cost_of_length, highest_class_cost}
use Rattle.capture.specs.declared.packets.Captured.{Captured}
use Rattle.machine.specs.declared.answers.Answer.{Answer}
use Rattle.machine.specs.declared.calls.Call.{Call}
use Rattle.machine.specs.declared.calls.Call.TheVariants.{Step, Work, Fetch}
use Rattle.machine.specs.Settings.{Settings}
use Rattle.machine.specs.Standard.{standard}
use Rattle.machine.specs.Machine.{call}
use Rattle.machine.specs.Moves.{is_over}
use Rattle.machine.specs.State.{Clock, Grant, Core, configured}
use Rattle.policy.specs.Batches.{Batches, IsBounded}
use Rattle.machine.proofs.Moved.{Move, signalled, begun, emptied, taken, rescheduled, completed, worked, fetched, Happens, moved, happened}
use Rattle.machine.proofs.Periods.{settled}
use Rattle.machine.proofs.Unmoved.{gate_unmoved}
use Rattle.replay.specs.Fit.{Fit}
use Rattle.replay.specs.Stages.{Task, Stage, start, core, now, span, handed, turn, after}
use Rattle.replay.proofs.Applies.{Applies, applies, arrives, finishes, steps, works, fetches, idles, ended, over, span_least}
use Rattle.replay.proofs.Fits.{here, there, runs, Goes, turn_goes}

-- a grant with packets left has two steps at least to go, and one with none left its close
abbrev pub granted : Option Grant → ℕ
granted None = 0
granted (Some g) = cond (eqb g.left 0) 1 2

-- Each cycle counts five up to the end of period 1,001; and beside them count the grant, a queued packet twice, the application's packet, and the packets still
-- to arrive.
abbrev pub fall : Stage → ℕ
fall x =
    5 * (64064000 - now x) + (granted (core x.receiver).grant + (2 * length (core x.receiver).queue + (cond (is_some x.task) 1 0 + length x.coming)))

-- the part of it that a receiver holds, and the time on its clock
abbrev load : Core → ℕ
load x = granted x.grant + 2 * length x.queue

abbrev time : Clock → ℕ
time k = k.closed * standard.period + k.elapsed

settled_time : (k : Clock) → time (settled standard k) ≡ time k
settled_time k = cond_both (is_over standard k) _ _ (λ (l : Clock). time l ≡ time k) (λ h. omega (arith, leb-true standard.period k.elapsed h)) (λ _. refl)

granted_most : (g : Option Grant) → granted g ≤ 2
granted_most None = omega arith
granted_most (Some g) = grind arith

granted_some : (g : Option Grant) (h : Grant) → g ≡ Some h → 1 ≤ granted g
granted_some g h e = rw e (grind arith)

granted_left : (g : Option Grant) (h : Grant) → g ≡ Some h → (h.left ≡ 0 → ⊥) → granted g ≡ 2
granted_left g h e n = rw e (grind arith)

-- no packet is cheap
at_least : (m n : ℕ) (ns : List ℕ) → m ≤ highest_class_cost → AllByRecursion (λ k. m ≤ k) ns → m ≤ get_or ns n highest_class_cost
at_least m n [] l a = l
at_least m zero (k ∷ ns) l a = a.0
at_least m (suc n) (k ∷ ns) l a = at_least m n ns l a.1

length_dear : (n : ℕ) → 420 ≤ cost_of_length n
length_dear n = at_least 420 (length_class n) class_costs (omega arith) (omega arith)

queued_one : (room : Bool) (l : List Packet) (q : Packet) → length (cond room (l ++ q ∷ []) l) ≤ length l + 1
queued_one true l q = omega (arith, length-append l (q ∷ []))
queued_one false l q = omega arith

-- what a call takes off at the least, where it is accepted
abbrev falls_by : Call → ℕ
falls_by Step = 1
falls_by (Work c) = c
falls_by Fetch = 2
falls_by _ = 0

module _ (p : Batches) (x : Core) where
  abbrev Lighter : Call → Core → Type 0
  Lighter c y = load y + (falls_by c + 5 * time x.clock) ≤ load x + 5 * time y.clock

  move_lighter : (c : Call) (a : Answer) (y : Core) → Move standard p x c a y → Lighter c y
  move_lighter _ _ _ (signalled l r e _) = omega (arith, settled_time (record x.clock { elapsed = x.clock.elapsed + 60; used = x.clock.used + 60 }))
  move_lighter _ _ _ (begun {b = b} e i u h _) =
      omega (arith, ap granted e, granted_most, settled_time (record x.clock { elapsed = x.clock.elapsed + 80; used = x.clock.used + 80 }))
  move_lighter _ _ _ (emptied {g = g} e w some _) = omega (arith, granted_left x.grant g e some)
  move_lighter _ _ _ (taken {g = g} {q = q} {m = m} {room = room} e w some less r _) =
      let cost : ℕ = (bearer_of x.bearers g.bearer).cost + cost_of_length q.length in
      omega (
        arith,
        granted_left x.grant g e some,
        granted_most (Some (record g { left = m })),
        queued_one room x.queue q,
        length_dear q.length,
        settled_time (record x.clock { elapsed = x.clock.elapsed + cost; used = x.clock.used + cost }),
      )
  move_lighter _ _ _ (rescheduled {g = g} e _) = omega (arith, granted_some x.grant g e)
  move_lighter _ _ _ (completed {g = g} e w r _) = omega (arith, granted_some x.grant g e)
  move_lighter _ _ _ (worked {c = c} h _) = omega (arith, settled_time (record x.clock { elapsed = x.clock.elapsed + c; offered = x.clock.offered + c }))
  move_lighter _ _ _ (fetched e _) = omega (arith, ap length e)
  move_lighter _ _ _ _ = omega arith

  lighter : (c : Call) (a : Answer) (z : Core) {v : Settings} → Happens p (configured standard x) c (Ok a) (configured v z) → Lighter c z
  lighter c a _ (moved {y = y} m) =
      let u = gate_unmoved standard x y in
      omega (arith, move_lighter c a y m, ap granted u.grant, ap length u.queue, ap time u.clock)

-- what counts beside the receiver
abbrev has_task : Option Task → ℕ
has_task task = cond (is_some task) 1 0

abbrev rest : Option Task → List Captured → ℕ
rest task coming = has_task task + length coming

one_task : (task : Option Task) → has_task task ≤ 1
one_task None = omega arith
one_task (Some t) = omega arith

same_task : (c : ℕ) (task : Option Task) → has_task (option_map (λ (u : Task). record u { to_go = u.to_go - c }) task) ≡ has_task task
same_task c None = refl
same_task c (Some t) = refl

module _ (p : Batches) (bounded : IsBounded p) (x : Stage) (f : Fit p x) where
  abbrev FallsOn : Option Call → Type 0
  FallsOn None = Unit {0}
  FallsOn (Some c) = fall (after p c x) < fall x

  falls_if : (c : Call) → Goes p x c → rest (after p c x).task (after p c x).coming < rest x.task x.coming + falls_by c → fall (after p c x) < fall x
  falls_if c g l =
      let a = here p x f (λ t. (call p c t).0 ≡ Ok g.answer) g.answered in
      let h = there p x f (λ t. Lighter p (core x.receiver) c (core (call p c t).1))
      (lighter p (core x.receiver) c g.answer _ (happened p c (configured standard (core x.receiver)) a (runs p standard (core x.receiver) c))) in
      omega (arith, h, l, f.1.closed, f.1.elapsed, g.fit.1.closed, g.fit.1.elapsed)

  falls_on : (o : Option Call) → ((c : Call) → o ≡ Some c → Goes p x c) → Applies p x o → FallsOn o
  falls_on _ g (ended l) = tt
  falls_on _ g (arrives {q = q} {qs = qs} l e m) = falls_if _ (g _ refl) (omega (arith, ap length e, ap (λ (k : List Captured). length (drop 1 k)) e))
  falls_on _ g (finishes {t = t} l d e z) = falls_if _ (g _ refl) (omega (arith, ap has_task e))
  falls_on _ g (steps l d h o) = falls_if _ (g _ refl) (omega arith)
  falls_on _ g (works {t = t} k e z) = falls_if _ (g _ refl) (omega (arith, z, span_least x k.due f.1.elapsed, same_task (min t.to_go (span x)) x.task))
  falls_on _ g (fetches k n h) = falls_if _ (g _ refl) (omega (arith, ap has_task n, one_task (handed (call p Fetch x.receiver).0)))
  falls_on _ g (over k n q o) = tt
  falls_on _ g (idles k n q o) = falls_if _ (g _ refl) (omega (arith, span_least x k.due f.1.elapsed, same_task (span x) x.task))

pub falls : (p : Batches) → IsBounded p → (x : Stage) → Fit p x → (c : Call) → turn p x ≡ Some c → fall (after p c x) < fall x
falls p bounded x f c e = subst (FallsOn p bounded x f) e (falls_on p bounded x f (turn p x) (turn_goes p bounded x f) (applies p x))

-- at the start
pub start_falls : (bs : List Bearer) (ps : List Captured) → length ps ≤ 1024 → fall (start bs ps) ≤ 320321024
start_falls bs ps l = omega (arith, l)
