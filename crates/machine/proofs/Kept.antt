-- What holds of a receiver between calls, whatever was called before: kept by every call.
use Rattle.std.proofs.Common.{◌≡◌, ℕ, ◌+◌, ◌≤◌, true, cond, eqb, leb, List, length, refl, Result, arith}
use Rattle.std.proofs.lemmas.Bool.{and_parts, leb-true}
use Rattle.board.specs.Bearers.{Bearer}
use Rattle.machine.specs.Kept.{Kept, KeptState}
use Rattle.machine.specs.Tidy.{Openable}
use Rattle.machine.specs.declared.answers.Answer.{Answer}
use Rattle.machine.specs.declared.calls.Call.{Call}
use Rattle.machine.specs.declared.refusals.Refusal.{Refusal}
use Rattle.machine.specs.State.{Core, State, is_open}
use Rattle.policy.specs.Batches.{Batches, IsBounded}
use Rattle.machine.specs.declared.calls.RawSettings.{RawSettings}
use Rattle.machine.specs.Settings.{Settings, settings_from, settings_checks, grant_bound}
use Rattle.machine.specs.Moves.{set_gate}
use Rattle.machine.specs.Checks.{in_range}
use Rattle.machine.specs.Machine.{fresh, waiting_checks, call}
use Rattle.machine.specs.Laws.{cycles_of}
use Rattle.machine.proofs.Counted.{CountedCore, move_counted, gate_counted, fresh_waiting}
use Rattle.machine.proofs.Gate.{gate_tidy}
use Rattle.machine.proofs.Listed.{move_shown, tidy_openable, gate_shown}
use Rattle.machine.proofs.Moved.{Move, Passed, Happens, refused, asked_unconfigured, configures, moved, happens}
use Rattle.machine.proofs.Share.{move_funded, fresh_funded, gate_funded}
use Rattle.machine.proofs.Tidy.{move_tidy, fresh_tidy}

-- what a move leaves, as the gate finds it
pub move_openable : {m : ℕ} (p : Batches) (s : Settings) (x : Core) → Kept m s x → (c : Call) (a : Answer) (y : Core) → Move s p x c a y → Openable (length y.bearers) y
move_openable p s x k c a y m = tidy_openable (is_open s x) y (move_tidy s p x k.tidy c a y m) (move_shown s p x k.shown c a y m)

module _ (p : Batches) (s : Settings) (x : Core) (k : Kept p.greatest s x) where
  move_kept : IsBounded p → (c : Call) (a : Answer) (y : Core) → Move s p x c a y → Kept p.greatest s (set_gate s x y)
  move_kept bounded c a y m =
      let had : CountedCore s x = record { queue = k.queue; out = k.out; counted = k.counted; numbered = k.numbered; closed = k.closed } in
      let has : CountedCore s (set_gate s x y) = gate_counted s x y (move_counted s p x had c a y m) in
      let books : ℕ → ℕ = λ j. k.offered j + cond (eqb x.clock.closed j) (cycles_of c) 0 in
      record {
        tidy = gate_tidy s x y (move_tidy s p x k.tidy c a y m);
        shown = gate_shown s x y (move_openable p s x k c a y m);
        start = k.start;
        offered = books;
        funded = gate_funded p.greatest k.start s books x y (move_funded p k.start bounded s k.offered books x k.tidy k.funded c a y m (record { each = λ j. refl }));
        period = k.period;
        size = k.size;
        queue = has.queue;
        out = has.out;
        counted = has.counted;
        numbered = has.numbered;
        closed = has.closed;
      }

fresh_kept : (m : ℕ) (n : RawSettings) (bs : List Bearer) → Passed (settings_checks n) → Passed (waiting_checks 0 bs) →
    n.limit + grant_bound m bs ≤ n.period → Kept m (settings_from n) (fresh bs)
fresh_kept m n bs ranges empty share = record {
  tidy = fresh_tidy n bs ranges empty;
  shown = λ _ _. omega arith;
  start = bs;
  offered = λ _. 0;
  funded = fresh_funded m bs (settings_from n) (λ _. 0) bs refl share (λ _. refl);
  period = highest 1000 1000000000 n.period ranges.0;
  size = highest 1 64 n.size ranges.1.1.0;
  queue = omega arith;
  out = omega arith;
  counted = omega (arith, fresh_waiting 0 bs empty);
  numbered = omega arith;
  closed = omega arith;
}
  where
    highest : (low high n : ℕ) → in_range low high n ≡ true → n ≤ high
    highest low high n h = leb-true n high (and_parts (leb low n) (leb n high) h).1

pub call_keeps : (p : Batches) → IsBounded p → (t u : State) (c : Call) (r : Result Answer Refusal) → KeptState p.greatest t → Happens p t c r u →
    KeptState p.greatest u
call_keeps p bounded _ _ _ _ k refused = k
call_keeps p bounded _ _ _ _ k asked_unconfigured = tt
call_keeps p bounded _ _ _ _ k (configures {u = u} {n = n} ranges empty share) = fresh_kept p.greatest n u.bearers ranges empty share
call_keeps p bounded _ _ _ _ k (moved {s = s} {x = x} {y = y} {c = c} {a = a} m) = move_kept p s x k bounded c a y m

pub keeps : (p : Batches) → IsBounded p → (c : Call) (t : State) → KeptState p.greatest t → KeptState p.greatest (call p c t).1
keeps p bounded c t k = call_keeps p bounded t (call p c t).1 c (call p c t).0 k (happens p c t)
