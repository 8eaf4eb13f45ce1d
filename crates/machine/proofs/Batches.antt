-- IsBounded batches: each packet that is taken is paid for by what the grant has left.
use Rattle.std.proofs.Common.{◌≡◌, ℕ, ◌+◌, ◌≤◌, List, [], ◌∷◌, ◌++◌, length, Some, None, Ok, Option, Result, sym, ap, ◌∙◌, subst, arith}
use Rattle.std.proofs.lemmas.List.{length-map}
use Rattle.std.proofs.lemmas.List.Sums.{sum_by-cons}
use Rattle.board.specs.declared.packets.Packet.{Packet}
use Rattle.machine.specs.declared.answers.Answer.{Answer}
use Rattle.machine.specs.declared.answers.Answer.TheVariants.{Stepped}
use Rattle.machine.specs.declared.answers.Progress.TheVariants.{Begun}
use Rattle.machine.specs.declared.calls.Call.{Call}
use Rattle.machine.specs.Settings.{Settings}
use Rattle.machine.specs.declared.refusals.Refusal.{Refusal}
use Rattle.machine.specs.State.{Grant, Core, State, configured, waits, unconfigured, put_up}
use Rattle.policy.specs.Batches.{Batches}
use Rattle.machine.specs.Trace.{Entry, trace, end_of}
use Rattle.machine.specs.Ledger.{Ledger, column, progress_in, depths_of}
use Rattle.machine.specs.Laws.{Always, begun_by, begun_on, begins, taken_by, taken_on, takes, BoundedBatches}
use Rattle.machine.proofs.Agreement.{TallyState, Agreeing, starts_agreeing, keeps_agreeing}
use Rattle.machine.proofs.Moved.{Move, begun, emptied, taken, rescheduled, completed, Happens, refused, asked_unconfigured, configures, moved}
use Rattle.machine.proofs.Runs.{reached, starts_with, each_call}
use Rattle.machine.proofs.Tally.{column_is}
use Rattle.machine.proofs.Unmoved.{gate_unmoved}

-- how many packets are left to the grant, if one runs
abbrev left_to : Option Grant → ℕ
left_to None = 0
left_to (Some g) = g.left

abbrev left_in : State → ℕ
left_in (unconfigured u) = 0
left_in (configured s x) = left_to x.grant

pub begins-cons : (b : ℕ) (e : Entry) (es : List Entry) → begins b (e ∷ es) ≡ begun_on b e.answered + begins b es
begins-cons b = sum_by-cons (λ (e : Entry). begun_on b e.answered)

module _ (p : Batches) where
  -- where no grant begins, what is taken is no longer left
  move_takes : (s : Settings) (x y : Core) (c : Call) (a : Answer) → Move s p x c a y → ((b : ℕ) → begun_by b (progress_in a) ≡ 0) →
      taken_by (progress_in a) + left_to y.grant ≤ left_to x.grant
  move_takes s x _ _ _ (begun {b = b} e i u h _) none = absurd (grind (arith, none b))
  move_takes s x _ _ _ (emptied e w n _) none = omega (arith, ap left_to e)
  move_takes s x _ _ _ (taken e w n less r _) none = omega (arith, ap left_to e)
  move_takes s x _ _ _ (rescheduled e _) none = omega (arith, ap left_to e)
  move_takes s x _ _ _ (completed e w r _) none = omega (arith, ap left_to e)
  move_takes s x _ _ _ _ none = omega arith

  call_takes : (t u : State) (c : Call) (r : Result Answer Refusal) → Happens p t c r u → ((b : ℕ) → begun_on b r ≡ 0) → taken_on r + left_in u ≤ left_in t
  call_takes _ _ _ _ refused none = omega arith
  call_takes _ _ _ _ asked_unconfigured none = omega arith
  call_takes _ _ _ _ (configures ranges empty share) none = omega arith
  call_takes _ _ _ _ (moved {s = s} {x = x} {y = y} {c = c} {a = a} m) none =
      omega (arith, move_takes s x y c a m none, ap left_to (gate_unmoved s x y).grant)

  stretch_takes : (es after : List Entry) (cs : List Call) (t : State) → trace p t cs ≡ es ++ after → ((b : ℕ) → begins b es ≡ 0) → takes es ≤ left_in t
  stretch_takes [] after cs t h none = omega arith
  stretch_takes (e ∷ es) after cs t h none =
      let f = starts_with p cs t e (es ++ after) h in
      let rest = stretch_takes es after f.calls e.after f.goes_on (λ b. omega (arith, none b, begins-cons b e es)) in
      let first = call_takes t e.after e.asked e.answered f.comes (λ b. omega (arith, none b, begins-cons b e es)) in
      omega (arith, rest, first, sum_by-cons (λ (d : Entry). taken_on d.answered) e es)

  -- a grant that begins has its quota left, by the packets that the ledger knows in its bearer
  record Granted (l : Ledger) (u : State) (b q : ℕ) : Type 0 where
    left : left_in u ≡ q
    quota : q ≡ p.quota b (length (column l b))

  grant_begins : {t u : State} {c : Call} {l : Ledger} {b q : ℕ} (depths : List ℕ) → TallyState depths t l → Happens p t c (Ok (Stepped (Begun b q))) u →
      Granted l u b q
  grant_begins depths i (moved {s = s} {x = x} {y = y} (begun {b = b} e w g h _)) = record {
    left = ap left_to (gate_unmoved s x y).grant;
    quota = ap (p.quota b) (sym (length-map (waits x.bearers b) (λ (k : Packet). k.number)) ∙ ap length (column_is i b));
  }

pub bounded_batches : Always BoundedBatches
bounded_batches p _ bs cs before stretch after e b q h a none =
    let k = each_call p (Agreeing p bs) (keeps_agreeing p bs) (put_up bs) (starts_agreeing p bs) cs before (stretch ++ after) e h in
    let r = reached p (Agreeing p bs) (keeps_agreeing p bs) (put_up bs) (starts_agreeing p bs) cs before (e ∷ (stretch ++ after)) h in
    let f = starts_with p r.1 (end_of (put_up bs) before) e (stretch ++ after) r.2 in
    let g = grant_begins p (depths_of bs) k.held (subst (λ d. Happens p e.before e.asked d e.after) a k.comes) in
    record { quota = g.quota; bound = omega (arith, stretch_takes p stretch after f.calls e.after f.goes_on none, g.left) }
