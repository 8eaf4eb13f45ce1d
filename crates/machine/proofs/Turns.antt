-- Equal busy_count: with packets waiting in c, each call pays for a grant begun on b by one begun on c, or by c's coming to stand before b in the poll list.
use Rattle.std.proofs.Common.{◌≡◌, ℕ, ◌+◌, ◌≤◌, true, cond, ◌≢◌, ◌&&◌, eqb, ltb, List, [], ◌∷◌, ◌++◌, None, Result, ap, arith}
use Rattle.machine.specs.Tidy.{busy_count, TidyCore}
use Rattle.machine.specs.declared.answers.Answer.{Answer}
use Rattle.machine.specs.declared.calls.Call.{Call}
use Rattle.machine.specs.Settings.{Settings}
use Rattle.machine.specs.declared.refusals.Refusal.{Refusal}
use Rattle.machine.specs.State.{Core, State, configured, waits, is_open, unconfigured, put_up}
use Rattle.policy.specs.Batches.{Batches}
use Rattle.machine.specs.Ledger.{progress_in}
use Rattle.machine.specs.Trace.{Entry, trace, end_of}
use Rattle.machine.specs.Laws.{Always, Waiting, AlwaysWaiting, begun_by, begun_on, begins, EqualTurns}
use Rattle.machine.proofs.Loads.{TidyState, busy_turns}
use Rattle.machine.proofs.Moved.{Move, signalled, begun, rescheduled, Happens, refused, asked_unconfigured, configures, moved}
use Rattle.machine.proofs.Runs.{reached, starts_with}
use Rattle.machine.proofs.Tidy.{keeps_tidy, tidy_wakes}
use Rattle.machine.proofs.Unmoved.{gate_unmoved}
use Rattle.machine.specs.Numbers.{times}
use Rattle.machine.proofs.Batches.{begins-cons}

module _ (c b : ℕ) where
  -- 0 where c stands before any b, else 1
  abbrev slack : List ℕ → ℕ
  slack [] = 1
  slack (n ∷ ns) = cond (eqb n c) 0 (cond (eqb n b) 1 (slack ns))

  slack_most : (ns : List ℕ) → slack ns ≤ 1
  slack_most [] = omega arith
  slack_most (n ∷ ns) = grind (arith, slack_most ns)

  slack-append : (ns ms : List ℕ) → slack (ns ++ ms) ≤ slack ns
  slack-append [] ms = slack_most ms
  slack-append (n ∷ ns) ms = grind (arith, slack-append ns ms)

  -- with c listed, and b not
  slack_none : (ns : List ℕ) → 1 ≤ times c ns → times b ns ≡ 0 → slack ns ≡ 0
  slack_none [] l n = omega arith
  slack_none (m ∷ ns) l n = grind (arith, slack_none ns)

  -- the first leaves the list and begins
  first_leaves : b ≢ c → (n : ℕ) (ns : List ℕ) → 1 ≤ busy_count (n ∷ ns) None c → busy_count (n ∷ ns) None b ≤ 1 →
      cond (eqb n b) 1 0 + slack ns ≤ cond (eqb n c) 1 0 + slack (n ∷ ns)
  first_leaves d n ns l m = grind (arith, d, slack_most ns, slack_none ns)

  -- what b may begin before c does
  abbrev may_begin : State → ℕ
  may_begin (unconfigured u) = 1
  may_begin (configured s x) = slack x.listed

  may_begin_most : (t : State) → may_begin t ≤ 1
  may_begin_most (unconfigured u) = omega arith
  may_begin_most (configured s x) = slack_most x.listed

  module _ (p : Batches) (d : b ≢ c) where
    move_pays : (s : Settings) (x y : Core) (k : Call) (a : Answer) → TidyCore (is_open s x) x → waits x.bearers c ≢ [] → Move s p x k a y →
        begun_by b (progress_in a) + slack y.listed ≤ begun_by c (progress_in a) + slack x.listed
    move_pays s x _ _ _ t w (begun {b = n} {rest = ns} e i u h _) =
        let o : (ltb x.clock.used s.limit && eqb x.hold 0) ≡ true = grind arith in
        let l : 1 ≤ busy_count x.listed x.grant c = busy_turns x c ((tidy_wakes s x t).waiting_busy o c w) in
        let m : busy_count x.listed x.grant b ≤ 1 = omega (arith, t.once b) in
        rw i (first_leaves d n ns (rw (e, i) at l) (rw (e, i) at m))
    move_pays s x _ _ _ t w (signalled {b = n} l r h _) = omega (arith, slack-append x.listed (n ∷ []))
    move_pays s x _ _ _ t w (rescheduled {g = g} e _) = omega (arith, slack-append x.listed (g.bearer ∷ []))
    move_pays s x _ _ _ t w _ = omega arith

    call_pays : (t u : State) (k : Call) (r : Result Answer Refusal) → TidyState t → Waiting c t → Happens p t k r u →
        begun_on b r + may_begin u ≤ begun_on c r + may_begin t
    call_pays _ _ _ _ i w refused = omega arith
    call_pays _ _ _ _ i w asked_unconfigured = omega arith
    call_pays _ _ _ _ i w (configures ranges empty share) = omega arith
    call_pays _ _ _ _ i w (moved {s = s} {x = x} {y = y} {c = k} {a = a} m) =
        let u = gate_unmoved s x y in omega (arith, move_pays s x y k a i w m, ap slack u.listed, slack-append y.listed u.joined)

    -- over a stretch of a trace
    stretch_pays : (es after : List Entry) (cs : List Call) (t : State) → TidyState t → Waiting c t → AlwaysWaiting c es → trace p t cs ≡ es ++ after →
        begins b es ≤ begins c es + may_begin t
    stretch_pays [] after cs t i w ws h = omega arith
    stretch_pays (e ∷ es) after cs t i w ws h =
        let f = starts_with p cs t e (es ++ after) h in
        let rest = stretch_pays es after f.calls e.after (keeps_tidy p t e.after e.asked e.answered i f.comes) ws.0 ws.1 f.goes_on in
        omega (arith, rest, call_pays t e.after e.asked e.answered i w f.comes, begins-cons b e es, begins-cons c e es)

pub equal_turns : Always EqualTurns
equal_turns p _ bs cs before stretch after h b c d w ws =
    let k = reached p (λ _ t. TidyState t) (λ _ t u a r i m. keeps_tidy p t u a r i m) (put_up bs) tt cs before (stretch ++ after) h in
    omega (arith, stretch_pays c b p d stretch after k.1 (end_of (put_up bs) before) k.0 w ws k.2, may_begin_most c b (end_of (put_up bs) before))
