-- Over every list of calls the receiver agrees with the ledger, and answers true to it.
use Rattle.std.proofs.Common.{◌≡◌, ℕ, List, [], ◌∷◌, ◌++◌, map, length, replicate, Result, refl, sym, ap, subst, false, ◌+◌}
use Rattle.std.proofs.lemmas.Bool.{not-true}
use Rattle.board.specs.Bearers.{Bearer, after_arm, after_disarm, any_in}
use Rattle.machine.specs.declared.answers.Answer.{Answer}
use Rattle.machine.specs.declared.calls.Call.{Call}
use Rattle.machine.specs.Settings.{Settings, settings_from}
use Rattle.machine.specs.declared.refusals.Refusal.{Refusal}
use Rattle.machine.specs.State.{State, configured, unconfigured, put_up}
use Rattle.policy.specs.Batches.{Batches}
use Rattle.machine.specs.Machine.{fresh, waiting_checks}
use Rattle.machine.specs.Trace.{Entry}
use Rattle.machine.specs.Ledger.{Ledger, nothing, told, depths_of, ledger, counts_of, accepted}
use Rattle.machine.specs.Laws.{Always, LedgerAgrees, Truly, TrueAnswers}
use Rattle.machine.proofs.Moved.{Passed, Happens, refused, asked_unconfigured, configures, moved}
use Rattle.machine.proofs.Runs.{entry_of, throughout, each_call, if_configured}
use Rattle.machine.proofs.Tally.{numbers_in, depth_of, TallyCore, move_tally, move_true, gate_tally}
use Rattle.machine.proofs.Pushed.{ledger_push}
use Rattle.machine.proofs.Basics.{none_left}
use Rattle.std.proofs.lemmas.Simd.{map-map}

-- before it is configured, the ledger is empty
abbrev pub TallyState : List ℕ → State → Ledger → Type 0
TallyState depths (unconfigured u) l = (l ≡ nothing (length u.bearers)) × (depths_of u.bearers ≡ depths)
TallyState depths (configured s x) l = TallyCore depths s x l

-- a receiver just configured
fresh_waiting : (i : ℕ) (bs : List Bearer) → Passed (waiting_checks i bs) →
    map numbers_in (map (λ v. after_arm false (after_disarm v)) bs) ≡ replicate (length bs) []
fresh_waiting i [] h = refl
fresh_waiting i (v ∷ bs) h = cc (none_left v.waiting (not-true (any_in v.waiting) h.0), fresh_waiting (i + 1) bs h.1)

fresh_tally : (s : Settings) (bs : List Bearer) → Passed (waiting_checks 0 bs) →
    TallyCore (depths_of bs) s (fresh bs) (record (nothing (length bs)) { size = s.size })
fresh_tally s bs h = record {
  waiting = fresh_waiting 0 bs h;
  depths_are = map-map depth_of _ bs;
  serving = tt;
  size_is = refl;
  queue = refl;
  out = refl;
  counts = refl;
}

module _ (p : Batches) (depths : List ℕ) where
  keeps_tally : (t u : State) (c : Call) (r : Result Answer Refusal) (l : Ledger) → TallyState depths t l → Happens p t c r u →
      TallyState depths u (told depths c r l)
  keeps_tally _ _ _ _ l i refused = i
  keeps_tally _ _ _ _ l i asked_unconfigured = i
  keeps_tally _ _ _ _ l i (configures {u = u} {n = n} ranges empty share) =
      let bs = u.bearers in
      let s : Settings = settings_from n in
      subst (λ ds. TallyCore ds s (fresh bs) (record l { size = s.size })) i.1
      (subst (λ (k : Ledger). TallyCore (depths_of bs) s (fresh bs) (record k { size = s.size })) (sym i.0) (fresh_tally s bs empty))
  keeps_tally _ _ _ _ l i (moved {s = s} {x = x} {y = y} {c = c} {a = a} m) =
      gate_tally depths s x y (accepted depths c a l) (move_tally s p x depths l i c a y m)

  answers_true : (t u : State) (c : Call) (r : Result Answer Refusal) (l : Ledger) → TallyState depths t l → Happens p t c r u → Truly depths c r l
  answers_true _ _ _ _ l i refused = tt
  answers_true _ _ _ _ l i (asked_unconfigured {u = u}) = (_, refl, ap counts_of (sym i.0))
  answers_true _ _ _ _ l i (configures ranges empty share) = refl
  answers_true _ _ _ _ l i (moved {s = s} {x = x} {y = y} {c = c} {a = a} m) = move_true s p x depths l i c a y m

-- the invariant of every list of calls
module _ (p : Batches) (bs : List Bearer) where
  abbrev pub Agreeing : List Entry → State → Type 0
  Agreeing es t = TallyState (depths_of bs) t (ledger bs es)

  pub starts_agreeing : Agreeing [] (put_up bs)
  unfolding ledger
  starts_agreeing = (refl, refl)

  pub keeps_agreeing : (es : List Entry) (t u : State) (c : Call) (r : Result Answer Refusal) → Agreeing es t → Happens p t c r u →
      Agreeing (es ++ entry_of t c r u ∷ []) u
  keeps_agreeing es t u c r i h =
      subst (TallyState (depths_of bs) u) (sym (ledger_push bs es (entry_of t c r u))) (keeps_tally p (depths_of bs) t u c r (ledger bs es) i h)

pub ledger_agrees : Always LedgerAgrees
ledger_agrees p _ bs cs before after e =
    if_configured (Agreeing p bs before) (λ s x t. record { waiting = t.waiting; queue = t.queue; out = t.out; counts = t.counts }) _
    (throughout p (Agreeing p bs) (keeps_agreeing p bs) (put_up bs) (starts_agreeing p bs) cs before after e)

pub true_answers : Always TrueAnswers
true_answers p _ bs cs before after e h =
    let k = each_call p (Agreeing p bs) (keeps_agreeing p bs) (put_up bs) (starts_agreeing p bs) cs before after e h in
    answers_true p (depths_of bs) e.before e.after e.asked e.answered (ledger bs before) k.held k.comes
