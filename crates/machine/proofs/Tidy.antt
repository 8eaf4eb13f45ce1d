-- Every call leaves all tidy. So no wakeup is lost, and no signal is up between calls.
use Rattle.std.proofs.Common.{◌≡◌, ℕ, zero, suc, ◌+◌, ◌<◌, ◌≤◌, Bool, true, false, cond, ◌&&◌, eqb, ltb, leb, List, [], ◌∷◌, ◌++◌, length, drop, Some, None, Option, Result, sym, refl, ap, ◌∙◌, subst, ⊎_elim, arith}
use Rattle.std.proofs.lemmas.Bool.{cases_lt, and_left, or_parts, true_from_ne_false, not-true}
use Rattle.std.proofs.lemmas.List.{length-set, length-map, get_or-map, get_or_past}
use Rattle.board.specs.Bearers.{Bearer, absent, bearer_of, changed, any_in, after_take, after_arm, after_disarm}
use Rattle.machine.specs.Tidy.{busy_count, ways, Calm, Tidy, TidyCore}
use Rattle.machine.specs.declared.answers.Answer.{Answer}
use Rattle.machine.specs.declared.calls.Call.{Call}
use Rattle.machine.specs.declared.refusals.Refusal.{Refusal}
use Rattle.machine.specs.State.{Grant, Core, State, waits, serves, busy, is_open, put_up}
use Rattle.policy.specs.Batches.{Batches}
use Rattle.machine.specs.declared.calls.RawSettings.{RawSettings}
use Rattle.machine.specs.Settings.{Settings, settings_from, settings_checks}
use Rattle.machine.specs.Calls.{next_packet}
use Rattle.machine.specs.Machine.{fresh, waiting_checks}
use Rattle.machine.specs.Trace.{Throughout}
use Rattle.machine.specs.Laws.{NoWakeupLost, Always, OnceConfigured, NoLostWakeup, Quiet, OneWay}
use Rattle.machine.proofs.Basics.{at_changed, on_changed, at_mapped, none_left, times-append}
use Rattle.machine.proofs.Loads.{calm_armed, calm_disarmed, TidyState, free_turns}
use Rattle.machine.proofs.Gate.{gate_tidy}
use Rattle.machine.proofs.Moved.{behind, Passed, Move, stored, signalled, begun, emptied, taken, rescheduled, completed, Happens, refused, asked_unconfigured, configures, moved}
use Rattle.machine.proofs.Runs.{throughout, if_configured}
use Rattle.machine.specs.Numbers.{times}

module _ {gate : Bool} {bs : List Bearer} {l : List ℕ} {g : Option Grant} (t : Tidy gate bs l g) where
  -- other turns of the same number
  relisted : (l' : List ℕ) (g' : Option Grant) → ((c : ℕ) → busy_count l' g' c ≡ busy_count l g c) → Tidy gate bs l' g'
  relisted l' g' same = record {
    calm = t.calm;
    once = λ c. omega (arith, t.once c, same c);
    shut = t.shut;
    ready = λ o c i. omega (arith, t.ready o c i, same c);
  }

  -- a bearer touched without a change of its arming, under a grant on the same bearer
  touched : (b : ℕ) (f : Bearer → Bearer) (g' : Option Grant) → (f (bearer_of bs b)).armed ≡ (bearer_of bs b).armed → Calm (f (bearer_of bs b)) →
      ((c : ℕ) → serves g' c ≡ serves g c) → Tidy gate (changed bs b f) l g'
  touched b f g' a y v = record {
    calm = λ c. on_changed Calm bs b c f y (t.calm c);
    once = λ c. grind (arith, t.once c, armed c, v c);
    shut = λ o c. armed c ∙ t.shut o c;
    ready = λ o c i. grind (arith, t.ready o c (omega (arith, length-set bs b (f (bearer_of bs b)))), armed c, v c);
  }
    where
      armed : (c : ℕ) → (bearer_of (changed bs b f) c).armed ≡ (bearer_of bs c).armed
      armed c = at_changed (λ y. y.armed ≡ (bearer_of bs c).armed) bs b c f (λ i _. a ∙ ap (λ d. (bearer_of bs d).armed) (sym i)) (λ _. refl)

  -- an armed bearer disarmed and listed
  heard_tidy : (b : ℕ) (f : Bearer → Bearer) → b < length bs → (bearer_of bs b).armed ≡ true → Tidy gate (changed bs b (λ v. after_disarm (f v))) (l ++ b ∷ []) g
  heard_tidy b f i a = record {
    calm = λ c. on_changed Calm bs b c (λ v. after_disarm (f v)) (calm_disarmed (f (bearer_of bs b))) (t.calm c);
    once = λ c. omega (arith, t.once c, same c);
    shut = λ o c. on_changed (λ y. y.armed ≡ false) bs b c (λ v. after_disarm (f v)) refl (t.shut o c);
    ready = λ o c k. omega (arith, t.ready o c (omega (arith, length-set bs b (after_disarm (f (bearer_of bs b))))), same c);
  }
    where
      same : (c : ℕ) → ways (changed bs b (λ v. after_disarm (f v))) (l ++ b ∷ []) g c ≡ ways bs l g c
      same c = at_changed (λ y. cond y.armed 1 0 + busy_count (l ++ b ∷ []) g c ≡ ways bs l g c) bs b c (λ v. after_disarm (f v))
          (λ e _. rw e (grind (arith, times-append)))
          (λ k. grind (arith, times-append))

-- the grant's bearer left alone, with the gate shut, or armed, with the gate open
closed_tidy : {gate : Bool} {bs : List Bearer} {l : List ℕ} (h : Grant) → waits bs h.bearer ≡ [] → Tidy gate bs l (Some h) → (o : Bool) → gate ≡ o →
    Tidy gate (cond o (changed bs h.bearer (after_arm false)) bs) l None
closed_tidy h w t false e = record {
  calm = t.calm;
  once = λ c. omega (arith, t.once c);
  shut = t.shut;
  ready = λ o. cc (e, o);
}
closed_tidy {bs = bs} {l = l} h w t true e =
    let b : ℕ = h.bearer in
    record {
      calm = λ c. on_changed Calm bs b c (after_arm false) (calm_armed (bearer_of bs b) (t.calm b).quiet w) (t.calm c);
      once = λ c. at_changed (λ y. cond y.armed 1 0 + busy_count l None c ≤ 1) bs b c (after_arm false)
          (λ i _. rw i (grind (arith, t.once b)))
          (λ _. omega (arith, t.once c));
      shut = λ o. cc (o, e);
      ready = λ o c k. at_changed (λ y. 1 ≤ cond y.armed 1 0 + busy_count l None c) bs b c (after_arm false)
          (λ _ _. grind arith)
          (λ m. let i : c < length bs = omega (arith, length-set bs b (after_arm false (bearer_of bs b))) in grind (arith, t.ready o c i));
    }

module _ (s : Settings) (p : Batches) (x : Core) (t : TidyCore (is_open s x) x) where
  granted : (g : Grant) → x.grant ≡ Some g → Tidy (is_open s x) x.bearers x.listed (Some g)
  granted g e = subst (λ (o : Option Grant). Tidy (is_open s x) x.bearers x.listed o) e t

  taken_tidy : (g h : Grant) → x.grant ≡ Some g → h.bearer ≡ g.bearer → Tidy (is_open s x) (changed x.bearers g.bearer after_take) x.listed (Some h)
  taken_tidy g h e same = touched t g.bearer after_take (Some h) refl
      (record { quiet = and_left _ _ (t.calm g.bearer).quiet; empty = λ a. ap (drop 1) ((t.calm g.bearer).empty a) })
      (λ c. ap (λ b. eqb b c) same ∙ sym (ap (λ (o : Option Grant). serves o c) e))

  pub move_tidy : (c : Call) (a : Answer) (y : Core) → Move s p x c a y → TidyCore (is_open s x) y
  move_tidy _ _ _ (stored {b = b} {n = n} {t = tag} l r h _) = touched t b (behind (next_packet n tag x)) x.grant refl
      (record { quiet = h; empty = λ a. cc ((or_parts (bearer_of x.bearers b).signal _ h).1, a) }) (λ _. refl)
  move_tidy _ _ _ (signalled {b = b} {n = n} {t = tag} l r h _) = heard_tidy t b (behind (next_packet n tag x)) l (cc ((t.calm b).quiet, h))
  move_tidy _ _ _ (begun {b = b} {rest = rest} e i u h _) = relisted t rest _
      (λ c. omega (arith, ap (times c) i, ap {B = ℕ} (λ (o : Option Grant). cond (serves o c) 1 0) e))
  move_tidy _ _ _ (emptied {g = g} e w n _) = taken_tidy g (record { bearer = g.bearer; left = 0 }) e refl
  move_tidy _ _ _ (taken {g = g} {m = m} e w n less r _) = taken_tidy g (record { bearer = g.bearer; left = m }) e refl
  move_tidy _ _ _ (rescheduled {g = g} e _) = relisted t (x.listed ++ g.bearer ∷ []) None
      (λ c. omega (arith, times-append c x.listed (g.bearer ∷ []), ap {B = ℕ} (λ (o : Option Grant). cond (serves o c) 1 0) e))
  move_tidy _ _ _ (completed {g = g} {o = o} e w i _) = closed_tidy g w (granted g e) o i
  move_tidy _ _ _ _ = t

-- a receiver just configured: nothing waits, all are armed, and the gate is open
pub none_waits : (i : ℕ) (bs : List Bearer) (b : ℕ) → Passed (waiting_checks i bs) → waits bs b ≡ []
none_waits i [] b h = refl
none_waits i (x ∷ bs) zero h = none_left x.waiting (not-true (any_in x.waiting) h.0)
none_waits i (x ∷ bs) (suc b) h = none_waits (i + 1) bs b h.1

pub fresh_tidy : (n : RawSettings) (bs : List Bearer) → Passed (settings_checks n) → Passed (waiting_checks 0 bs) →
    TidyCore (is_open (settings_from n) (fresh bs)) (fresh bs)
fresh_tidy n bs ranges empty =
    let f : Bearer → Bearer = λ x. after_arm false (after_disarm x) in
    let range : (leb 1 n.limit && leb n.limit n.period) ≡ true = ranges.1.0 in
    let gate : (ltb 0 n.limit && true) ≡ true = grind arith in
    record {
      calm = λ b. at_mapped Calm f bs b (calm_disarmed absent) (calm_armed (after_disarm (bearer_of bs b)) refl (none_waits 0 bs b empty));
      once = λ b. at_mapped (λ y. cond y.armed 1 0 + busy_count [] None b ≤ 1) f bs b (omega arith) (omega arith);
      shut = λ e. cc (e, gate);
      ready = λ _ b i. grind (arith, ap (λ (v : Bearer). v.armed) (get_or-map f bs b absent absent (omega (arith, length-map bs f))));
    }

pub keeps_tidy : (p : Batches) (t u : State) (c : Call) (r : Result Answer Refusal) → TidyState t → Happens p t c r u → TidyState u
keeps_tidy p _ _ _ _ i refused = i
keeps_tidy p _ _ _ _ i asked_unconfigured = tt
keeps_tidy p _ _ _ _ i (configures {u = u} {n = n} ranges empty share) = fresh_tidy n u.bearers ranges empty
keeps_tidy p _ _ _ _ i (moved {s = s} {x = x} {y = y} {c = c} {a = a} m) = gate_tidy s x y (move_tidy s p x i c a y m)

pub tidy_wakes : (s : Settings) (x : Core) → TidyCore (is_open s x) x → NoWakeupLost s x
tidy_wakes s x t = record {
  armed_empty = λ b. (t.calm b).empty;
  waiting_busy = λ o b w. true_from_ne_false (busy x b) (λ free. w (unheard o b free));
}
  where
    unheard : is_open s x ≡ true → (b : ℕ) → busy x b ≡ false → waits x.bearers b ≡ []
    unheard o b free =
        ⊎_elim
        (λ (i : b < length x.bearers). (t.calm b).empty (grind (arith, t.ready o b i, free_turns x b free)))
        (λ (i : length x.bearers ≤ b). ap (λ (v : Bearer). v.waiting) (get_or_past x.bearers b absent i))
        (cases_lt b (length x.bearers))

-- what is true of every tidy receiver
always_tidy : {P : Settings → Core → Type 0} → ((s : Settings) (x : Core) → TidyCore (is_open s x) x → P s x) →
    Always (λ p bs es. Throughout (put_up bs) es (λ _ t. OnceConfigured t P))
always_tidy f p _ bs cs before after e = if_configured TidyState f _
    (throughout p (λ _ t. TidyState t) (λ _ t u c r i h. keeps_tidy p t u c r i h) (put_up bs) tt cs before after e)

pub no_lost_wakeup : Always NoLostWakeup
no_lost_wakeup = always_tidy tidy_wakes

pub quiet : Always Quiet
quiet = always_tidy (λ s x t b. (t.calm b).quiet)

pub one_way : Always OneWay
one_way = always_tidy (λ s x t. record { once = t.once; open_some = λ o b i. omega (arith, t.once b, t.ready o b i); shut_unarmed = t.shut })
