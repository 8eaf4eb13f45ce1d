-- The receiver: what each call answers and leaves, with its checks in their order.
use Rattle.std.specs.Prelude.{ℕ, ◌+◌, ◌-◌, false, not, List, [], ◌∷◌, ◌++◌, map, length, Some, None, Ok, Err, Option, Result, ◌==◌, nat_le, nat_lt}
use Rattle.board.specs.Bearers.{Bearer, any_in, after_arm, after_disarm}
use Rattle.policy.specs.Batches.{Batches}
use Rattle.machine.specs.declared.answers.Answer.{Answer}
use Rattle.machine.specs.declared.answers.Answer.TheVariants.{Configured, Told}
use Rattle.machine.specs.declared.answers.Counts.{Counts}
use Rattle.machine.specs.declared.answers.Report.{Report}
use Rattle.machine.specs.declared.calls.Call.{Call}
use Rattle.machine.specs.declared.calls.Call.TheVariants.{Configure, Arrive, Step, Work, Fetch, Finish, Discard, Tell}
use Rattle.machine.specs.declared.calls.RawSettings.{RawSettings}
use Rattle.machine.specs.declared.refusals.Refusal.{Refusal}
use Rattle.machine.specs.declared.refusals.Refusal.TheVariants.{NoShare, NotShown, BadLength, BadWork, NotConfigured, AlreadyConfigured, PacketWaits, Retired, LimitUsed, OnHold, NoneListed, PastPeriod, NoneQueued, AllOut, NotOut}
use Rattle.machine.specs.State.{Grant, Core, PutUp, State, unconfigured, configured, is_retired}
use Rattle.machine.specs.Settings.{Settings, settings_from, settings_checks, grant_bound}
use Rattle.machine.specs.Moves.{set_gate}
use Rattle.machine.specs.Calls.{arrive, step, work, fetch, finish, discard, tell}
use Rattle.machine.specs.Checks.{Check, first_refusal, in_range}
use Rattle.machine.specs.Numbers.{holds}

-- a call is refused by the first check that fails, with all as it was, or else accepted, with what it does
abbrev pub unless : {A : Type 0} → Option Refusal → A → Answer × A → Result Answer Refusal × A
unless (Some r) before done = (Err r, before)
unless None before done = (Ok done.0, done.1)

-- Put up, and not configured.
abbrev pub no_counts : Counts
no_counts = record { numbered = 0; delivered = 0; bearer_full = 0; queue_full = 0; discarded = 0 }

abbrev pub no_report : Report
no_report = record { counts = no_counts; closed = 0; last = None }

-- a receiver just configured: every bearer is disarmed and then armed. The gate opens, and finds each armed and empty
abbrev pub fresh : List Bearer → Core
fresh bs =
    record {
      bearers = map (λ (x : Bearer). after_arm false (after_disarm x)) bs;
      clock = record { elapsed = 0; used = 0; offered = 0; closed = 0; last = None };
      hold = 0;
      listed = [];
      grant = None;
      queue = [];
      out = [];
      counts = no_counts;
    }

-- no packet waits in any bearer, counted from i
abbrev pub waiting_checks : ℕ → List Bearer → List Check
waiting_checks i [] = []
waiting_checks i (x ∷ bs) = (not (any_in x.waiting), PacketWaits i) ∷ waiting_checks (i + 1) bs

-- the limit and the grant bound together are at most the period
abbrev pub share_check : ℕ → Settings → List Bearer → Check
share_check m s bs = (nat_le (s.limit + grant_bound m bs) s.period, NoShare)

abbrev pub configure_checks : Batches → RawSettings → List Bearer → List Check
configure_checks p n bs = settings_checks n ++ (waiting_checks 0 bs ++ share_check p.greatest (settings_from n) bs ∷ [])

abbrev pub unconfigured_call : Batches → Call → PutUp → Result Answer Refusal × State
unconfigured_call p (Configure n) u =
    unless (first_refusal (configure_checks p n u.bearers)) (unconfigured u) (Configured, configured (settings_from n) (fresh u.bearers))
unconfigured_call p (Finish n) u = (Err NotOut, unconfigured u)
unconfigured_call p (Discard n) u = (Err NotOut, unconfigured u)
unconfigured_call p Tell u = (Ok (Told no_report), unconfigured u)
unconfigured_call p _ u = (Err NotConfigured, unconfigured u)

-- Configured: the checks of each call, in their order.
abbrev pub retirement_check : Core → Check
retirement_check x = (not (is_retired x), Retired)

abbrev pub arrive_checks : ℕ → ℕ → Core → List Check
arrive_checks b n x = retirement_check x ∷ (nat_lt b (length x.bearers), NotShown b) ∷ (in_range 1 384 n, BadLength n) ∷ []

-- step goes by the grant, if one runs
abbrev pub step_checks : Settings → Core → Option Grant → List Check
step_checks s x (Some g) = retirement_check x ∷ []
step_checks s x None =
    retirement_check x
    ∷ (nat_lt x.clock.used s.limit, LimitUsed)
    ∷ ((x.hold == 0), OnHold)
    ∷ (any_in x.listed, NoneListed)
    ∷ []

abbrev pub work_checks : Settings → ℕ → Core → List Check
work_checks s c x =
    retirement_check x
    ∷ (in_range 1 s.period c, BadWork)
    ∷ (nat_le (x.clock.elapsed + c) s.period, PastPeriod (s.period - x.clock.elapsed))
    ∷ []

abbrev pub fetch_checks : Core → List Check
fetch_checks x = (any_in x.queue, NoneQueued) ∷ (nat_lt (length x.out) 16, AllOut) ∷ []

abbrev pub out_checks : ℕ → Core → List Check
out_checks n x = (holds n x.out, NotOut) ∷ []

module _ (s : Settings) (x : Core) where
  abbrev pub checks_of : Call → List Check
  checks_of (Configure n) = (false, AlreadyConfigured) ∷ []
  checks_of (Arrive b n t) = arrive_checks b n x
  checks_of Step = step_checks s x x.grant
  checks_of (Work c) = work_checks s c x
  checks_of Fetch = fetch_checks x
  checks_of (Finish n) = out_checks n x
  checks_of (Discard n) = out_checks n x
  checks_of Tell = []

  -- what a call answers once they passed, and what it leaves for the gate to be set. Configure never passes
  abbrev pub effect_of : Batches → Call → Answer × Core
  effect_of p (Configure n) = (Configured, x)
  effect_of p (Arrive b n t) = arrive s b n t x
  effect_of p Step = step s p x.grant x
  effect_of p (Work c) = work s c x
  effect_of p Fetch = fetch s x
  effect_of p (Finish n) = finish n x
  effect_of p (Discard n) = discard n x
  effect_of p Tell = tell x

  -- an accepted call ends by setting the gate
  abbrev pub gated : Answer × Core → Answer × Core
  gated done = (done.0, set_gate s x done.1)

  abbrev pub configured_call : Batches → Call → Result Answer Refusal × Core
  configured_call p c = unless (first_refusal (checks_of c)) x (gated (effect_of p c))

-- what a call answers, and the receiver after it
unfoldable pub call : Batches → Call → State → Result Answer Refusal × State
call p c (unconfigured u) = unconfigured_call p c u
call p c (configured s x) = ((configured_call s x p c).0, configured s (configured_call s x p c).1)
