-- A replay under way, as the loop of a run keeps it.
use Rattle.std.proofs.Common.{◌≡◌, ℕ, ◌+◌, ◌<◌, ◌≤◌, List, [], length, replicate, None, Ok, Option, refl, ap, ◌∙◌, subst}
use Rattle.std.specs.List.{AllByRecursion}
use Rattle.board.specs.Bearers.{Bearer}
use Rattle.capture.specs.declared.packets.Captured.{Captured}
use Rattle.machine.specs.Calls.{report_of}
use Rattle.machine.specs.declared.answers.Answer.TheVariants.{Configured}
use Rattle.machine.specs.declared.answers.Period.{Period}
use Rattle.machine.specs.declared.calls.Call.TheVariants.{Configure}
use Rattle.machine.specs.Standard.{standard, standard_numbers}
use Rattle.machine.specs.Machine.{call, fresh}
use Rattle.machine.specs.State.{configured, put_up}
use Rattle.policy.specs.Batches.{Batches, IsBounded}
use Rattle.ring.specs.Queue.{ring_elements}
use Rattle.replay.specs.declared.fates.Decision.{Decision}
use Rattle.replay.specs.declared.fates.Fallen.{Fallen}
use Rattle.replay.specs.declared.runs.Outcome.{Outcome}
use Rattle.replay.specs.declared.stages.Turn.TheVariants.{Made, Stop}
use Rattle.replay.specs.Accounts.{noted_record, IsOutcome}
use Rattle.replay.specs.Fates.{noted}
use Rattle.replay.specs.Fit.{Playable, Readable}
use Rattle.replay.specs.Stages.{closed, core, first_stamp, start}
use Rattle.replay.specs.Turns.{Playing, Turned, policy_of}
use Rattle.replay.proofs.Falls.{fall, falls}
use Rattle.replay.proofs.Fits.{stays_fit}
use Rattle.replay.proofs.Played.{Played, begins, goes_on}

module _ {P : Type 0} (meaning : P → Batches) (bs : List Bearer) (ps : List Captured) (q : P) where
  -- turns have led to v, with fs and ds written down, under the policy q
  pub record Going (turns : ℕ) (v : Playing P) (fs : List (Option Fallen)) (ds : List Period) : Type 0 where
    pub policy : v.policy ≡ q
    pub bounds : IsBounded (policy_of meaning v)
    pub played : Played (policy_of meaning v) bs ps turns v.stage fs ds

module _ {P : Type 0} {meaning : P → Batches} {bs : List Bearer} {ps : List Captured} {q : P} where
  pub starts_going : {v : Playing P} {fs : List (Option Fallen)} {ds : List Period} → IsBounded (meaning q) →
      call (meaning q) (Configure standard_numbers) (put_up bs) ≡ (Ok Configured, configured standard (fresh bs)) →
      AllByRecursion (Readable (length bs) (first_stamp ps)) ps → length ps ≤ 1024 →
      v ≡ record { policy = q; stage = start bs ps } → fs ≡ replicate (length ps) None → ds ≡ [] → Going meaning bs ps q 0 v fs ds
  starts_going b ready readable few e f d =
      rw (e, f, d) (record { policy = refl; bounds = b; played = begins (meaning q) bs ps b ready readable few })

  module _ {turns : ℕ} {v : Playing P} {fs : List (Option Fallen)} {ds : List Period} (g : Going meaning bs ps q turns v fs ds) where
    abbrev p : Batches
    p = policy_of meaning v

    -- after a turn with a call
    module _ {d : Option Decision} {w : Playing P} (t : Turned meaning v (Made d) w) where
      pub going_on : {gs : List (Option Fallen)} {es : List Period} → gs ≡ noted d (closed w.stage) fs → es ≡ noted_record 1000 (report_of (core w.stage.receiver)) ds →
          Going meaning bs ps q (turns + 1) w gs es
      going_on f e = rw (f, e, t.2.0, t.2.1) (record { policy = g.policy; bounds = g.bounds; played = goes_on p bs ps g.bounds g.played t.0 t.1 })

      pub going_down : fall w.stage < fall v.stage
      going_down = rw t.2.1 (falls p g.bounds v.stage g.played.fit t.0 t.1)

      pub fit_next : Playable meaning w
      fit_next = rw t.2.1 (stays_fit p g.bounds v.stage g.played.fit t.0 t.1)

    -- at the stop
    module _ {w : Playing P} (t : Turned meaning v Stop w) where
      pub fit_stop : Playable meaning w
      fit_stop = rw t.1 g.played.fit

      pub comes : {o : Outcome} → o.turns ≡ turns → o.report ≡ report_of (core w.stage.receiver) → o.fates.items ≡ fs → ring_elements o.records ≡ ds →
          IsOutcome (meaning q) bs ps o
      comes {o = o} n r f e = subst (λ k. IsOutcome (meaning k) bs ps o) g.policy (record {
        run = record { calls = g.played.calls; stop = v.stage; leads = g.played.leads; stops = t.0 };
        turns = n ∙ g.played.turns_are;
        report_is = r ∙ ap (λ (u : Playing P). report_of (core u.stage.receiver)) t.1;
        fates_are = f ∙ g.played.fates_are;
        records_are = e ∙ g.played.records_are;
      })
