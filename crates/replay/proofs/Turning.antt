-- Which rule a turn goes by, and what it then comes to.
use Rattle.std.proofs.Common.{◌≡◌, ◌<◌, ◌≤◌, Bool, true, false, leb, Some, None, Option, refl, subst, ◌∙◌, is_ok, is_some, min, IfSome}
use Rattle.std.proofs.lemmas.Bool.{le-leb, lt-leb}
use Rattle.std.specs.Option.{option_map, option_map_or}
use Rattle.machine.specs.declared.calls.Call.{Call}
use Rattle.machine.specs.declared.calls.Call.TheVariants.{Step, Work, Fetch, Finish}
use Rattle.machine.specs.Machine.{call}
use Rattle.board.specs.Bearers.{any_in}
use Rattle.policy.specs.Batches.{Batches}
use Rattle.replay.specs.declared.fates.Decision.{Decision}
use Rattle.replay.specs.declared.stages.Turn.{Turn}
use Rattle.replay.specs.declared.stages.Turn.TheVariants.{Made, Stop}
use Rattle.replay.specs.Stages.{Task, Stage, arrival, closed, core, is_due, is_over, is_through, next, span, turn}
use Rattle.replay.specs.Turns.{Makes, Playing, Turned, answer_at, policy_of}

-- the first rule that applies
module _ (p : Batches) (x : Stage) where
  ended : leb 1000 (closed x) ≡ true → turn p x ≡ None
  unfolding turn
  ended a = rw a refl

  due : leb 1000 (closed x) ≡ false → is_due x ≡ true → turn p x ≡ option_map arrival (next x)
  unfolding turn
  due a b = rw (a, b) refl

  through : leb 1000 (closed x) ≡ false → is_due x ≡ false → is_through x ≡ true → turn p x ≡ option_map (λ (t : Task). Finish t.number) x.task
  unfolding turn
  through a b c = rw (a, b, c) refl

  steps : leb 1000 (closed x) ≡ false → is_due x ≡ false → is_through x ≡ false → is_ok (call p Step x.receiver).0 ≡ true → turn p x ≡ Some Step
  unfolding turn
  steps a b c d = rw (a, b, c, d) refl

  module _ (going : leb 1000 (closed x) ≡ false) (early : is_due x ≡ false) (none_through : is_through x ≡ false)
      (refused : is_ok (call p Step x.receiver).0 ≡ false) where
    works : is_some x.task ≡ true → turn p x ≡ option_map (λ (t : Task). Work (min t.to_go (span x))) x.task
    unfolding turn
    works a = rw (going, early, none_through, refused, a) refl

    fetches : is_some x.task ≡ false → any_in (core x.receiver).queue ≡ true → turn p x ≡ Some Fetch
    unfolding turn
    fetches a b = rw (going, early, none_through, refused, a, b) refl

    over : is_some x.task ≡ false → any_in (core x.receiver).queue ≡ false → is_over x ≡ true → turn p x ≡ None
    unfolding turn
    over a b c = rw (going, early, none_through, refused, a, c, b) refl

    waits : is_some x.task ≡ false → any_in (core x.receiver).queue ≡ false → is_over x ≡ false → turn p x ≡ Some (Work (span x))
    unfolding turn
    waits a b c = rw (going, early, none_through, refused, a, c, b) refl

-- what is tested of something is tested of some
some_tested : {A : Type 0} (f : A → Bool) (o : Option A) → option_map_or f o false ≡ true → is_some o ≡ true
some_tested f (Some a) e = refl
some_tested f None e = cc e

-- What a turn comes to, by what was done.
module _ {P : Type 0} (meaning : P → Batches) (x : Playing P) where
  abbrev p : Batches
  p = policy_of meaning x

  abbrev Comes : Turn → Playing P → Type 0
  Comes = Turned meaning x

  abbrev Does : Call → Option Decision → Playing P → Type 0
  Does c = Makes meaning c x

  -- a call that speaks of a packet, if there is one
  made : {A : Type 0} (c : A → Call) (o : Option A) {d : Option Decision} {y : Playing P} → is_some o ≡ true → turn p x.stage ≡ option_map c o →
      IfSome o (λ a. Does (c a) d y) → Comes (Made d) y
  made c (Some a) s t m = (c a, t, m)
  made c None s t m = cc s

  pub stops_ended : 1000 ≤ closed x.stage → Comes Stop x
  stops_ended l = (ended p x.stage (le-leb 1000 (closed x.stage) l), refl)

  module _ (l : closed x.stage < 1000) where
    going : leb 1000 (closed x.stage) ≡ false
    going = lt-leb 1000 (closed x.stage) l

    pub arrived : (d : Option Decision) (y : Playing P) → is_due x.stage ≡ true → IfSome (next x.stage) (λ q. Does (arrival q) d y) → Comes (Made d) y
    arrived d y e m = made arrival (next x.stage) (some_tested _ (next x.stage) e) (due p x.stage going e) m

    module _ (early : is_due x.stage ≡ false) where
      pub finished : (d : Option Decision) (y : Playing P) → is_through x.stage ≡ true → IfSome x.stage.task (λ t. Does (Finish t.number) d y) → Comes (Made d) y
      finished d y e m = made (λ (t : Task). Finish t.number) x.stage.task (some_tested _ x.stage.task e) (through p x.stage going early e) m

      module _ (none_through : is_through x.stage ≡ false) where
        pub stepped : (d : Option Decision) (y : Playing P) → is_ok (answer_at meaning Step x) ≡ true → Does Step d y → Comes (Made d) y
        stepped d y e m = (Step, steps p x.stage going early none_through e, m)

        module _ (refused : is_ok (answer_at meaning Step x) ≡ false) where
          pub worked : (y : Playing P) → is_some x.stage.task ≡ true → IfSome x.stage.task (λ t. Does (Work (min t.to_go (span x.stage))) None y) →
              Comes (Made None) y
          worked y e m =
              made (λ (t : Task). Work (min t.to_go (span x.stage))) x.stage.task e (works p x.stage going early none_through refused e) m

          -- the application has no packet, so that work on one leaves w as it was
          module _ (idle : is_some x.stage.task ≡ false) {w : Playing P} (unworked : w ≡ x) where
            pub fetched : (y : Playing P) → any_in (core w.stage.receiver).queue ≡ true → Makes meaning Fetch w None y → Comes (Made None) y
            fetched y h m = (
              Fetch,
              fetches p x.stage going early none_through refused idle (subst (λ (v : Playing P). any_in (core v.stage.receiver).queue ≡ true) unworked h),
              subst (λ (v : Playing P). Makes meaning Fetch v None y) unworked m,
            )

            -- nor is there one to fetch, so that a fetch leaves v as it was
            module _ (empty : any_in (core w.stage.receiver).queue ≡ false) {v : Playing P} (unfetched : v ≡ w) where
              same : v ≡ x
              same = unfetched ∙ unworked

              none_queued : any_in (core x.stage.receiver).queue ≡ false
              none_queued = subst (λ (v : Playing P). any_in (core v.stage.receiver).queue ≡ false) unworked empty

              pub stopped_over : is_over v.stage ≡ true → Comes Stop v
              stopped_over h = (over p x.stage going early none_through refused idle none_queued (subst (λ (u : Playing P). is_over u.stage ≡ true) same h), same)

              pub waited : (y : Playing P) → is_over v.stage ≡ false → Makes meaning (Work (span v.stage)) v None y → Comes (Made None) y
              waited y h m = (
                Work (span x.stage),
                waits p x.stage going early none_through refused idle none_queued (subst (λ (u : Playing P). is_over u.stage ≡ false) same h),
                subst (λ (u : Playing P). Makes meaning (Work (span u.stage)) u None y) same m,
              )

pub ruleset turning = (stops_ended, arrived, finished, stepped)
