-- What a turn comes to.
use Rattle.std.specs.Prelude.{◌≡◌, Some, None, Option, Result}
use Rattle.std.specs.Option.{option_map, option_map_or}
use Rattle.machine.specs.declared.answers.Answer.{Answer}
use Rattle.machine.specs.declared.calls.Call.{Call}
use Rattle.machine.specs.declared.calls.Call.TheVariants.{Discard}
use Rattle.machine.specs.declared.refusals.Refusal.{Refusal}
use Rattle.machine.specs.Machine.{call}
use Rattle.policy.specs.Batches.{Batches}
use Rattle.receiver.specs.Receivers.{Receiving}
use Rattle.replay.specs.declared.fates.Decision.{Decision}
use Rattle.replay.specs.declared.stages.Task.{Task as HeldTask}
use Rattle.replay.specs.declared.stages.Turn.{Turn}
use Rattle.replay.specs.declared.stages.Turn.TheVariants.{Made, Stop}
use Rattle.replay.specs.Fates.{decided}
use Rattle.replay.specs.Stages.{Task, Stage, turn, after}

-- the application's packet, by the receipt that is held of it
abbrev pub task_of : Option HeldTask → Option Task
task_of = option_map (λ (t : HeldTask). record { number = t.receipt.number; to_go = t.to_go })

-- a replay under way shows its receiver's policy, and where it stands
pub record Playing (P : Type 0) : Type 0 where
  pub policy : P
  pub stage : Stage

-- by what policies mean
module _ {P : Type 0} (meaning : P → Batches) where
  abbrev pub policy_of : Playing P → Batches
  policy_of x = meaning x.policy

  -- what the receiver answers to a call
  abbrev pub answer_at : Call → Playing P → Result Answer Refusal
  answer_at c x = (call (policy_of x) c x.stage.receiver).0

  -- a turn with a call leaves y, and decides what the call decides
  abbrev pub Makes : Call → Playing P → Option Decision → Playing P → Type 0
  Makes c x d y = (d ≡ decided c (answer_at c x)) × (y ≡ record x { stage = after (policy_of x) c x.stage })

  -- the stop leaves all as it was
  abbrev pub Turned : Playing P → Turn → Playing P → Type 0
  Turned x Stop y = (turn (policy_of x) x.stage ≡ None) × (y ≡ x)
  Turned x (Made d) y = (c : Call) × (turn (policy_of x) x.stage ≡ Some c) × Makes c x d y

  -- the receiver after the stop: the application's packet, if it has one, is discarded, in no turn
  abbrev pub let_go : Playing P → Receiving P
  let_go x =
      record {
        policy = x.policy;
        state = option_map_or (λ (t : Task). (call (policy_of x) (Discard t.number) x.stage.receiver).1) x.stage.task x.stage.receiver;
      }
