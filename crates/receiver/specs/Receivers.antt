-- What a receiver shows of itself, and what a call makes of it.
use Rattle.std.specs.Prelude.{ℕ, Result}
use Rattle.std.specs.Result.{result_map_both}
use Rattle.machine.specs.declared.answers.Answer.{Answer}
use Rattle.machine.specs.declared.calls.Call.{Call}
use Rattle.machine.specs.declared.refusals.Refusal.{Refusal}
use Rattle.machine.specs.State.{State, unconfigured, configured}
use Rattle.policy.specs.Batches.{Batches}
use Rattle.machine.specs.Machine.{call}

-- its policy as it is, and all else as the state machine holds it
pub record Receiving (P : Type 0) : Type 0 where
  pub policy : P
  pub state : State

-- what the state machine answers to a call, under what the receiver's policy means
abbrev pub answer_to : {P : Type 0} → (P → Batches) → Call → Receiving P → Result Answer Refusal
answer_to meaning c r = (call (meaning r.policy) c r.state).0

-- the receiver after it: the state is the machine's, and the policy as it was
abbrev pub after : {P : Type 0} → (P → Batches) → Call → Receiving P → Receiving P
after meaning c r = record r { state = (call (meaning r.policy) c r.state).1 }

-- a result of a call's own, as one of all answers
abbrev pub answered : {R : Type 0} → (R → Answer) → Result R Refusal → Result Answer Refusal
answered as_answer = result_map_both as_answer (λ r. r)

-- the cycles elapsed in the open period; before it is configured, none
abbrev pub elapsed_in : State → ℕ
elapsed_in (unconfigured u) = 0
elapsed_in (configured s x) = x.clock.elapsed
