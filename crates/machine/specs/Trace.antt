-- A list of calls, made one after another.
use Rattle.std.specs.Prelude.{◌≡◌, List, [], ◌∷◌, ◌++◌, Result}
use Rattle.machine.specs.declared.answers.Answer.{Answer}
use Rattle.machine.specs.declared.calls.Call.{Call}
use Rattle.machine.specs.declared.refusals.Refusal.{Refusal}
use Rattle.machine.specs.State.{State}
use Rattle.policy.specs.Batches.{Batches}
use Rattle.machine.specs.Machine.{call}

-- one call: what was asked and answered, and the receiver before and after
pub record Entry : Type 0 where
  pub asked : Call
  pub answered : Result Answer Refusal
  pub before : State
  pub after : State

abbrev pub entry : Batches → State → Call → Entry
entry p t c = record { asked = c; answered = (call p c t).0; before = t; after = (call p c t).1 }

-- the trace of calls made from a state on
abbrev pub trace : Batches → State → List Call → List Entry
trace p t [] = []
trace p t (c ∷ cs) = entry p t c ∷ trace p (call p c t).1 cs

-- where a trace that began at a state ends
abbrev pub end_of : State → List Entry → State
end_of t [] = t
end_of t (e ∷ es) = end_of e.after es

-- what holds at the start of a trace and after each of its calls: P of the entries so far, and of the receiver then
abbrev pub Throughout : State → List Entry → (List Entry → State → Type 0) → Type 0
Throughout t es P = (before after : List Entry) → es ≡ before ++ after → P before (end_of t before)
