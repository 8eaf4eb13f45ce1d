-- Worked examples: runs of the machine on the standard board, line by line.
use Rattle.std.specs.Prelude.{ℕ, ◌+◌, true, false, cond, List, [], ◌∷◌, Some, Ok, Err, Result}
use Rattle.board.specs.Bearers.{bearer_of}
use Rattle.machine.specs.declared.answers.Answer.{Answer}
use Rattle.machine.specs.declared.answers.Answer.TheVariants.{Configured, Arrived, Stepped, Worked, Fetched, Told}
use Rattle.machine.specs.declared.answers.Progress.TheVariants.{Begun, Empty, Taken, Rescheduled, Completed}
use Rattle.machine.specs.declared.calls.Call.{Call}
use Rattle.machine.specs.declared.calls.Call.TheVariants.{Configure, Arrive, Step, Work, Fetch, Tell}
use Rattle.machine.specs.declared.refusals.Refusal.{Refusal}
use Rattle.machine.specs.Refusals.{number_of, place_of}
use Rattle.machine.specs.Standard.{standard_numbers}
use Rattle.machine.specs.State.{Core, State, configured, unconfigured}
use Rattle.policy.specs.Batches.{Batches}
use Rattle.machine.specs.Machine.{no_counts, call}

infix 70 ◌answers◌
infix 70 ◌refused◌at◌
-- a line of a run: a call and its answer, a call and its refusal's number and place, or a figure of what the receiver then holds
pub data ExampleLine : Type 0 where
  ◌answers◌ : Call → Answer → ExampleLine
  ◌refused◌at◌ : Call → ℕ → ℕ → ExampleLine
  shows : (Core → ℕ) → ℕ → ExampleLine

-- the figures that lines show; an armed bearer's is 1
abbrev pub used : Core → ℕ
used x = x.clock.used

abbrev pub closed : Core → ℕ
closed x = x.clock.closed

abbrev pub hold : Core → ℕ
hold x = x.hold

abbrev pub armed : ℕ → Core → ℕ
armed b x = cond (bearer_of x.bearers b).armed 1 0

abbrev pub shown : (Core → ℕ) → State → ℕ
shown figure (unconfigured u) = 0
shown figure (configured s x) = figure x

-- a call's line, and all lines, as the machine writes them
abbrev pub line : Call → Result Answer Refusal → ExampleLine
line c (Ok a) = c answers a
line c (Err r) = c refused number_of r at place_of r

abbrev pub replayed : Batches → State → List ExampleLine → List ExampleLine
replayed p t [] = []
replayed p t (c answers a ∷ ls) = line c (call p c t).0 ∷ replayed p (call p c t).1 ls
replayed p t (c refused n at i ∷ ls) = line c (call p c t).0 ∷ replayed p (call p c t).1 ls
replayed p t (shows figure n ∷ ls) = shows figure (shown figure t) ∷ replayed p t ls

-- short names of answers, by a packet's number
abbrev pub accepted : ℕ → Answer
accepted n = Arrived (record { number = n; accepted = true })

abbrev pub dropped : ℕ → Answer
dropped n = Arrived (record { number = n; accepted = false })

abbrev pub queued : ℕ → Answer
queued n = Stepped (Taken n true)

-- in the order of their letters, with P, N, S, H, L and T the settings
abbrev pub examples : List (List ExampleLine)
examples =
    -- A. Beside the bearer's 200, lengths 1, 32, 33 and 384 cost 420, 420, 510 and 1,360.
    (Configure standard_numbers answers Configured
    ∷ Arrive 0 1 0 answers accepted 0
    ∷ Arrive 0 32 0 answers accepted 1
    ∷ Arrive 0 33 0 answers accepted 2
    ∷ Arrive 0 384 0 answers accepted 3
    ∷ Step answers Stepped (Begun 0 4)
    ∷ shows used 140
    ∷ Step answers queued 0
    ∷ shows used (140 + 200 + 420)
    ∷ Step answers queued 1
    ∷ shows used (760 + 200 + 420)
    ∷ Step answers queued 2
    ∷ shows used (1380 + 200 + 510)
    ∷ Step answers queued 3
    ∷ shows used (2090 + 200 + 1360)
    ∷ [])
    -- B. A length of 0, or above 384, is refused.
    ∷ (Configure standard_numbers answers Configured
    ∷ Arrive 0 0 0 refused 5 at 0
    ∷ Arrive 0 385 0 refused 5 at 385
    ∷ [])
    -- C. The grant bound is 25,040, so that with N at 32,000 the least P is 57,040.
    ∷ (Configure (record standard_numbers { period = 57039 }) refused 2 at 0
    ∷ Configure (record standard_numbers { period = 57040 }) answers Configured
    ∷ [])
    -- D. With H at 24, L may be 23 at the most.
    ∷ (Configure (record standard_numbers { low = 24 }) refused 1 at 5
    ∷ Configure (record standard_numbers { low = 23 }) answers Configured
    ∷ [])
    -- E. The application may be offered a whole period, and no more at once.
    ∷ (Configure standard_numbers answers Configured
    ∷ Work 64000 answers Worked
    ∷ Tell answers Told (record { counts = no_counts; closed = 1; last = Some (record { offered = 64000; network = 0 }) })
    ∷ Work 64001 refused 6 at 0
    ∷ [])
    -- F. A mailbox of 4 has no room for a fifth packet.
    ∷ (Configure standard_numbers answers Configured
    ∷ Arrive 1 20 0 answers accepted 0
    ∷ Arrive 1 20 0 answers accepted 1
    ∷ Arrive 1 20 0 answers accepted 2
    ∷ Arrive 1 20 0 answers accepted 3
    ∷ Arrive 1 20 0 answers dropped 4
    ∷ [])
    -- G. The second arrival finds the bearer disarmed and is not charged; its bearer waits for another turn.
    ∷ (Configure standard_numbers answers Configured
    ∷ Arrive 1 20 0 answers accepted 0
    ∷ Step answers Stepped (Begun 1 4)
    ∷ Step answers queued 0
    ∷ Step answers Stepped Empty
    ∷ Arrive 1 20 0 answers accepted 1
    ∷ Step answers Stepped Rescheduled
    ∷ shows used (60 + 80 + 120 + 420)
    ∷ [])
    -- H. The take that fills the queue to H sets the hold, and the fetch that leaves L ends it.
    ∷ (Configure (record standard_numbers { size = 2; high = 2; low = 0; hold = 1 }) answers Configured
    ∷ Arrive 0 1 0 answers accepted 0
    ∷ Arrive 0 1 0 answers accepted 1
    ∷ Step answers Stepped (Begun 0 4)
    ∷ Step answers queued 0
    ∷ shows hold 0
    ∷ Step answers queued 1
    ∷ shows hold 1
    ∷ Step answers Stepped Completed
    ∷ Step refused 25 at 0
    ∷ Fetch answers Fetched (record { number = 0; length = 1; tag = 0 })
    ∷ shows hold 1
    ∷ Fetch answers Fetched (record { number = 1; length = 1; tag = 0 })
    ∷ shows hold 0
    ∷ [])
    -- I. At N cycles used the gate shuts, and at the period's end it opens.
    ∷ (Configure (record standard_numbers { limit = 200 }) answers Configured
    ∷ Arrive 0 1 0 answers accepted 0
    ∷ Step answers Stepped (Begun 0 4)
    ∷ shows (armed 1) 1
    ∷ Step answers queued 0
    ∷ shows used (60 + 80 + 620)
    ∷ shows (armed 1) 0
    ∷ Step answers Stepped Empty
    ∷ Step answers Stepped Completed
    ∷ shows (armed 0) 0
    ∷ Step refused 24 at 0
    ∷ Work 63240 answers Worked
    ∷ shows closed 1
    ∷ shows (armed 0) 1
    ∷ [])
    ∷ []
