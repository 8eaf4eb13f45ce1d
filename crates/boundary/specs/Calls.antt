-- How the calls of a text end for a host that lends memory for the answers.
use Rattle.std.specs.Prelude.{ℕ, Bool, cond, ◌&&◌, List, length, map, Ok, Err, Result, Some, Option}
use Rattle.std.specs.Option.{is_some}
use Rattle.std.specs.Result.{result_map_both}
use Rattle.setup.specs.Setups.{batches_of, bearer_of, is_board}
use Rattle.setup.specs.declared.setups.BearerSetup.{BearerSetup}
use Rattle.setup.specs.declared.setups.PolicySetup.{PolicySetup}
use Rattle.table.specs.Memory.{fits, left}
use Rattle.transcript.specs.declared.failures.Failure.{Failure}
use Rattle.transcript.specs.declared.failures.Failure.TheVariants.{TooLong, Unread, NoMemory}
use Rattle.transcript.specs.Transcript.{transcript_over}
use Rattle.boundary.specs.Setups.{policy_of, setups_of}
use Rattle.boundary.specs.declared.calls.CallsEnd.{CallsEnd}
use Rattle.boundary.specs.declared.setups.RawBearer.{RawBearer}
use Rattle.boundary.specs.declared.setups.RawPolicy.{RawPolicy}
use Rattle.boundary.specs.declared.statuses.TheConstants.{WRITTEN, TOO_SMALL, UNREAD, TOO_LONG, NO_BOARD, NO_MEMORY, UNKNOWN_KIND}

abbrev pub end : ℕ → ℕ → CallsEnd
end status figure = record { status = status; figure = figure }

-- how the calls of a text without answers end
abbrev pub failure_end : Failure → CallsEnd
failure_end (Unread u) = end UNREAD u.line
failure_end TooLong = end TOO_LONG 0
failure_end NoMemory = end NO_MEMORY 0

-- whether the numbers of all kinds are those of kinds
abbrev pub is_known : List RawBearer → RawPolicy → Bool
is_known bs p = is_some (setups_of bs) && is_some (policy_of p)

-- what is to be answered on a board and by a policy whose kinds are known: a line for each call, or how the calls end without
abbrev pub answer_by : Option (List BearerSetup) → Option PolicySetup → List ℕ → Result (List ℕ) CallsEnd
answer_by (Some bs) (Some p) text = result_map_both (λ lines. lines) failure_end (transcript_over (batches_of p) (map bearer_of bs) text)
answer_by _ _ text = Err (end UNKNOWN_KIND 0)

-- and by their numbers
abbrev pub calls_answer : List RawBearer → RawPolicy → List ℕ → Result (List ℕ) CallsEnd
calls_answer bs p text = cond (is_board bs) (answer_by (setups_of bs) (policy_of p) text) (Err (end NO_BOARD 0))

-- how the calls end then, with so much memory
abbrev pub calls_end : Result (List ℕ) CallsEnd → List ℕ → CallsEnd
calls_end (Ok lines) memory = end (cond (fits memory 0 lines) WRITTEN TOO_SMALL) (length lines)
calls_end (Err e) memory = e

-- and what is left in the memory
abbrev pub memory_left : Result (List ℕ) CallsEnd → List ℕ → List ℕ
memory_left (Ok lines) memory = left memory 0 lines
memory_left (Err e) memory = memory
