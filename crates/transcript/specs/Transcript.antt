-- What is printed of a text: a line for each of its calls, said by the rules of the script.
use Rattle.std.specs.Prelude.{◌≡◌, ℕ, cond, List, [], ◌∷◌, ◌++◌, Some, None, Ok, Err, Option, Result, codes, flat_map, length, map, nat_le}
use Rattle.std.specs.Result.{result_map_both}
use Rattle.board.specs.Bearers.{Bearer}
use Rattle.conduct.specs.Lists.{replies_to}
use Rattle.conduct.specs.declared.replies.Reply.{Reply}
use Rattle.conduct.specs.declared.replies.Reply.TheVariants.{Accepted, Refused, NoReceipt}
use Rattle.machine.specs.Standard.{standard_board, four}
use Rattle.machine.specs.State.{put_up}
use Rattle.policy.specs.Batches.{Batches}
use Rattle.machine.specs.declared.calls.Call.{Call}
use Rattle.script.specs.Answers.{answer_text}
use Rattle.script.specs.Refusals.{refusal_text}
use Rattle.script.specs.Results.{result_map}
use Rattle.script.specs.Script.{script_meaning}
use Rattle.script.specs.Texts.{meaning}
use Rattle.script.specs.declared.faults.Unread as script
use Rattle.setup.specs.Setups.{batches_of, bearer_of}
use Rattle.setup.specs.declared.setups.BearerSetup.{BearerSetup}
use Rattle.setup.specs.declared.setups.PolicySetup.{PolicySetup}
use Rattle.transcript.specs.declared.failures.Failure.{Failure}
use Rattle.transcript.specs.declared.failures.Failure.TheVariants.{TooLong, Unread, NoMemory}

abbrev pub line_of : Reply → List ℕ
line_of (Accepted a) = answer_text a
line_of (Refused r) = refusal_text r
line_of NoReceipt = codes "no receipt"

-- each line ends in a line feed
abbrev pub lines_of : List Reply → List ℕ
lines_of replies = flat_map (λ r. line_of r ++ 10 ∷ []) replies

-- the lines of the replies to calls, made on a receiver put up over a policy and bearers
abbrev pub answers : Batches → List Bearer → List Call → List ℕ
answers p bs calls = lines_of (replies_to p (put_up bs) calls)

-- what a text means, or why it is not read; none is above 1,048,576 bytes
abbrev pub reading : {M : Type 0} → (List ℕ → Result M script.Unread) → List ℕ → Result M Failure
reading meaning text = cond (nat_le (length text) 1048576) (result_map_both (λ m. m) Unread (meaning text)) (Err TooLong)

-- of a text of calls alone
abbrev pub transcript_over : Batches → List Bearer → List ℕ → Result (List ℕ) Failure
transcript_over p bs text = result_map (answers p bs) (reading meaning text)

-- the bearers and the policy that a text says, or those of the standard receiver
abbrev pub board_of : List BearerSetup → List Bearer
board_of [] = standard_board
board_of (b ∷ bs) = map bearer_of (b ∷ bs)

abbrev pub policy_of : Option PolicySetup → Batches
policy_of None = four
policy_of (Some p) = batches_of p

-- of a text that may say its board and its policy before the calls
abbrev pub transcript : List ℕ → Result (List ℕ) Failure
transcript text = result_map (λ s. answers (policy_of s.policy) (board_of s.bearers) s.calls) (reading script_meaning text)

-- when a host's answer is this one; want of memory says nothing of the text
abbrev pub Tells : {A B : Type 0} → (A → B) → Result B Failure → Result A Failure → Type 0
Tells view t (Ok x) = t ≡ Ok (view x)
Tells view t (Err TooLong) = t ≡ Err TooLong
Tells view t (Err (Unread u)) = t ≡ Err (Unread u)
Tells view t (Err NoMemory) = Unit {0}
