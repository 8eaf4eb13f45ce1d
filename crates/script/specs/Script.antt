-- What a script means: all that its lines say, or the first line that cannot be read.
use Rattle.std.specs.Prelude.{ℕ, ◌+◌, List, [], ◌∷◌, ◌++◌, Some, None, Ok, Err, Option, Result, ◌==◌, if◌then◌else◌, is_some, length, nat_lt, vec_items}
use Rattle.machine.specs.declared.calls.Call.{Call}
use Rattle.setup.specs.declared.setups.BearerSetup.{BearerSetup}
use Rattle.setup.specs.declared.setups.PolicySetup.{PolicySetup}
use Rattle.script.specs.declared.faults.Fault.{Fault}
use Rattle.script.specs.declared.faults.Fault.TheVariants.{UnknownCall, OutOfPlace, NinthBearer, SecondPolicy}
use Rattle.script.specs.declared.faults.Unread.{Unread}
use Rattle.script.specs.declared.keywords.Keyword.{Keyword}
use Rattle.script.specs.declared.keywords.Keyword.TheVariants as keyword
use Rattle.script.specs.declared.scripts.Script.{Script}
use Rattle.script.specs.declared.scripts.Statement.{Statement}
use Rattle.script.specs.declared.scripts.Statement.TheVariants as statement
use Rattle.script.specs.Calls.{call}
use Rattle.script.specs.Keywords.{keyword_of}
use Rattle.script.specs.Results.{result_map, result_and_then}
use Rattle.script.specs.Setups.{bearer_of, policy_of}
use Rattle.script.specs.Words.{lines, words}

-- what a script says: the bearers and the policy that a receiver is put up over, where it says them, and the calls made on it
pub record Contents : Type 0 where
  pub bearers : List BearerSetup
  pub policy : Option PolicySetup
  pub calls : List Call

abbrev pub contents_of : Script → Contents
contents_of s = record { bearers = vec_items s.bearers; policy = s.policy; calls = vec_items s.calls }

abbrev pub no_contents : Contents
no_contents = record { bearers = []; policy = None; calls = [] }

-- a bearer that is not the ninth
abbrev pub next_bearer : Contents → BearerSetup → Result Statement Fault
next_bearer s b = if nat_lt (length s.bearers) 8 then Ok (statement.Bearer b) else Err NinthBearer

-- a policy that is the first
abbrev pub first_policy : Contents → PolicySetup → Result Statement Fault
first_policy s p = if is_some s.policy then Err SecondPolicy else Ok (statement.Policy p)

abbrev pub bearer_statement : Contents → List (List ℕ) → Result Statement Fault
bearer_statement s words = result_and_then (next_bearer s) (bearer_of words)

abbrev pub policy_statement : Contents → List (List ℕ) → Result Statement Fault
policy_statement s words = result_and_then (first_policy s) (policy_of words)

-- the board and the policy are said before the first call
abbrev pub before_calls : Contents → Result Statement Fault → Result Statement Fault
before_calls s r = if length s.calls == 0 then r else Err OutOfPlace

-- what a line says by its first word and the words behind it, where so much is said before
abbrev pub statement_by : Contents → Option Keyword → List (List ℕ) → Result Statement Fault
statement_by s None words = Err UnknownCall
statement_by s (Some keyword.Bearer) words = before_calls s (bearer_statement s words)
statement_by s (Some keyword.Policy) words = before_calls s (policy_statement s words)
statement_by s (Some (keyword.Call name)) words = result_map statement.Call (call name words)

-- a line without words says nothing
abbrev pub statement_of : Contents → List (List ℕ) → Result (Option Statement) Fault
statement_of s [] = Ok None
statement_of s (word ∷ words) = result_map Some (statement_by s (keyword_of word) words)

abbrev pub contents_with : Contents → Statement → Contents
contents_with s (statement.Bearer b) = record s { bearers = s.bearers ++ b ∷ [] }
contents_with s (statement.Policy p) = record s { policy = Some p }
contents_with s (statement.Call c) = record s { calls = s.calls ++ c ∷ [] }

abbrev pub ScriptMeaning : Type 0
ScriptMeaning = Result Contents Unread

-- what the line of this number says joins what is said before, and then come the further lines
abbrev pub and_further : ℕ → Contents → Result (Option Statement) Fault → (Contents → ScriptMeaning) → ScriptMeaning
and_further n s (Ok (Some t)) further = further (contents_with s t)
and_further n s (Ok None) further = further s
and_further n s (Err f) further = Err (record { line = n; fault = f })

-- the lines from that of number n on, where so much is said before
abbrev pub script_from : ℕ → Contents → List (List ℕ) → ScriptMeaning
script_from n s [] = Ok s
script_from n s (l ∷ ls) = and_further n s (statement_of s (words l)) (λ t. script_from (n + 1) t ls)

-- lines count from 1
abbrev pub script_meaning : List ℕ → ScriptMeaning
script_meaning text = script_from 1 no_contents (lines text)
