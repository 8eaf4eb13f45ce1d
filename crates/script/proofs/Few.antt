-- A script says no more than eight bearers.
use Rattle.std.proofs.Common.{◌≡◌, ℕ, ◌+◌, ◌≤◌, Bool, true, false, List, [], ◌∷◌, Some, None, Ok, Err, Option, Result, IfOk, ◌==◌, if◌then◌else◌, is_some, length, length-append, nat_lt, refl, arith}
use Rattle.setup.specs.declared.setups.BearerSetup.{BearerSetup}
use Rattle.setup.specs.declared.setups.PolicySetup.{PolicySetup}
use Rattle.script.specs.declared.faults.Fault.{Fault}
use Rattle.script.specs.declared.keywords.Keyword.{Keyword}
use Rattle.script.specs.declared.keywords.Keyword.TheVariants as keyword
use Rattle.script.specs.declared.scripts.Statement.{Statement}
use Rattle.script.specs.declared.scripts.Statement.TheVariants as statement
use Rattle.script.specs.Calls.{call}
use Rattle.script.specs.Keywords.{keyword_of}
use Rattle.script.specs.Results.{result_map, result_and_then}
use Rattle.script.specs.Script.{Contents, ScriptMeaning, and_further, contents_with, first_policy, next_bearer, no_contents, script_from, script_meaning, statement_by, statement_of}
use Rattle.script.specs.Setups.{bearer_of, policy_of}
use Rattle.script.specs.Words.{lines, words}

abbrev pub IsFew : Contents → Type 0
IsFew s = length s.bearers ≤ 8

module _ (s : Contents) (few : IsFew s) where
  abbrev Keeps : Result Statement Fault → Type 0
  Keeps r = IfOk r (λ t. IsFew (contents_with s t))

  then_keeps : {A : Type 0} (f : A → Result Statement Fault) → ((x : A) → Keeps (f x)) → (r : Result A Fault) → Keeps (result_and_then f r)
  then_keeps f h (Ok x) = h x
  then_keeps f h (Err e) = _

  if_keeps : (b : Bool) (r : Result Statement Fault) (f : Fault) → Keeps r → Keeps (if b then r else Err f)
  if_keeps true r f h = h
  if_keeps false r f h = _

  bearer_keeps : (b : BearerSetup) (room : Bool) (f : Fault) → nat_lt (length s.bearers) 8 ≡ room → Keeps (if room then Ok (statement.Bearer b) else Err f)
  bearer_keeps b true f e = rw (length-append s.bearers (b ∷ [])) (grind (arith, e))
  bearer_keeps b false f e = _

  policy_keeps : (p : PolicySetup) (said : Bool) (f : Fault) → Keeps (if said then Err f else Ok (statement.Policy p))
  policy_keeps p true f = _
  policy_keeps p false f = few

  call_keeps : (r : Result _ Fault) → Keeps (result_map statement.Call r)
  call_keeps (Ok c) = few
  call_keeps (Err f) = _

  statement_keeps : (k : Option Keyword) (ws : List (List ℕ)) → Keeps (statement_by s k ws)
  statement_keeps None ws = _
  statement_keeps (Some keyword.Bearer) ws = if_keeps (length s.calls == 0) _ _ (then_keeps (next_bearer s) (λ b. bearer_keeps b (nat_lt (length s.bearers) 8) _ refl) (bearer_of ws))
  statement_keeps (Some keyword.Policy) ws = if_keeps (length s.calls == 0) _ _ (then_keeps (first_policy s) (λ p. policy_keeps p (is_some s.policy) _) (policy_of ws))
  statement_keeps (Some (keyword.Call name)) ws = call_keeps (call name ws)

-- by what the line at hand says
further : (n : ℕ) (s : Contents) → IsFew s → (m : Contents → ScriptMeaning) → ((t : Contents) → IsFew t → IfOk (m t) IsFew) → (r : Result Statement Fault) → IfOk r (λ t. IsFew (contents_with s t)) → IfOk (and_further n s (result_map Some r) m) IsFew
further n s few m h (Ok t) kept = h (contents_with s t) kept
further n s few m h (Err f) kept = _

said : (n : ℕ) (s : Contents) → IsFew s → (m : Contents → ScriptMeaning) → ((t : Contents) → IsFew t → IfOk (m t) IsFew) → (ws : List (List ℕ)) → IfOk (and_further n s (statement_of s ws) m) IsFew
said n s few m h [] = h s few
said n s few m h (w ∷ ws) = further n s few m h (statement_by s (keyword_of w) ws) (statement_keeps s few (keyword_of w) ws)

few_from : (n : ℕ) (s : Contents) → IsFew s → (ls : List (List ℕ)) → IfOk (script_from n s ls) IsFew
few_from n s few [] = few
few_from n s few (l ∷ ls) = said n s few (λ t. script_from (n + 1) t ls) (λ t kept. few_from (n + 1) t kept ls) (words l)

pub bearers_few : (text : List ℕ) → IfOk (script_meaning text) (λ s. length s.bearers ≤ 8)
bearers_few text = few_from 1 no_contents (omega arith) (lines text)
