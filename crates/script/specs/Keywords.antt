-- The first word of a line, and the call that a line asks for.
use Rattle.std.specs.Prelude.{ℕ, List, [], ◌∷◌, Some, None, Ok, Err, Option, Result, bytes_eq, codes, find}
use Rattle.machine.specs.declared.calls.Call.{Call}
use Rattle.script.specs.declared.calls.Name.TheVariants.{Configure, Arrive, Step, Work, Fetch, Finish, Discard, Tell}
use Rattle.script.specs.declared.faults.Fault.{Fault}
use Rattle.script.specs.declared.faults.Fault.TheVariants.{UnknownCall, OutOfPlace}
use Rattle.script.specs.declared.keywords.Keyword.{Keyword}
use Rattle.script.specs.declared.keywords.Keyword.TheVariants as keyword
use Rattle.script.specs.Calls.{spelling, call}
use Rattle.script.specs.Results.{result_map}

abbrev pub keyword_spelling : Keyword → List ℕ
keyword_spelling keyword.Bearer = codes "bearer"
keyword_spelling keyword.Policy = codes "policy"
keyword_spelling (keyword.Call name) = spelling name

abbrev pub keywords : List Keyword
keywords =
    keyword.Bearer
    ∷ keyword.Policy
    ∷ keyword.Call Configure
    ∷ keyword.Call Arrive
    ∷ keyword.Call Step
    ∷ keyword.Call Work
    ∷ keyword.Call Fetch
    ∷ keyword.Call Finish
    ∷ keyword.Call Discard
    ∷ keyword.Call Tell
    ∷ []

abbrev pub keyword_of : List ℕ → Option Keyword
keyword_of word = find (λ k. bytes_eq (keyword_spelling k) word) keywords

-- the call that a line asks for by its first word, with the words behind it
abbrev pub call_by : Option Keyword → List (List ℕ) → Result Call Fault
call_by None words = Err UnknownCall
call_by (Some keyword.Bearer) words = Err OutOfPlace
call_by (Some keyword.Policy) words = Err OutOfPlace
call_by (Some (keyword.Call name)) words = call name words

-- a line without words asks for no call
abbrev pub call_of : List (List ℕ) → Result (Option Call) Fault
call_of [] = Ok None
call_of (word ∷ words) = result_map Some (call_by (keyword_of word) words)
