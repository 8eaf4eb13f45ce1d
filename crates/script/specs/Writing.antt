-- Texts as a program writes them: a line for each call, and one for each bearer and the policy, with one space before each word but the first.
use Rattle.std.specs.Prelude.{◌≡◌, ℕ, ◌^◌, ◌<◌, ◌≤◌, false, List, [], ◌∷◌, ◌++◌, Some, None, Option, All, IfSome, codes, decimal, drop, flat_map, length, map, take, ⊤}
use Rattle.machine.specs.declared.calls.Call.{Call}
use Rattle.machine.specs.declared.calls.Call.TheVariants.{Configure, Arrive, Step, Work, Fetch, Finish, Discard, Tell}
use Rattle.setup.specs.declared.setups.BearerKind.{BearerKind}
use Rattle.setup.specs.declared.setups.BearerKind.TheVariants.{Ring, Mailbox}
use Rattle.setup.specs.declared.setups.BearerSetup.{BearerSetup}
use Rattle.setup.specs.declared.setups.PolicySetup.{PolicySetup}
use Rattle.setup.specs.declared.setups.PolicySetup.TheVariants.{Fixed, Backlog}
use Rattle.script.specs.Script.{Contents}

-- a line of words, with its end
abbrev pub line : List ℕ → List (List ℕ) → List ℕ
line first further = (first ++ flat_map (λ w. 32 ∷ w) further) ++ 10 ∷ []

abbrev pub first_word : Call → List ℕ
first_word (Configure s) = codes "configure"
first_word (Arrive bearer length tag) = codes "arrive"
first_word Step = codes "step"
first_word (Work cycles) = codes "work"
first_word Fetch = codes "fetch"
first_word (Finish receipt) = codes "finish"
first_word (Discard receipt) = codes "discard"
first_word Tell = codes "tell"

abbrev pub numbers_of : Call → List ℕ
numbers_of (Configure s) = s.period ∷ s.limit ∷ s.size ∷ s.high ∷ s.low ∷ s.hold ∷ []
numbers_of (Arrive bearer length tag) = bearer ∷ length ∷ tag ∷ []
numbers_of (Work cycles) = cycles ∷ []
numbers_of (Finish receipt) = receipt ∷ []
numbers_of (Discard receipt) = receipt ∷ []
numbers_of _ = []

abbrev pub call_line : Call → List ℕ
call_line c = line (first_word c) (map decimal (numbers_of c))

abbrev pub calls_text : List Call → List ℕ
calls_text cs = flat_map call_line cs

-- every number of a call is of the size that its type has
abbrev pub FitsTypes : Call → Type 0
FitsTypes (Arrive bearer length tag) = (bearer < 2 ^ 64) × (length < 2 ^ 64) × (tag < 2 ^ 32)
FitsTypes (Finish receipt) = receipt < 2 ^ 32
FitsTypes (Discard receipt) = receipt < 2 ^ 32
FitsTypes c = All (λ n. n < 2 ^ 64) (numbers_of c)

abbrev pub kind_word : BearerKind → List ℕ
kind_word Ring = codes "ring"
kind_word Mailbox = codes "mailbox"

abbrev pub bearer_line : BearerSetup → List ℕ
bearer_line b = line (codes "bearer") (kind_word b.kind ∷ decimal b.depth ∷ [])

abbrev pub bearers_text : List BearerSetup → List ℕ
bearers_text bs = flat_map bearer_line bs

abbrev pub policy_words : PolicySetup → List (List ℕ)
policy_words (Fixed figure) = codes "fixed" ∷ decimal figure ∷ []
policy_words Backlog = codes "backlog" ∷ []

-- a policy that is not said has no line
abbrev pub policy_text : Option PolicySetup → List ℕ
policy_text None = []
policy_text (Some p) = line (codes "policy") (policy_words p)

-- the policy's line stands behind those of so many bearers
abbrev pub script_text : ℕ → Contents → List ℕ
script_text n s = bearers_text (take n s.bearers) ++ (policy_text s.policy ++ (bearers_text (drop n s.bearers) ++ calls_text s.calls))

-- a text can say this bearer
pub record IsSayable (b : BearerSetup) : Type 0 where
  pub depth : b.depth < 2 ^ 64
  pub vacant : b.is_occupied ≡ false

-- a policy's figure is of the size that its type has
abbrev pub FitsFigure : PolicySetup → Type 0
FitsFigure (Fixed figure) = figure < 2 ^ 64
FitsFigure Backlog = ⊤

-- a text can say all this
pub record IsWritable (s : Contents) : Type 0 where
  pub few : length s.bearers ≤ 8
  pub bearers : All IsSayable s.bearers
  pub policy : IfSome s.policy FitsFigure
  pub calls : All FitsTypes s.calls
