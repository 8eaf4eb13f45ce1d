-- What a line says of the board or the policy, behind its first word.
use Rattle.std.specs.Prelude.{ℕ, false, List, [], ◌∷◌, Ok, Err, Result, bytes_eq, codes, if◌then◌else◌, slice_index}
use Rattle.setup.specs.declared.setups.BearerKind.{BearerKind}
use Rattle.setup.specs.declared.setups.BearerKind.TheVariants.{Ring, Mailbox}
use Rattle.setup.specs.declared.setups.BearerSetup.{BearerSetup}
use Rattle.setup.specs.declared.setups.PolicySetup.{PolicySetup}
use Rattle.setup.specs.declared.setups.PolicySetup.TheVariants.{Fixed, Backlog}
use Rattle.script.specs.declared.faults.Fault.{Fault}
use Rattle.script.specs.declared.faults.Fault.TheVariants.{UnknownBearerKind, UnknownPolicyKind}
use Rattle.script.specs.Numbers.{exactly}
use Rattle.script.specs.Results.{result_map, result_and_then}

abbrev pub bearer_kind : List ℕ → Result BearerKind Fault
bearer_kind word =
    if bytes_eq word (codes "ring")
    then Ok Ring
    else (if bytes_eq word (codes "mailbox") then Ok Mailbox else Err UnknownBearerKind)

-- a bearer that is said is not occupied
abbrev pub bearer_with : BearerKind → List ℕ → BearerSetup
bearer_with kind ns = record { kind = kind; depth = slice_index ns 0; is_occupied = false }

abbrev pub bearer_of : List (List ℕ) → Result BearerSetup Fault
bearer_of [] = Err UnknownBearerKind
bearer_of (word ∷ words) = result_and_then (λ kind. result_map (bearer_with kind) (exactly 1 words)) (bearer_kind word)

abbrev pub policy_by : List ℕ → List (List ℕ) → Result PolicySetup Fault
policy_by word words =
    if bytes_eq word (codes "fixed")
    then result_map (λ ns. Fixed (slice_index ns 0)) (exactly 1 words)
    else (if bytes_eq word (codes "backlog") then result_map (λ ns. Backlog) (exactly 0 words) else Err UnknownPolicyKind)

abbrev pub policy_of : List (List ℕ) → Result PolicySetup Fault
policy_of [] = Err UnknownPolicyKind
policy_of (word ∷ words) = policy_by word words
