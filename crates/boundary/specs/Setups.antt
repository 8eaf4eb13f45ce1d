-- Boards and policies by the numbers of their kinds.
use Rattle.std.specs.Prelude.{ℕ, cond, ◌==◌, List, [], ◌∷◌, Some, None, Option, option_and_then}
use Rattle.std.specs.Option.{option_map}
use Rattle.setup.specs.declared.setups.BearerKind.{BearerKind}
use Rattle.setup.specs.declared.setups.BearerKind.TheVariants.{Ring, Mailbox}
use Rattle.setup.specs.declared.setups.BearerSetup.{BearerSetup}
use Rattle.setup.specs.declared.setups.PolicySetup.{PolicySetup}
use Rattle.setup.specs.declared.setups.PolicySetup.TheVariants.{Fixed, Backlog}
use Rattle.boundary.specs.declared.setups.RawBearer.{RawBearer}
use Rattle.boundary.specs.declared.setups.RawPolicy.{RawPolicy}

abbrev pub kind_of : ℕ → Option BearerKind
kind_of n = cond (n == 0) (Some Ring) (cond (n == 1) (Some Mailbox) None)

abbrev pub setup_of : RawBearer → Option BearerSetup
setup_of b = option_map (λ kind. record { kind = kind; depth = b.depth; is_occupied = b.is_occupied }) (kind_of b.kind)

-- of all bearers, or none, where the number of one is of no kind
abbrev pub setups_of : List RawBearer → Option (List BearerSetup)
setups_of [] = Some []
setups_of (b ∷ bs) = option_and_then (λ s. option_map (λ ss. s ∷ ss) (setups_of bs)) (setup_of b)

abbrev pub policy_of : RawPolicy → Option PolicySetup
policy_of p = cond (p.kind == 0) (Some (Fixed p.figure)) (cond (p.kind == 1) (Some Backlog) None)
