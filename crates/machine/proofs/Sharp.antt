-- A run that meets the bound of the application's share.
use Rattle.std.proofs.Common.{List, [], ◌∷◌, refl, rules}
use Rattle.machine.specs.declared.calls.Call.{Call}
use Rattle.machine.specs.declared.calls.Call.TheVariants.{Configure, Arrive, Step, Work}
use Rattle.policy.specs.Batches.{Batches}
use Rattle.machine.specs.Moves.{open_gate, shut_gate, set_gate}
use Rattle.machine.specs.Calls.{arrive, begin, serve}
use Rattle.machine.specs.Machine.{call}
use Rattle.machine.specs.Standard.{ring, standard_numbers}
use Rattle.machine.specs.Sharp.{Sometimes, ShareMet}

abbrev one : Batches
one = record { quota = λ b w. 1; greatest = 1 }

-- with used at 60, a cycle below N, a grant begins that takes the longest packet; then the application has the rest of the period
abbrev calls : List Call
calls = Configure (record standard_numbers { limit = 61 }) ∷ Arrive 0 384 0 ∷ Step ∷ Step ∷ Work 62300 ∷ []

pub share_met : Sometimes ShareMet
unfolding call arrive begin serve open_gate shut_gate set_gate
share_met = (one, search rules, ring 8 ∷ [], search rules, calls, (0, search rules, refl))
