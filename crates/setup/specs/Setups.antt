-- Boards and policies by their kinds.
use Rattle.std.specs.Prelude.{ℕ, Bool, cond, ◌&&◌, List, length, min, nat_le, nat_lt}
use Rattle.board.specs.Bearers.{Bearer, after_offer}
use Rattle.board.specs.declared.packets.Packet.{Packet}
use Rattle.machine.specs.Standard.{ring, mailbox}
use Rattle.policy.specs.Batches.{Batches}
use Rattle.policy.specs.Quotas.{backlog_batches, cut_figure, fixed_batches}
use Rattle.setup.specs.declared.setups.BearerKind.{BearerKind}
use Rattle.setup.specs.declared.setups.BearerKind.TheVariants.{Ring, Mailbox}
use Rattle.setup.specs.declared.setups.BearerSetup.{BearerSetup}
use Rattle.setup.specs.declared.setups.PolicySetup.{PolicySetup}
use Rattle.setup.specs.declared.setups.PolicySetup.TheVariants.{Fixed, Backlog}

-- the packet that waits in an occupied bearer
abbrev pub waiting_packet : Packet
waiting_packet = record { number = 0; length = 1; tag = 0 }

-- a bearer just put up, of a kind and with a depth asked for
abbrev pub new_bearer : BearerKind → ℕ → Bearer
new_bearer Ring depth = ring (min 256 depth)
new_bearer Mailbox depth = mailbox (min 16 depth)

-- and then with the packet that waits in it, if there is room
abbrev pub bearer_of : BearerSetup → Bearer
bearer_of s = cond s.is_occupied (after_offer waiting_packet (new_bearer s.kind s.depth)) (new_bearer s.kind s.depth)

-- a board shows one to eight bearers
abbrev pub is_board : {S : Type 0} → List S → Bool
is_board bearers = nat_lt 0 (length bearers) && nat_le (length bearers) 8

-- what a policy means
abbrev pub batches_of : PolicySetup → Batches
batches_of (Fixed figure) = fixed_batches (cut_figure figure)
batches_of Backlog = backlog_batches
