-- The line of packets that lie in a mailbox's numbered slots: each used slot tells its packet's place, 0 for the oldest.
use Rattle.std.specs.Prelude.{◌≡◌, ℕ, zero, suc, Bool, true, false, cond, List, map, min, take, count_by, Some, None, Option, ◌==◌, nat_lt}
use Rattle.std.specs.List.{find, range_with_len}
use Rattle.std.specs.Option.{option_flatten}
use Rattle.board.specs.declared.packets.Packet.{Packet}
use Rattle.board.specs.declared.mailboxes.Held.{Held}
use Rattle.board.specs.Bearers.{blank}

abbrev pub is_used : Option Held → Bool
is_used None = false
is_used (Some h) = true

-- whether a slot's packet has this place
abbrev pub has_place : ℕ → Option Held → Bool
has_place k None = false
has_place k (Some h) = h.place == k

-- what the slot with this place holds
abbrev pub held_at : List (Option Held) → ℕ → Option Held
held_at s k = option_flatten (find (has_place k) s)

abbrev pub packet_of : Option Held → Packet
packet_of None = blank
packet_of (Some h) = h.packet

-- the packet at this place, and a blank one if no slot has it
abbrev pub packet_at : List (Option Held) → ℕ → Packet
packet_at s k = packet_of (held_at s k)

-- the line of n packets, oldest first
unfoldable pub line : List (Option Held) → ℕ → List Packet
line s n = map (packet_at s) (range_with_len 0 n)

-- what becomes of a held packet when the oldest leaves: every other moves up by one place
abbrev pub up_from : Packet → ℕ → Option Held
up_from p zero = None
up_from p (suc k) = Some (record { packet = p; place = k })

abbrev pub advanced : Option Held → Option Held
advanced None = None
advanced (Some h) = up_from h.packet h.place

-- what is kept of n packets in slots: each place below n is that of one slot, and no slot has another
pub record Numbers (s : List (Option Held)) (n : ℕ) : Type 0 where
  pub used : count_by is_used s ≡ n
  pub each : (k : ℕ) → count_by (has_place k) s ≡ cond (nat_lt k n) 1 0

-- a mailbox as its callers see it
pub record Mail : Type 0 where
  pub depth : ℕ
  pub packets : List Packet

-- what it shows of that: a depth of 16 at most, and no more packets than that. Nothing is cut off of a mailbox that there is
abbrev pub mail_room : Mail → ℕ
mail_room m = min 16 m.depth

abbrev pub mail_packets : Mail → List Packet
mail_packets m = take (mail_room m) m.packets
