-- The bearers that the boards of one bearer show.
use Rattle.std.specs.Prelude.{ℕ, List}
use Rattle.ring.specs.declared.rings.Ring.{Ring}
use Rattle.ring.specs.Queue.{ring_elements, ring_capacity}
use Rattle.board.specs.declared.packets.Packet.{Packet}
use Rattle.board.specs.declared.signals.Signal.{Signal}
use Rattle.board.specs.declared.singles.Single.{Single}
use Rattle.board.specs.Bearers.{Bearer}
use Rattle.board.specs.Mailbox.{Mail, mail_room, mail_packets}
use Rattle.board.specs.Signals.{is_armed, is_up}

-- by the line's room, its price, its packets and the signal
abbrev pub shown : ℕ → ℕ → List Packet → Signal → Bearer
shown depth cost packets signal =
    record { depth = depth; cost = cost; waiting = packets; armed = is_armed signal; signal = is_up signal }

abbrev pub ring_bearer : Single (Ring Packet 256) → Bearer
ring_bearer x = shown (ring_capacity x.line) 200 (ring_elements x.line) x.signal

abbrev pub mailbox_bearer : Single Mail → Bearer
mailbox_bearer x = shown (mail_room x.line) 120 (mail_packets x.line) x.signal
