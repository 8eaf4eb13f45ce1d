-- What a mailbox shows of its line, before and after a push or a pop.
use Rattle.std.proofs.Common.{◌≡◌, ℕ, ◌+◌, ◌-◌, ◌<◌, ◌≤◌, min, cond, not, List, [], ◌∷◌, ◌++◌, map, length, get_or, drop, set, Some, None, Option, sym, ap, ◌∙◌, arith}
use Rattle.std.specs.List.{position, slice_get}
use Rattle.std.proofs.lemmas.List.{take_all}
use Rattle.std.proofs.lemmas.Bool.{cond-true, cond-false, lt-ltb, le-ltb}
use Rattle.board.specs.declared.packets.Packet.{Packet}
use Rattle.board.specs.declared.mailboxes.Held.{Held}
use Rattle.board.specs.Bearers.{any_room}
use Rattle.board.specs.Mailbox.{is_used, held_at, packet_of, line, advanced, Numbers, Mail, mail_room, mail_packets}
use Rattle.board.proofs.Slots.{length-line, line_none, line_put, line_first, line_advanced, none_free, held_within, held_none, numbers_put, numbers_advanced}

-- it shows the whole of its line
shows_all : (s : List (Option Held)) (d n : ℕ) → d ≤ 16 → n ≤ d → mail_packets (record { depth = d; packets = line s n }) ≡ line s n
shows_all s d n a b = take_all (min 16 d) (line s n) (omega (arith, length-line s n))

-- of a mailbox m with the slots s, the depth d and n packets
module _ {s : List (Option Held)} {d n : ℕ} {m : Mail} (is : record { depth = d; packets = line s n } ≡ m) (kept : (d ≤ 16) × (n ≤ d) × Numbers s n) where
  packets_are : mail_packets m ≡ line s n
  packets_are = ap mail_packets (sym is) ∙ shows_all s d n kept.0 kept.1

  room_is : mail_room m ≡ d
  room_is = ap mail_room (sym is) ∙ omega arith

  pub length_shown : n ≡ length (mail_packets m)
  length_shown = sym (ap length packets_are ∙ length-line s n)

  -- what a push gives where there is room, and where there is none
  pub accepted : {X : Type 0} (a b : X) → n < d → a ≡ cond (any_room (mail_packets m) (mail_room m)) a b
  accepted a b l = sym (cond-true _ a b (lt-ltb _ _ (omega (arith, length_shown, room_is))))

  pub refused : {X : Type 0} (a b : X) → d ≤ n → b ≡ cond (any_room (mail_packets m) (mail_room m)) a b
  refused a b l = sym (cond-false _ a b (le-ltb _ _ (omega (arith, length_shown, room_is))))

  pub pushed : (j : ℕ) (p : Packet) → n < d → (j < length s) × (get_or s j None ≡ None) →
      mail_packets (record { depth = d; packets = line (set s j (Some (record { packet = p; place = n }))) (n + 1) })
      ≡ cond (any_room (mail_packets m) (mail_room m)) (mail_packets m ++ p ∷ []) (mail_packets m)
  pushed j p l free =
      shows_all (set s j (Some (record { packet = p; place = n }))) d (n + 1) kept.0 (omega arith)
      ∙ line_put s j n p free.0 free.1 kept.2
      ∙ ap (λ ps. ps ++ p ∷ []) (sym packets_are)
      ∙ accepted _ _ l

  pub kept_pushed : (j : ℕ) (p : Packet) → n < d → (j < length s) × (get_or s j None ≡ None) →
      (d ≤ 16) × (n + 1 ≤ d) × Numbers (set s j (Some (record { packet = p; place = n }))) (n + 1)
  kept_pushed j p l free = (kept.0, omega arith, numbers_put s j n p free.0 free.1 kept.2)

  -- a line of fewer than 16 leaves a slot free
  pub full : length s ≡ 16 → None ≡ position (λ x. not (is_used x)) s → d ≤ n
  full e none = omega (arith, none_free s none, kept.2.used)

  pub popped : mail_packets (record { depth = d; packets = line (map advanced s) (n - 1) }) ≡ drop 1 (mail_packets m)
  popped = shows_all (map advanced s) d (n - 1) kept.0 (omega arith) ∙ line_advanced s n ∙ ap (drop 1) (sym packets_are)

  -- the oldest is found
  module _ {h : Held} (e : Some h ≡ held_at s 0) where
    pub any_in : 0 < n
    any_in = held_within s n kept.2 0 h (sym e)

    pub first_shown : Some h.packet ≡ slice_get (mail_packets m) 0
    first_shown = ap (λ x. Some (packet_of x)) e ∙ line_first s n any_in ∙ ap (λ ps. slice_get ps 0) (sym packets_are)

    pub kept_popped : (d ≤ 16) × (n - 1 ≤ d) × Numbers (map advanced s) (n - 1)
    kept_popped = (kept.0, omega arith, numbers_advanced s n any_in kept.2)

  -- none is found only of none
  pub none_held : None ≡ held_at s 0 → n ≡ 0
  none_held none = held_none s n kept.2 (sym none)

  -- with none, the line is empty
  module _ (none : n ≡ 0) where
    empty : mail_packets m ≡ []
    empty = packets_are ∙ ap (line s) none ∙ line_none s

    pub none_shown : None ≡ slice_get (mail_packets m) 0
    none_shown = sym (ap (λ ps. slice_get ps 0) empty)

    pub none_popped : mail_packets m ≡ drop 1 (mail_packets m)
    none_popped = empty ∙ sym (ap (drop 1) empty)
