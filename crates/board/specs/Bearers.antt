-- What a board means: its bearers, and how each call changes them.
use Rattle.std.specs.Prelude.{ℕ, ◌≤◌, All, Bool, true, false, cond, ◌&&◌, ◌||◌, List, [], ◌∷◌, ◌++◌, length, drop, nat_lt, slice_index_or, slice_set}
use Rattle.board.specs.declared.packets.Packet.{Packet}

pub record Bearer : Type 0 where
  pub depth : ℕ
  pub cost : ℕ
  pub waiting : List Packet
  pub armed : Bool
  pub signal : Bool

-- what stands for a bearer that the board does not show
abbrev pub absent : Bearer
absent = record { depth = 0; cost = 0; waiting = []; armed = false; signal = false }

-- what stands for a packet that is not there
abbrev pub blank : Packet
blank = record { number = 0; length = 0; tag = 0 }

-- the bearer of this number
abbrev pub bearer_of : List Bearer → ℕ → Bearer
bearer_of bs b = slice_index_or bs b absent

-- what holds of each bearer, at all times
pub record IsBearer (x : Bearer) : Type 0 where
  pub shallow : x.depth ≤ 256
  pub priced : 1 ≤ x.cost
  pub cheap : x.cost ≤ 2000
  pub within : length x.waiting ≤ x.depth

-- what holds of a board, at all times
pub record IsBoard (bs : List Bearer) : Type 0 where
  pub some : 1 ≤ length bs
  pub few : length bs ≤ 8
  pub each : All IsBearer bs

-- one bearer is changed, and no other; for a bearer that is not shown, none is
abbrev pub changed : List Bearer → ℕ → (Bearer → Bearer) → List Bearer
changed bs b f = slice_set bs b (f (bearer_of bs b))

-- whether a line of packets is shorter than its room
abbrev pub any_room : List Packet → ℕ → Bool
any_room ps depth = nat_lt (length ps) depth

abbrev pub has_room : Bearer → Bool
has_room x = any_room x.waiting x.depth

-- whether anything is in a list
abbrev pub any_in : {A : Type 0} → List A → Bool
any_in xs = nat_lt 0 (length xs)

-- with room, the packet goes to the back, and the signal goes up if the bearer is armed
abbrev pub after_offer : Packet → Bearer → Bearer
after_offer p x =
    cond (has_room x)
    (record { depth = x.depth; cost = x.cost; waiting = x.waiting ++ p ∷ []; armed = x.armed; signal = x.signal || x.armed })
    x

-- the oldest packet leaves; if none is left, the signal goes down
abbrev pub after_take : Bearer → Bearer
after_take x =
    record {
      depth = x.depth;
      cost = x.cost;
      waiting = drop 1 x.waiting;
      armed = x.armed;
      signal = x.signal && any_in (drop 1 x.waiting);
    }

-- an armed bearer is as it was; a disarmed one is armed, and its signal is down if nothing waits, and otherwise up if its kind raises it then
abbrev pub after_arm : Bool → Bearer → Bearer
after_arm raises x =
    cond x.armed
    x
    (record { depth = x.depth; cost = x.cost; waiting = x.waiting; armed = true; signal = any_in x.waiting && raises })

abbrev pub after_disarm : Bearer → Bearer
after_disarm x = record { depth = x.depth; cost = x.cost; waiting = x.waiting; armed = false; signal = false }
