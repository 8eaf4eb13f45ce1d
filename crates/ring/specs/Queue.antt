-- What a queue in slots holds.
use Rattle.std.specs.Prelude.{ℕ, ◌+◌, ◌-◌, min, Bool, cond, List, ◌++◌, length, take, drop, nat_lt}
use Rattle.ring.specs.declared.cursors.Cursor.{Cursor}
use Rattle.ring.specs.declared.rings.Ring.{Ring}

-- the order in which a queue goes through its slots: from h on, and then those before h
unfoldable pub turned : {X : Type 0} → List X → ℕ → List X
turned s h = drop h s ++ take h s

-- where in c slots the i-th of that order lies
abbrev pub turned_place : ℕ → ℕ → ℕ → ℕ
turned_place c h i = cond (nat_lt i (c - h)) (h + i) (i - (c - h))

-- the elements that a queue holds, oldest first: those of its slots that are used
abbrev pub elements : {X : Type 0} → List X → Cursor → List X
elements s q = take q.len (turned s q.head)

-- whether a slot is free
abbrev pub any_free : {X : Type 0} → List X → Cursor → Bool
any_free s q = nat_lt (length (elements s q)) (length s)

-- the slots that a ring uses, and those that it leaves alone
abbrev pub usable : {X : Type 0} {most : ℕ} → Ring X most → List X
usable {X} {most} r = take most r.slots.now

abbrev pub beyond : {X : Type 0} {most : ℕ} → Ring X most → List X
beyond {X} {most} r = drop most r.slots.now

-- how many slots it uses
abbrev pub ring_capacity : {X : Type 0} {most : ℕ} → Ring X most → ℕ
ring_capacity {X} {most} r = min most (length r.slots.now)

-- the elements that it holds, oldest first
abbrev pub ring_elements : {X : Type 0} {most : ℕ} → Ring X most → List X
ring_elements r = elements (usable r) r.cursor

-- whether it has a slot free
abbrev pub has_room : {X : Type 0} {most : ℕ} → Ring X most → Bool
has_room r = nat_lt (length (ring_elements r)) (ring_capacity r)
