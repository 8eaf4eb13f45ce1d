-- A savefile as a tool writes it, and what the rules ask of one.
use Rattle.std.specs.Prelude.{◌≡◌, ℕ, ◌+◌, ◌-◌, ◌*◌, ◌/◌, ◌%◌, ◌^◌, ◌<◌, ◌≤◌, List, [], ◌∷◌, ◌++◌, map, length, All}
use Rattle.std.specs.List.{flat_map}
use Rattle.capture.specs.declared.orders.ByteOrder.{ByteOrder}
use Rattle.capture.specs.declared.orders.ByteOrder.TheVariants.{Big, Little}
use Rattle.capture.specs.declared.packets.Captured.{Captured}
use Rattle.capture.specs.Captures.{first_stamp}
use Rattle.capture.specs.Limits.{IsAdmissible}

-- the bytes of a number of 16 bits, and of one of 32 bits
abbrev pub two : ByteOrder → ℕ → List ℕ
two Big n = n / 256 ∷ n % 256 ∷ []
two Little n = n % 256 ∷ n / 256 ∷ []

abbrev pub four : ByteOrder → ℕ → List ℕ
four Big n = n / 16777216 ∷ n / 65536 % 256 ∷ n / 256 % 256 ∷ n % 256 ∷ []
four Little n = n % 256 ∷ n / 256 % 256 ∷ n / 65536 % 256 ∷ n / 16777216 ∷ []

-- a record to write: `bearer` is the first octet of its data, and `others` are those behind it
pub record Note : Type 0 where
  pub seconds : ℕ
  pub micros : ℕ
  pub original : ℕ
  pub bearer : ℕ
  pub others : List ℕ

abbrev pub note_bytes : ByteOrder → Note → List ℕ
note_bytes o x =
    four o x.seconds
    ++ (four o x.micros ++ (four o (length x.others + 1) ++ (four o x.original ++ (x.bearer ∷ x.others))))

-- a file to write; `unread` are the bytes of the header behind magic and version
pub record File : Type 0 where
  pub order : ByteOrder
  pub unread : List ℕ
  pub notes : List Note

abbrev pub file_bytes : File → List ℕ
file_bytes f =
    four f.order 0xA1B2C3D4
    ++ (two f.order 2 ++ (two f.order 4 ++ (f.unread ++ flat_map (note_bytes f.order) f.notes)))

-- `original` counts the bearer's octet too
abbrev pub packet : Note → Captured
packet x = record { bearer = x.bearer; length = x.original - 1; microseconds = x.seconds * 1000000 + x.micros }

-- the packets that a file tells of
abbrev pub packets : File → List Captured
packets f = map packet f.notes

-- its times can be written; its lengths can, where the rules are kept
pub record IsWritable (x : Note) : Type 0 where
  pub seconds : x.seconds < 2 ^ 32
  pub micros : x.micros < 2 ^ 32

-- what the rules ask of a file, for a board that shows so many bearers
pub record KeepsRules (shown : ℕ) (f : File) : Type 0 where
  pub header : length f.unread ≡ 16
  pub small : length (file_bytes f) ≤ 65536
  pub few : length f.notes ≤ 1024
  pub writable : All IsWritable f.notes
  pub admissible : All (IsAdmissible shown (first_stamp (packets f))) (packets f)
