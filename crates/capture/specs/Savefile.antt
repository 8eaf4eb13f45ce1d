-- What a libpcap savefile holds.
use Rattle.std.specs.Prelude.{ℕ, ◌+◌, ◌-◌, ◌*◌, Bool, cond, ◌&&◌, List, length, Some, None, Ok, Err, Option, Result, ◌==◌, nat_le, nat_lt}
use Rattle.capture.specs.declared.orders.ByteOrder.{ByteOrder}
use Rattle.capture.specs.declared.orders.ByteOrder.TheVariants.{Big, Little}
use Rattle.capture.specs.declared.packets.Captured.{Captured}
use Rattle.capture.specs.declared.packets.Record.{Record}
use Rattle.capture.specs.declared.refusals.Refusal.{Refusal}
use Rattle.capture.specs.declared.refusals.Refusal.TheVariants.{NoHeader, PastEnd, NoData}
use Rattle.capture.specs.Contents.{Contents, Split, contents_within}
use Rattle.capture.specs.Numbers.{byte, half, word}

-- The records from an offset on: the file, its byte order, and the offset.
pub record Records : Type 0 where
  pub bytes : List ℕ
  pub order : ByteOrder
  pub at : ℕ

-- The record at the offset: a header of four 32-bit numbers, and the data.
abbrev pub seconds : Records → ℕ
seconds r = word r.order r.bytes r.at

abbrev pub micros : Records → ℕ
micros r = word r.order r.bytes (r.at + 4)

abbrev pub captured_length : Records → ℕ
captured_length r = word r.order r.bytes (r.at + 8)

abbrev pub original_length : Records → ℕ
original_length r = word r.order r.bytes (r.at + 12)

-- the first octet of the data names the bearer, and was not on the air
abbrev pub bearer : Records → ℕ
bearer r = byte r.bytes (r.at + 16)

abbrev pub stamp : Records → ℕ
stamp r = seconds r * 1000000 + micros r

abbrev pub packet : Records → Captured
packet r = record { bearer = bearer r; length = original_length r - 1; microseconds = stamp r }

-- where the next record begins
abbrev pub end : Records → ℕ
end r = r.at + 16 + captured_length r

abbrev pub first_record : Records → Record
first_record r = record { at = r.at; packet = packet r }

-- the record and those behind it, or the first check that it fails; one whose header is cut runs past the end too
abbrev pub split_first : Records → Split Records
split_first r =
    cond (nat_le (length r.bytes) r.at) (Ok None)
    (cond (nat_lt (length r.bytes) (end r)) (Err (PastEnd r.at))
    (cond (captured_length r == 0) (Err (NoData r.at))
    (Ok (Some (first_record r, record r { at = end r })))))

-- a header is 24 bytes that begin with the magic, then 2 and 4, all in one byte order
abbrev pub opens : List ℕ → ByteOrder → Bool
opens bs o = word o bs 0 == 0xA1B2C3D4 && (half o bs 4 == 2 && half o bs 6 == 4)

abbrev pub header_order : List ℕ → Option ByteOrder
header_order bs = cond (nat_lt (length bs) 24) None (cond (opens bs Big) (Some Big) (cond (opens bs Little) (Some Little) None))

-- the records begin behind the header
abbrev pub records_in : List ℕ → Option ByteOrder → Result Records Refusal
records_in bs None = Err NoHeader
records_in bs (Some o) = Ok (record { bytes = bs; order = o; at = 24 })

abbrev pub all_records : List ℕ → Result Records Refusal
all_records bs = records_in bs (header_order bs)

-- no record is without bytes, so there are at most as many as bytes are left
abbrev pub contents_from : Records → Contents
contents_from r = contents_within split_first (length r.bytes - r.at) r

abbrev pub contents_of : Result Records Refusal → Result Contents Refusal
contents_of (Ok r) = Ok (contents_from r)
contents_of (Err f) = Err f

abbrev pub contents : List ℕ → Result Contents Refusal
contents bs = contents_of (all_records bs)
