-- Numbers as a file holds them, in either byte order.
use Rattle.std.specs.Prelude.{ℕ, ◌+◌, ◌*◌, List, slice_index}
use Rattle.capture.specs.declared.orders.ByteOrder.{ByteOrder}
use Rattle.capture.specs.declared.orders.ByteOrder.TheVariants.{Big, Little}

-- the byte at a place; past the end of the file a byte reads as 0
abbrev pub byte : List ℕ → ℕ → ℕ
byte bs i = slice_index bs i

-- 16 bits
abbrev pub half : ByteOrder → List ℕ → ℕ → ℕ
half Big bs i = byte bs i * 256 + byte bs (i + 1)
half Little bs i = byte bs i + byte bs (i + 1) * 256

-- 32 bits
abbrev pub word : ByteOrder → List ℕ → ℕ → ℕ
word Big bs i = byte bs i * 16777216 + byte bs (i + 1) * 65536 + byte bs (i + 2) * 256 + byte bs (i + 3)
word Little bs i = byte bs i + byte bs (i + 1) * 256 + byte bs (i + 2) * 65536 + byte bs (i + 3) * 16777216
