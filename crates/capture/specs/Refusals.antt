-- The number and the place of each refusal, and the reason in words.
use Rattle.std.specs.Prelude.{ℕ, List, codes}
use Rattle.capture.specs.declared.refusals.Refusal.{Refusal}
use Rattle.capture.specs.declared.refusals.Refusal.TheVariants.{TooLong, NoHeader, PastEnd, NoData, NotShown, TooMany, TooLate, BadLength}

abbrev pub number : Refusal → ℕ
number TooLong = 9
number NoHeader = 10
number (PastEnd at) = 11
number (NoData at) = 12
number (NotShown at) = 13
number (TooMany at) = 14
number (TooLate at) = 15
number (BadLength at) = 16

-- the offset of the record at fault, or 0
abbrev pub place : Refusal → ℕ
place TooLong = 0
place NoHeader = 0
place (PastEnd at) = at
place (NoData at) = at
place (NotShown at) = at
place (TooMany at) = at
place (TooLate at) = at
place (BadLength at) = at

abbrev pub reason : Refusal → List ℕ
reason TooLong = codes "it is longer than 65,536 bytes"
reason NoHeader = codes "it does not begin with a savefile's header"
reason (PastEnd at) = codes "a record runs past the end of the file"
reason (NoData at) = codes "a record has no captured data"
reason (NotShown at) = codes "a record's bearer is not shown"
reason (TooMany at) = codes "it has more than 1,024 packets"
reason (TooLate at) = codes "a packet is a second or more after the first"
reason (BadLength at) = codes "a packet's length is not 1 to 384 octets"
