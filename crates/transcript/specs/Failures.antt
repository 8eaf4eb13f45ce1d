-- Why a text of calls has no answers.
use Rattle.std.specs.Prelude.{ℕ, List, codes}
use Rattle.script.specs.Refusals.{unread_text}
use Rattle.script.specs.declared.faults.ReadError.{ReadError}
use Rattle.script.specs.declared.faults.ReadError.TheVariants as error
use Rattle.transcript.specs.declared.failures.Failure.{Failure}
use Rattle.transcript.specs.declared.failures.Failure.TheVariants.{TooLong, Unread, NoMemory}

-- why it could not be read
abbrev pub failure_of : ReadError → Failure
failure_of (error.Unread u) = Unread u
failure_of error.NoMemory = NoMemory

-- what is said of that
abbrev pub failure_text : Failure → List ℕ
failure_text TooLong = codes "the text is above 1048576 bytes"
failure_text (Unread u) = unread_text u
failure_text NoMemory = codes "out of memory"
