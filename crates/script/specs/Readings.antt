-- When a host's answer is what a text means.
use Rattle.std.specs.Prelude.{◌≡◌, Ok, Err, Result}
use Rattle.script.specs.declared.faults.ReadError.{ReadError}
use Rattle.script.specs.declared.faults.ReadError.TheVariants as error
use Rattle.script.specs.declared.faults.Unread.{Unread}

-- want of memory says nothing of the text
abbrev pub Reads : {A B : Type 0} → (A → B) → Result B Unread → Result A ReadError → Type 0
Reads view m (Ok x) = m ≡ Ok (view x)
Reads view m (Err (error.Unread u)) = m ≡ Err u
Reads view m (Err error.NoMemory) = Unit {0}
