-- What is printed of a capture.
use Rattle.std.specs.Prelude.{ℕ, ◌+◌, ◌-◌, List, [], ◌∷◌, length, Ok, Err, Result}
use Rattle.capture.specs.declared.packets.Captured.{Captured}
use Rattle.capture.specs.declared.refusals.Refusal.{Refusal}
use Rattle.capture.specs.Captures.{Meaning, first_stamp}
use Rattle.capture.specs.Refusals.{number, place}
use Rattle.table.specs.declared.fields.Field.{Field}
use Rattle.table.specs.declared.fields.Field.TheVariants as field
use Rattle.table.specs.declared.fields.Word.TheVariants.{Packet, Bearer, Length, Microseconds}
use Rattle.table.specs.Text.{row, table}

abbrev pub heading : List Field
heading = field.Word Packet ∷ field.Word Bearer ∷ field.Word Length ∷ field.Word Microseconds ∷ []

-- microseconds count from the first packet's timestamp, and are 0 before it
abbrev pub row_of_record : ℕ → ℕ → Captured → List Field
row_of_record index first p =
    field.Number index ∷ field.Number p.bearer ∷ field.Number p.length ∷ field.Number (p.microseconds - first) ∷ []

-- a row for each packet, counted from `index`
abbrev pub record_rows : ℕ → ℕ → List Captured → List (List Field)
record_rows index first [] = []
record_rows index first (p ∷ ps) = row_of_record index first p ∷ record_rows (index + 1) first ps

abbrev pub records : List Captured → List (List Field)
records ps = heading ∷ record_rows 0 (first_stamp ps) ps

-- of a refused capture the refusal's number and place, as a row
abbrev pub refusal_row : Refusal → List ℕ
refusal_row f = row (field.Number (number f) ∷ field.Number (place f) ∷ [])

-- otherwise the table
abbrev pub printed : Meaning → List ℕ
printed (Ok ps) = table (records ps)
printed (Err f) = refusal_row f

-- how many packets there are, or the refusal
abbrev pub counted : Meaning → Result ℕ Refusal
counted (Ok ps) = Ok (length ps)
counted (Err f) = Err f
