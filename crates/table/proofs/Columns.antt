-- A row, field by field.
use Rattle.std.proofs.Common.{◌≡◌, ℕ, ◌+◌, ◌-◌, ◌<◌, List, [], ◌∷◌, ◌++◌, length, get_or, drop, sum_by, refl, ap, arith}
use Rattle.std.specs.List.{between}
use Rattle.std.proofs.lemmas.List.{at_drop_more, length-append, take_all}
use Rattle.std.proofs.lemmas.List.Sums.{sum_by-cons}
use Rattle.std.proofs.lemmas.Slice.{first_rest}
use Rattle.table.specs.declared.fields.Field.{Field}
use Rattle.table.specs.declared.fields.Field.TheVariants.{Number}
use Rattle.table.specs.Text.{field, further, row}
use Rattle.table.proofs.Places.{written_written}

-- the field at i of those that there are
abbrev pub at : List Field → ℕ → Field
at fs i = get_or fs i (Number 0)

pub row_first : (fs : List Field) → 0 < length fs → row fs ≡ field (at fs 0) ++ further (between 1 (length fs) fs)
row_first fs some = ap row (first_rest fs (Number 0) some)

pub further_more : (fs : List Field) (i : ℕ) → i < length fs → further (drop i fs) ≡ 44 ∷ field (at fs i) ++ further (drop (i + 1) fs)
further_more fs i more = at_drop_more further fs i (Number 0) more

-- what a row that is written field by field needs
pub ruleset columns = (row_first, further_more, written_written, length-append)

abbrev pub field_len : Field → ℕ
field_len f = length (field f)

-- a row has its fields, a comma between two of them, and its end
length-further : (fs : List Field) → length (further fs) ≡ length fs + 2 + sum_by field_len fs
length-further [] = refl
length-further (f ∷ fs) =
    omega (arith, length-append (field f) (further fs), sum_by-cons field_len f fs, length-further fs)

pub length-row : (fs : List Field) → length (row fs) ≡ length fs - 1 + 2 + sum_by field_len fs
length-row [] = refl
length-row (f ∷ fs) = omega (arith, length-append (field f) (further fs), sum_by-cons field_len f fs, length-further fs)

-- what a count of all fields needs
pub ruleset lengths = (length-row, take_all)
