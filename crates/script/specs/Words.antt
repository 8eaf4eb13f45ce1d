-- How a text is cut into lines, and a line into words.
use Rattle.std.specs.Prelude.{ℕ, Bool, ◌||◌, List, length, filter, ◌==◌, nat_lt}
use Rattle.std.specs.List.{slice_split, before_first}
use Rattle.std.specs.Str.Lines.{strip_carriage_return}

-- the lines of a text stand between its line feeds
abbrev pub lines : List ℕ → List (List ℕ)
lines text = slice_split (λ b. b == 10) text

-- a comment begins at the first `#`, and goes on to the line's end
abbrev pub without_comment : List ℕ → List ℕ
without_comment line = before_first (λ b. b == 35) line

-- a space or a tab
abbrev pub is_blank : ℕ → Bool
is_blank b = b == 32 || b == 9

abbrev pub is_some_text : List ℕ → Bool
is_some_text bs = nat_lt 0 (length bs)

-- the words of a line stand between its blanks; one carriage return at the line's end is passed over
abbrev pub words : List ℕ → List (List ℕ)
words line = filter is_some_text (slice_split is_blank (without_comment (strip_carriage_return line)))
