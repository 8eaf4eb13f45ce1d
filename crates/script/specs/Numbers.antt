-- The numbers that words write.
use Rattle.std.specs.Prelude.{ℕ, ◌^◌, Bool, false, cond, List, [], ◌∷◌, length, Ok, Err, Result, ◌==◌, nat_lt}
use Rattle.std.specs.Char.{is_ascii_digit}
use Rattle.std.specs.List.{list_all}
use Rattle.std.specs.Str.Parse.{digits_value}
use Rattle.script.specs.declared.faults.Fault.{Fault}
use Rattle.script.specs.declared.faults.Fault.TheVariants.{WrongCount, NotANumber, TooLarge}

abbrev pub below : ℕ → ℕ → Result ℕ Fault
below bound n = cond (nat_lt n bound) (Ok n) (Err TooLarge)

-- a number is decimal digits, one or more
abbrev pub is_number : List ℕ → Bool
is_number [] = false
is_number (c ∷ cs) = list_all is_ascii_digit (c ∷ cs)

-- and takes 64 bits at the most
abbrev pub number : List ℕ → Result ℕ Fault
number word = cond (is_number word) (below (2 ^ 64) (digits_value 10 word)) (Err NotANumber)

abbrev pub before : Result ℕ Fault → Result (List ℕ) Fault → Result (List ℕ) Fault
before (Err f) more = Err f
before (Ok n) (Err f) = Err f
before (Ok n) (Ok ns) = Ok (n ∷ ns)

-- all the numbers, or the first fault
abbrev pub numbers : List (List ℕ) → Result (List ℕ) Fault
numbers [] = Ok []
numbers (word ∷ words) = before (number word) (numbers words)

-- so many numbers, no more and no fewer
abbrev pub exactly : ℕ → List (List ℕ) → Result (List ℕ) Fault
exactly n words = cond (length words == n) (numbers words) (Err (WrongCount n))
