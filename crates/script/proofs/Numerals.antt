-- Words that write numbers.
use Rattle.std.proofs.Common.{◌≡◌, ℕ, ◌<◌, ◌≤◌, ◌^◌, true, false, List, [], ◌∷◌, length, Ok, Err, Result, MatchResult, refl, sym, ◌∙◌, ⊎_elim, arith, rules}
use Rattle.std.proofs.lemmas.Bool.{cases_lt, false≢true}
use Rattle.std.proofs.lemmas.Bool.Decides.{nat_tests}
use Rattle.std.proofs.lemmas.Fmt.{IsAscii-from_digits}
use Rattle.std.proofs.lemmas.Str.{IsUtf8-from_ascii}
use Rattle.std.proofs.lemmas.Str.Parse.{IsNumeralModel, numerals_by_value, parse_digits}
use Rattle.std.specs.Char.{is_ascii_digit}
use Rattle.std.specs.List.{list_all}
use Rattle.std.specs.Str.{IsUtf8}
use Rattle.std.specs.Str.Parse.{ParsesUnsigned, digits_value}
use Rattle.script.specs.declared.faults.Fault.{Fault}
use Rattle.script.specs.declared.faults.Fault.TheVariants.{NotANumber, TooLarge}
use Rattle.script.specs.Numbers.{below, is_number, number}

pub digits : IsNumeralModel (λ ds. list_all is_ascii_digit ds ≡ true) (digits_value 10)
digits = numerals_by_value _ (search rules)

-- of a word that is not empty, only the digits are asked
pub some_digits : (w : List ℕ) → 0 < length w → is_number w ≡ list_all is_ascii_digit w
some_digits [] h = absurd (omega (arith, h))
some_digits (c ∷ cs) h = refl

all_digits : (w : List ℕ) → is_number w ≡ true → (0 < length w) × (list_all is_ascii_digit w ≡ true)
all_digits [] h = absurd (false≢true h)
all_digits (c ∷ cs) h = (omega arith, h)

number_utf8 : (w : List ℕ) → is_number w ≡ true → IsUtf8 w
number_utf8 w h = IsUtf8-from_ascii w (IsAscii-from_digits w (digits.to w ((all_digits w h).1)))

-- what is not text is no number
pub no_text : (w : List ℕ) → ¬ (IsUtf8 w) → is_number w ≡ false
no_text w h = elim (is_number w) as (λ b. is_number w ≡ b → b ≡ false) [ true ↦ λ e. absurd (h (number_utf8 w e)) | false ↦ λ e. refl ] refl

pub no_number : (w : List ℕ) → is_number w ≡ false → number w ≡ Err NotANumber
no_number w h = rw h

pub less : (bound n : ℕ) → n < bound → below bound n ≡ Ok n
less bound n h = grind (arith, nat_tests)

more : (bound n : ℕ) → bound ≤ n → below bound n ≡ Err TooLarge
more bound n h = grind (arith, nat_tests)

-- what `parse` answers for a number's digits
parsed : {E : Type 0} (w : List ℕ) (r : Result ℕ E) → is_number w ≡ true → ParsesUnsigned 64 10 w r → MatchResult r (λ n. number w ≡ Ok n) (λ e. number w ≡ Err TooLarge)
parsed {E} w (Ok n) h p =
    let ds = all_digits w h in
    let q : ((0 < length w) × (digits_value 10 w < 2 ^ 64)) × (n ≡ digits_value 10 w) = parse_digits digits {E = E} 64 w (Ok n) p ds.1 in
    rw (h, q.1) (less (2 ^ 64) (digits_value 10 w) q.0.1)
parsed {E} w (Err e) h p =
    let ds = all_digits w h in
    let q : ¬ ((0 < length w) × (digits_value 10 w < 2 ^ 64)) = parse_digits digits {E = E} 64 w (Err e) p ds.1 in
    rw h (⊎_elim (λ l. absurd (q (ds.0, l))) (λ m. more (2 ^ 64) (digits_value 10 w) m) (cases_lt (digits_value 10 w) (2 ^ 64)))

-- what `number` answers of it
pub parsed_number : {E : Type 0} (w : List ℕ) (r : Result ℕ E) (s : Result ℕ Fault) → is_number w ≡ true → ParsesUnsigned 64 10 w r → MatchResult r (λ n. s ≡ Ok n) (λ e. s ≡ Err TooLarge) → s ≡ number w
parsed_number {E} w (Ok n) s h p e = e ∙ sym (parsed {E = E} w (Ok n) h p)
parsed_number {E} w (Err x) s h p e = e ∙ sym (parsed {E = E} w (Err x) h p)
