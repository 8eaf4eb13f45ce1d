-- Calls that were written are read back.
use Rattle.std.proofs.Common.{◌≡◌, ℕ, ◌+◌, ◌<◌, ◌^◌, true, ◌&&◌, ltb, List, [], ◌∷◌, get_or, map, All, Some, Ok, Result, Vec, vec_items, decimal, refl, ap, ◌∙◌, subst, arith}
use Rattle.std.specs.declared.alloc.Global.{Global}
use Rattle.std.specs.List.{list_all}
use Rattle.std.proofs.lemmas.Fmt.{decimal_nonempty, digits_decimal, digits_value-decimal}
use Rattle.std.proofs.lemmas.List.Elements.{All-nil, All-cons, All-head, All-tail, All-from_get_or, All-weaker, All-map}
use Rattle.std.proofs.lemmas.Str.Parse.{digit_at}
use Rattle.machine.specs.declared.calls.Call.{Call}
use Rattle.machine.specs.declared.calls.Call.TheVariants.{Configure, Arrive, Step, Work, Fetch, Finish, Discard, Tell}
use Rattle.script.specs.declared.calls.Name.{Name}
use Rattle.script.specs.declared.calls.Name.TheVariants as name
use Rattle.script.specs.declared.faults.ReadError.{ReadError}
use Rattle.script.specs.declared.keywords.Keyword.TheVariants as keyword
use Rattle.script.specs.declared.scripts.Statement.TheVariants as statement
use Rattle.script.specs.Words.{is_some_text, lines}
use Rattle.script.specs.Numbers.{is_number, number, numbers}
use Rattle.script.specs.Calls.{call, configure, arrive, receipt}
use Rattle.script.specs.Keywords.{call_by, call_of, keyword_of}
use Rattle.script.specs.Results.{result_map, result_and_then}
use Rattle.script.specs.Texts.{Meaning, ahead, and_then, from_line, meaning}
use Rattle.script.specs.Readings.{Reads}
use Rattle.script.specs.Script.{Contents, statement_by}
use Rattle.script.specs.Writing.{first_word, numbers_of, calls_text, FitsTypes}
use Rattle.script.proofs.Numerals.{digits, some_digits, less}
use Rattle.script.proofs.Cut.{Plain, Word, line_first, word_by_test, words_of}

decimal_is_number : (n : ℕ) → n < 2 ^ 64 → is_number (decimal n) ≡ true
decimal_is_number n h = some_digits (decimal n) (decimal_nonempty n h) ∙ digits_decimal digits n h

number_decimal : (n : ℕ) → n < 2 ^ 64 → number (decimal n) ≡ Ok n
number_decimal n h = rw (decimal_is_number n h, digits_value-decimal digits n h) (less (2 ^ 64) n h)

pub numbers_decimal : (ns : List ℕ) → All (λ n. n < 2 ^ 64) ns → numbers (map decimal ns) ≡ Ok ns
numbers_decimal [] h = refl
numbers_decimal (n ∷ ns) h =
    rw (number_decimal n (All-head (λ n. n < 2 ^ 64) n ns h), numbers_decimal ns (All-tail (λ n. n < 2 ^ 64) n ns h))

pub decimal_word : (n : ℕ) → n < 2 ^ 64 → Word (decimal n)
decimal_word n h =
    let ds = digits.to (decimal n) (digits_decimal digits n h) in
    record {
      some = decimal_nonempty n h;
      plain = All-from_get_or Plain (decimal n) 0 (λ i l. omega (arith, digit_at (decimal n) i ds l));
    }

first_tests : (c : Call) → (is_some_text (first_word c) && list_all (ltb 35) (first_word c)) ≡ true
first_tests (Configure s) = refl
first_tests (Arrive b n t) = refl
first_tests Step = refl
first_tests (Work n) = refl
first_tests Fetch = refl
first_tests (Finish n) = refl
first_tests (Discard n) = refl
first_tests Tell = refl

pub first_is_word : (c : Call) → Word (first_word c)
first_is_word c = word_by_test (first_word c) (first_tests c)

-- all numbers of a call are below 2^64
wide : (c : Call) → FitsTypes c → All (λ n. n < 2 ^ 64) (numbers_of c)
wide (Configure s) h = h
wide (Arrive b n t) h =
    All-cons (λ n. n < 2 ^ 64) b (n ∷ t ∷ []) h.0 (All-cons (λ n. n < 2 ^ 64) n (t ∷ []) h.1 (All-cons (λ n. n < 2 ^ 64) t [] (omega (arith, h.2)) (All-nil (λ n. n < 2 ^ 64))))
wide Step h = h
wide (Work n) h = h
wide Fetch h = h
wide (Finish n) h = All-cons (λ n. n < 2 ^ 64) n [] (omega (arith, h)) (All-nil (λ n. n < 2 ^ 64))
wide (Discard n) h = All-cons (λ n. n < 2 ^ 64) n [] (omega (arith, h)) (All-nil (λ n. n < 2 ^ 64))
wide Tell h = h

abbrev name_of : Call → Name
name_of (Configure s) = name.Configure
name_of (Arrive b n t) = name.Arrive
name_of Step = name.Step
name_of (Work n) = name.Work
name_of Fetch = name.Fetch
name_of (Finish n) = name.Finish
name_of (Discard n) = name.Discard
name_of Tell = name.Tell

first_is_name : (c : Call) → keyword_of (first_word c) ≡ Some (keyword.Call (name_of c))
first_is_name (Configure s) = refl
first_is_name (Arrive b n t) = refl
first_is_name Step = refl
first_is_name (Work n) = refl
first_is_name Fetch = refl
first_is_name (Finish n) = refl
first_is_name (Discard n) = refl
first_is_name Tell = refl

-- a call's name and numbers give the call
named : (c : Call) → FitsTypes c → call (name_of c) (map decimal (numbers_of c)) ≡ Ok c
named (Configure s) h = ap (result_map configure) (numbers_decimal (numbers_of (Configure s)) (wide (Configure s) h))
named (Arrive b n t) h =
    ap (result_and_then arrive) (numbers_decimal (numbers_of (Arrive b n t)) (wide (Arrive b n t) h))
    ∙ ap (result_map (Arrive b n)) (less (2 ^ 32) t h.2)
named Step h = refl
named (Work n) h = ap (result_map (λ ns. Work (get_or ns 0 0))) (numbers_decimal (numbers_of (Work n)) (wide (Work n) h))
named Fetch h = refl
named (Finish n) h =
    ap (result_and_then (receipt Finish)) (numbers_decimal (numbers_of (Finish n)) (wide (Finish n) h))
    ∙ ap (result_map Finish) (less (2 ^ 32) n h)
named (Discard n) h =
    ap (result_and_then (receipt Discard)) (numbers_decimal (numbers_of (Discard n)) (wide (Discard n) h))
    ∙ ap (result_map Discard) (less (2 ^ 32) n h)
named Tell h = refl

module _ (c : Call) (h : FitsTypes c) where
  pub number_words : All Word (map decimal (numbers_of c))
  number_words = All-map Word decimal (numbers_of c) (All-weaker (λ n. n < 2 ^ 64) (λ n. Word (decimal n)) decimal_word (numbers_of c) (wide c h))

  pub asks : call_by (keyword_of (first_word c)) (map decimal (numbers_of c)) ≡ Ok c
  asks = ap (λ k. call_by k (map decimal (numbers_of c))) (first_is_name c) ∙ named c h

  pub says : (s : Contents) → statement_by s (keyword_of (first_word c)) (map decimal (numbers_of c)) ≡ Ok (statement.Call c)
  says s = ap (λ k. statement_by s k (map decimal (numbers_of c))) (first_is_name c) ∙ ap (result_map statement.Call) (named c h)

from_text : (n : ℕ) (cs : List Call) → All FitsTypes cs → from_line n (lines (calls_text cs)) ≡ Ok cs
from_text n [] h = refl
from_text n (c ∷ cs) h =
    let f = All-head FitsTypes c cs h in
    let ws = number_words c f in
    ap (from_line n) (line_first (first_word c) (map decimal (numbers_of c)) (calls_text cs) (first_is_word c) ws)
    ∙ ap (λ a. and_then n (call_of a) (from_line (n + 1) (lines (calls_text cs)))) (words_of (first_word c) (map decimal (numbers_of c)) (first_is_word c) ws)
    ∙ ap (λ a. and_then n (result_map Some a) (from_line (n + 1) (lines (calls_text cs)))) (asks c f)
    ∙ ap (ahead (c ∷ [])) (from_text (n + 1) cs (All-tail FitsTypes c cs h))

-- what `read` ensures of an answer that is what the text means
pub answers : (text : List ℕ) (r : Result (Vec Call Global) ReadError) → Reads vec_items (meaning text) r → record { value : Reads vec_items (meaning text) r; faithful : (cs : List Call) → All FitsTypes cs → text ≡ calls_text cs → Reads vec_items (Ok cs) r }
answers text r t =
    record {
      value = t;
      faithful = λ cs s e. subst (λ (m : Meaning). Reads vec_items m r) (ap meaning e ∙ from_text 1 cs s) t;
    }
