use Rattle.std.proofs.Common.{rules, tests, ◌≡◌, sym, subst}
use Rattle.std.specs.Str.Parse.{ParsesUnsigned}
use Rattle.script.proofs.Numerals.{parsed_number, no_text, no_number}
use Rattle.script.proofs.numbers.number.Goals as goal

pub returns-in-Ok : goal.returns-in-Ok
returns-in-Ok c =
    let w = c.args.word.now in
    let e : c.in-Ok.digits.now ≡ w = search rules in
    let p : ParsesUnsigned 64 10 w c.parse.result = subst (λ v. ParsesUnsigned 64 10 v c.parse.result) e c.parse.ensures.value.0 in
    record { value = parsed_number w c.parse.result c.map_err.result (search rules) p (search (rules, tests)) }

pub returns-in_default-2 : goal.returns-in_default-2
returns-in_default-2 c =
    let w = c.args.word.now in
    let e = c.from_utf8.ensures.cases in
    record { value = sym (no_number w (no_text w (search rules))) }
