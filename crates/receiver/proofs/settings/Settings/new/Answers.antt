use Rattle.std.proofs.Common.{◌≡◌, true, false, nat_lt, arith, refl}
use Rattle.std.proofs.lemmas.Bool.Decides.{nat_tests}
use Rattle.machine.specs.Checks.{in_range}
use Rattle.receiver.proofs.settings.Settings.new.Goals as goal

pub returns-then-not-contains-4 : goal.returns-then-not-contains-4
returns-then-not-contains-4 c =
    let n = c.args.numbers in
    let period : in_range 1000 1000000000 n.period ≡ true = grind (arith, nat_tests) in
    let limit : in_range 1 n.period n.limit ≡ true = grind (arith, nat_tests) in
    let size : in_range 1 64 n.size ≡ true = grind (arith, nat_tests) in
    let high : in_range 1 n.size n.high ≡ false = grind (arith, nat_tests) in
    rw (period, limit, size, high) (record { value = tt; first = refl })

pub returns-then-not-contains-5 : goal.returns-then-not-contains-5
returns-then-not-contains-5 c =
    let n = c.args.numbers in
    let period : in_range 1000 1000000000 n.period ≡ true = grind (arith, nat_tests) in
    let limit : in_range 1 n.period n.limit ≡ true = grind (arith, nat_tests) in
    let size : in_range 1 64 n.size ≡ true = grind (arith, nat_tests) in
    let high : in_range 1 n.size n.high ≡ true = grind (arith, nat_tests) in
    let low : nat_lt n.low n.high ≡ true = grind (arith, nat_tests) in
    let hold : in_range 1 1000 n.hold ≡ false = grind (arith, nat_tests) in
    rw (period, limit, size, high, low, hold) (record { value = tt; first = refl })
