-- Where a line's comment begins.
use Rattle.std.proofs.Common.{◌≡◌, ℕ, Bool, List, take, Some, None, Option, arith}
use Rattle.std.proofs.lemmas.Bool.Decides.{nat_tests}
use Rattle.std.proofs.lemmas.List.{take_all}
use Rattle.std.specs.List.{before_first, position}

module _ (p : ℕ → Bool) (xs : List ℕ) (r : Option ℕ) (h : r ≡ position p xs) where
  pub up_to : (n : ℕ) → r ≡ Some n → take n xs ≡ before_first p xs
  up_to n e = grind (arith, nat_tests)

  pub whole : r ≡ None → xs ≡ before_first p xs
  whole e = grind (arith, nat_tests, take_all)
