-- Lists of numbers, of packets and of bearers.
use Rattle.std.specs.Prelude.{ℕ, ◌+◌, Bool, cond, List, [], ◌∷◌, ◌==◌}
use Rattle.std.specs.List.{list_any}

-- whether a number is in a list
abbrev pub holds : ℕ → List ℕ → Bool
holds n = list_any (λ m. m == n)

-- how often it is
abbrev pub times : ℕ → List ℕ → ℕ
times n [] = 0
times n (m ∷ ms) = cond (m == n) 1 0 + times n ms

-- a list without a number's first place
abbrev pub without : ℕ → List ℕ → List ℕ
without n [] = []
without n (m ∷ ms) = cond (m == n) ms (m ∷ without n ms)
