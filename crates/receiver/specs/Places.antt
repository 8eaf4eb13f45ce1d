-- Where a number stands in a list, first.
use Rattle.std.specs.Prelude.{◌≡◌, ℕ, ◌<◌, true, false, List, length, Some, None, Option, remove}
use Rattle.machine.specs.Numbers.{holds, without}

-- at i it stands first, so that taking it out there is taking out its first
abbrev pub StandsAt : ℕ → List ℕ → Option ℕ → Type 0
StandsAt n xs None = holds n xs ≡ false
StandsAt n xs (Some i) = (i < length xs) × (holds n xs ≡ true) × (remove xs i ≡ without n xs)
