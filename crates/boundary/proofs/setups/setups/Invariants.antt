use Rattle.std.proofs.Common.{◌≡◌, ◌++◌, drop, length, take}
use Rattle.std.specs.Option.{option_map}
use Rattle.boundary.specs.Setups.{setups_of}
use Rattle.boundary.proofs.setups.setups.Given as goal

-- what is converted and what is left give the whole
abbrev pub invariant-loop-number : goal.invariant-loop-number
invariant-loop-number l =
    (length l.setups ≡ 8)
    × (option_map (λ rest. take l.number l.setups ++ rest) (setups_of (drop l.number l.bearers)) ≡ setups_of l.bearers)
