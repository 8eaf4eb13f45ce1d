use Rattle.std.proofs.Common.{◌≡◌, map, length, take, drop}
use Rattle.script.specs.Numbers.{numbers}
use Rattle.script.proofs.Counted.{behind}
use Rattle.script.proofs.numbers.numbers.Given as goal

-- what is read so far, and then the rest
abbrev pub invariant-loop-index : goal.invariant-loop-index
invariant-loop-index g l =
    (length l.numbers ≡ g.row.N)
    × (numbers (map (λ w. w.now) l.words) ≡ behind (take l.index l.numbers) (numbers (map (λ w. w.now) (drop l.index l.words))))
