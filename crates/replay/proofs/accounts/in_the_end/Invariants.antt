use Rattle.std.proofs.Common.{◌≡◌, ◌++◌, drop, vec_items}
use Rattle.replay.specs.Fates.{all_in_the_end}
use Rattle.replay.proofs.accounts.in_the_end.Given as goal

-- what is written and what is left give the whole
abbrev pub invariant-loop-number : goal.invariant-loop-number
invariant-loop-number l =
    vec_items l.all ++ all_in_the_end l.report.counts.numbered l.report.closed l.number (drop l.number l.fates)
    ≡ all_in_the_end l.report.counts.numbered l.report.closed 0 l.fates
