use Rattle.std.proofs.Common.{◌≡◌, ◌≤◌, drop, fold}
use Rattle.replay.specs.declared.fates.Fallen.{Fallen}
use Rattle.replay.specs.Answers.{one_more, counted}
use Rattle.replay.proofs.answers.FateCounts.of.Given as goal

-- those counted so far, and what is left to count, give the whole; no count is above what was counted
abbrev pub invariant-loop-fallen : goal.invariant-loop-fallen
invariant-loop-fallen l = record {
  counts : fold (λ n (f : Fallen). one_more f.fate n) l.counts (drop l.fallen-index l.outcomes) ≡ counted l.outcomes;
  delivered : l.counts.delivered ≤ l.fallen-index;
  bearer_full : l.counts.bearer_full ≤ l.fallen-index;
  queue_full : l.counts.queue_full ≤ l.fallen-index;
  waiting : l.counts.waiting ≤ l.fallen-index;
  pending : l.counts.pending ≤ l.fallen-index;
}
