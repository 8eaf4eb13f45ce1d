use Rattle.std.proofs.Common.{◌≡◌, vec_items}
use Rattle.ring.specs.Queue.{ring_elements, ring_capacity}
use Rattle.replay.proofs.Falls.{fall}
use Rattle.replay.proofs.Going.{Going}
use Rattle.replay.proofs.runs.run.Given as goal

-- the turns made so far, and what is written down of them
abbrev pub invariant-loop-decision : goal.invariant-loop-decision
invariant-loop-decision g l = record {
  going : Going g.P.Policy.meaning (g.B.Board.bearers l.fn.board) l.packets l.fn.policy l.turns l.stage (vec_items l.fates) (ring_elements l.records);
  room : ring_capacity l.records ≡ 1000;
}

abbrev pub decreases-loop-decision : goal.decreases-loop-decision
decreases-loop-decision g l = fall l.stage.stage
