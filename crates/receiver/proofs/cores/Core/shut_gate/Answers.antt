use Rattle.std.proofs.Common.{arith, sym, ap, ◌∙◌, List}
use Rattle.board.specs.Bearers.{Bearer, after_disarm}
use Rattle.machine.specs.Moves.{shut_gate}
use Rattle.receiver.proofs.Each.{all_changed}
use Rattle.receiver.proofs.cores.Core.shut_gate.Goals as goal

pub returns : goal.returns
unfolding shut_gate
returns g c = record {
  after = sym (c.loop-bearer.invariant.1 ∙ ap (λ (bs : List Bearer). record c.loop-bearer.self { bearers = bs }) (all_changed after_disarm c.loop-bearer.bearer c.loop-bearer.self.bearers (grind arith)));
}
