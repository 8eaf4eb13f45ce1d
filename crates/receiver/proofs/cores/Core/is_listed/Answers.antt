use Rattle.std.proofs.Common.{arith, sym, ◌∙◌}
use Rattle.receiver.proofs.Searches.{held_here, held_further}
use Rattle.receiver.proofs.cores.Core.is_listed.Goals as goal

pub returns-then-eq : goal.returns-then-eq
returns-then-eq g c = record { value = sym (c.loop-i.invariant ∙ held_here c.args.bearer c.args.self.now.listed c.loop-i.i (grind arith)) }

pub loop-i-preserved : goal.loop-i-preserved
loop-i-preserved g c = c.loop-i.invariant ∙ held_further c.args.bearer c.args.self.now.listed c.loop-i.i (grind arith) (grind arith)
