use Rattle.std.proofs.Common.{rules}
use Rattle.replay.proofs.Turning.{finished, stepped}
use Rattle.replay.proofs.stages.Stage.turn.Goals as goal

pub returns-then-is_through : goal.returns-then-is_through
returns-then-is_through g c = record { value = finished g.P.Policy.meaning c.args.self.now (search rules) (search rules) c.finish.result c.finish.new.self (search rules) c.finish.ensures.after }

pub returns-in-Ok : goal.returns-in-Ok
returns-in-Ok g c = record { value = stepped g.P.Policy.meaning c.args.self.now (search rules) (search rules) (search rules) c.in-Ok.decision c.step.new.self (search rules) (search rules) }
