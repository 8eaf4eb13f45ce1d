use Rattle.board.proofs.Loopbacks.{loops_after}
use Rattle.board.proofs.boards.loopback.Goals as goal

pub returns-clause-after : goal.returns-clause-after
returns-clause-after g c =
    let armed = c.arm.ensures.after in
    loops_after _ _ _ _ _ c.args.bearer c.args.packet armed.0 armed.1 c.offer.ensures.after c.take-came.ensures.after c.disarm.ensures.after
