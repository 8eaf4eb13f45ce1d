use Rattle.std.proofs.Common.{arith}
use Rattle.ring.proofs.Turned.{element_at, elements_pop}
use Rattle.ring.proofs.cursors.Cursor.pop.Goals as goal

pub returns-clause-value : goal.returns-clause-value
returns-clause-value g c =
    element_at c.args.slots.now c.args.self.now 0 c.slot-oldest.result c.index-slots-oldest.result (omega arith) c.slot-oldest.ensures.value c.index-slots-oldest.is

pub returns-clause-after : goal.returns-clause-after
returns-clause-after g c = elements_pop c.args.slots.now c.args.self.now c.len-len.result c.slot-oldest.result c.len-len.ensures.within (omega arith) c.slot-oldest.ensures.value
