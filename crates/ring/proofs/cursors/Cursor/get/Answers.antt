use Rattle.std.proofs.Common.{arith}
use Rattle.ring.proofs.Turned.{element_at}
use Rattle.ring.proofs.cursors.Cursor.get.Goals as goal

pub returns : goal.returns
returns g c =
    record {
      value = element_at c.args.slots.now c.args.self c.args.i c.slot.result c.index-slots-slot.result (omega (arith, c.len.ensures.within)) c.slot.ensures.value c.index-slots-slot.is;
    }
