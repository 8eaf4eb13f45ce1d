use Rattle.std.proofs.Common.{sym, ◌∙◌, arith}
use Rattle.std.proofs.lemmas.Bool.{cond-true}
use Rattle.ring.proofs.Turned.{free_true, elements_push}
use Rattle.ring.proofs.cursors.Cursor.push.Goals as goal

pub returns-clause-after : goal.returns-clause-after
returns-clause-after g c =
    elements_push c.args.slots.now c.args.self.now c.len-len.result c.slot-at.result c.args.element c.len-len.ensures.within (omega arith) c.slot-at.ensures.value
    ∙ sym (cond-true _ _ _ (free_true c.args.slots.now c.args.self.now (omega arith)))
