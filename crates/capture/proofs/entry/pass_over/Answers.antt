use Rattle.std.proofs.Common.{ap, is_ok, ◌++◌, ◌∷◌, []}
use Rattle.std.proofs.lemmas.Result.{err_from_is_err_and}
use Rattle.capture.proofs.Rest.{rest_packet, rest_end, rest_refused}
use Rattle.capture.proofs.entry.pass_over.Goals as goal

pub returns-in_err-_packet-clause-refused : goal.returns-in_err-_packet-clause-refused
returns-in_err-_packet-clause-refused c =
    let p = err_from_is_err_and c.from_residual.result c.from_residual.ensures.1 in
    rw (p.1, p.2) (rest_refused _ _ c.loop-packet.reader c.loop-packet.invariant.1 _ c.in_err-_packet.ensures.value)

pub loop-packet-preserved : goal.loop-packet-preserved
loop-packet-preserved c =
    let e = c.in_ok-_packet.ensures in
    (c.loop-packet.invariant.0 ++ c.in-Some._packet ∷ [], rest_packet _ _ c.loop-packet.reader c.loop-packet.invariant.1 c.next.new.self _ _ c.in-Some.is e.value e.after)

pub returns-clause-passed : goal.returns-clause-passed
returns-clause-passed c = ap is_ok (rest_end _ _ c.loop-packet.reader c.loop-packet.invariant.1 _ c.in_default.is c.in_ok-_packet.ensures.value)
