use Rattle.std.proofs.Common.{◌≡◌, ◌++◌, ◌∷◌, [], Ok, Err, IsOk, rules, sym, ap, subst, ◌∙◌}
use Rattle.std.proofs.lemmas.Result.{err_from_is_err_and}
use Rattle.capture.specs.declared.refusals.ReadError.TheVariants.{Memory, Refused}
use Rattle.capture.specs.Captures.{ahead}
use Rattle.capture.proofs.ReadsBack.{answers}
use Rattle.capture.proofs.Rest.{ahead_read, rest_packet, rest_end, rest_refused}
use Rattle.capture.proofs.entry.read.Goals as goal

pub returns-in_err-reader : goal.returns-in_err-reader
returns-in_err-reader c = answers c.args.shown _ c.from_residual.result (search rules)

pub returns-in_err-packet : goal.returns-in_err-packet
returns-in_err-packet c =
    let p = err_from_is_err_and c.from_residual-in_err-packet.result c.from_residual-in_err-packet.ensures.1 in
    rw (p.1, p.2)
    (answers c.args.shown _ (Err (Refused _)) (rest_refused _ _ c.loop-packets.reader c.loop-packets.invariant _ c.in_err-packet.ensures.value))

pub returns-in_err-pass_over : goal.returns-in_err-pass_over
returns-in_err-pass_over c =
    let p = err_from_is_err_and c.from_residual-in_err-pass_over.result c.from_residual-in_err-pass_over.ensures.1 in
    let e = c.in_ok-packet.ensures in
    let left = rest_packet _ _ c.loop-packets.reader c.loop-packets.invariant c.next.new.self _ _ c.in-Some.is e.value e.after in
    rw (p.1, p.2) (answers c.args.shown _ (Err (Refused _)) (left ∙ ap (ahead _) c.in_err-pass_over.ensures.refused))

pub returns-then-is_err : goal.returns-then-is_err
returns-then-is_err c =
    let e = c.in_ok-packet.ensures in
    let left = rest_packet _ _ c.loop-packets.reader c.loop-packets.invariant c.next.new.self _ _ c.in-Some.is e.value e.after in
    answers c.args.shown _ (Err Memory) (subst IsOk (sym left) (ahead_read _ _ c.in_ok-pass_over.ensures.passed))

pub loop-packets-preserved : goal.loop-packets-preserved
loop-packets-preserved c =
    let e = c.in_ok-packet.ensures in
    let pushed : c.push.new.self.items ≡ c.loop-packets.packets.items ++ c.in-Some.packet ∷ [] = search rules in
    rw pushed
    (rest_packet _ _ c.loop-packets.reader c.loop-packets.invariant c.next.new.self _ _ c.in-Some.is e.value e.after)

pub returns : goal.returns
returns c =
    answers c.args.shown _ (Ok c.loop-packets.packets)
    (rest_end _ _ c.loop-packets.reader c.loop-packets.invariant _ c.in_default.is c.in_ok-packet.ensures.value)
