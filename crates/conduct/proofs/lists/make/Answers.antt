use Rattle.std.proofs.Common.{arith, ap, length, rules, refl, Ok}
use Rattle.std.proofs.lemmas.List.{length-map}
use Rattle.machine.specs.declared.answers.Answer.TheVariants.{Fetched}
use Rattle.machine.specs.declared.calls.Call.TheVariants.{Fetch}
use Rattle.machine.specs.State.{out_of}
use Rattle.machine.proofs.Moved.{happened}
use Rattle.machine.proofs.OneCall.{fetch_room}
use Rattle.conduct.specs.Lists.{unspent}
use Rattle.conduct.proofs.lists.make.Goals as goal

pub push_reserved-requires : goal.push_reserved-requires
push_reserved-requires g c =
    let r = c.args.receiver.now in
    let p = g.P.Policy.meaning r.policy in
    let room = fetch_room (happened p Fetch r.state {r = Ok (Fetched c.in-Ok.packet)} (search rules) refl) in
    omega (arith, room, length-map (out_of r.state) unspent, ap length c.requires.held, c.requires.room, c.args.receipts.now.ok.0)
