use Rattle.std.proofs.Common.{arith, sym, ap, ◌∙◌, ◌≡◌, ◌<◌, length, get_or, Some}
use Rattle.std.proofs.lemmas.Option.{slice_get-get_or}
use Rattle.receiver.proofs.Searches.{held_here, left_here}
use Rattle.receiver.proofs.cores.Core.place_out.Goals as goal

pub returns-then-deref-i : goal.returns-then-deref-i
returns-then-deref-i g c =
    let out = c.args.self.now.out in
    let i = c.loop-i.i in
    let within : i < length out = grind arith in
    let here : get_or out i 0 ≡ c.args.number = grind arith in
    record {
      value = (
        within,
        c.loop-i.invariant.0 ∙ held_here c.args.number out i (slice_get-get_or out i 0 within ∙ ap Some here),
        sym (c.loop-i.invariant.1 ∙ left_here c.args.number out i within here),
      );
    }
