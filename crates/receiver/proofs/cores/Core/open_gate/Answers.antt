use Rattle.std.proofs.Common.{arith, sym, ap, subst, ◌∙◌, ◌≡◌, ℕ, length, ◌+◌, ◌-◌}
use Rattle.machine.specs.State.{Core}
use Rattle.machine.specs.Moves.{open_bearer, open_gate, on_each}
use Rattle.machine.specs.Tidy.{Openable}
use Rattle.machine.proofs.Listed.{openable_step}
use Rattle.receiver.proofs.Each.{each_next, each_done}
use Rattle.receiver.proofs.cores.Core.open_gate.Goals as goal

pub loop-bearer-preserved : goal.loop-bearer-preserved
loop-bearer-preserved g c =
    let i = c.loop-bearer.invariant in
    let b : ℕ = c.loop-bearer.bearer in
    let n : ℕ = c.size-bearer-end.result in (
      i.0,
      subst (Openable n) (sym c.open_bearer.ensures.after) (openable_step n b c.loop-bearer.self i.1 (grind arith)),
      i.2 ∙ each_next open_bearer b n c.loop-bearer.self (grind arith) ∙ ap (λ (x : Core). on_each open_bearer (b + 1) (n - (b + 1)) x) (sym c.open_bearer.ensures.after),
    )

pub returns : goal.returns
unfolding open_gate
returns g c =
    let size : c.size-bearer-end.result ≡ length c.args.self.now.bearers = grind arith in
    record {
      after = sym (ap (λ (n : ℕ). on_each open_bearer 0 n c.args.self.now) (sym size) ∙ c.loop-bearer.invariant.2 ∙ each_done open_bearer c.loop-bearer.bearer c.size-bearer-end.result c.loop-bearer.self (grind arith));
    }
