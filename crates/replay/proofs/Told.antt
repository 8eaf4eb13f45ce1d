-- What the receiver of a replay tells.
use Rattle.std.proofs.Common.{◌≡◌, Ok, ap, ◌∙◌}
use Rattle.machine.specs.Calls.{report_of}
use Rattle.machine.specs.declared.answers.Answer.TheVariants.{Told}
use Rattle.machine.specs.declared.answers.Report.{Report}
use Rattle.machine.specs.declared.calls.Call.TheVariants.{Tell}
use Rattle.machine.specs.Settings.{Settings}
use Rattle.machine.specs.Machine.{call}
use Rattle.machine.specs.State.{Core, State, configured}
use Rattle.policy.specs.Batches.{Batches}
use Rattle.machine.proofs.OneCall.{tell_done}

pub tells : (p : Batches) (s : Settings) (x : Core) (t : State) (r : Report) → t ≡ configured s x → Ok (Told r) ≡ (call p Tell t).0 → r ≡ report_of x
tells p s x t r e h =
    let k : Ok (Told r) ≡ Ok (Told (report_of x)) = h ∙ ap (λ (u : State). (call p Tell u).0) e ∙ tell_done p s x in
    cc k
