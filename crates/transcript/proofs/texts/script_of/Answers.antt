use Rattle.std.proofs.Common.{◌≤◌, IfOk, length, subst}
use Rattle.script.proofs.Few.{bearers_few}
use Rattle.transcript.proofs.texts.script_of.Goals as goal

-- so many are said at the most
pub returns-clause-few : goal.returns-clause-few
returns-clause-few c = subst (λ m. IfOk m (λ s. length s.bearers ≤ 8)) c.in_ok-script.ensures.value (bearers_few c.args.text.now)
