use Rattle.std.proofs.Common.{rules, sym, subst, ◌∙◌}
use Rattle.replay.specs.Fit.{Playable}
use Rattle.replay.specs.Turns.{Playing}
use Rattle.replay.proofs.Refused.{if_ok, if_err}
use Rattle.replay.proofs.Turning.{worked, fetched, stopped_over, waited}
use Rattle.replay.proofs.stages.Stage.pass.Goals as goal

pub returns-then-work_on : goal.returns-then-work_on
returns-then-work_on g c = record {
  value = worked g.P.Policy.meaning c.args.self.now c.requires.open c.requires.due c.requires.through c.requires.step c.work_on.new.self
      (search rules) c.work_on.ensures.after;
}

pub returns-then-is_ok : goal.returns-then-is_ok
returns-then-is_ok g c = record {
  value = fetched g.P.Policy.meaning c.args.self.now c.requires.open c.requires.due c.requires.through c.requires.step (search rules)
      (c.work_on.ensures.same c.if-work_on.false) c.fetch.new.self (search rules) (if_ok c.fetch.result (search rules) c.fetch.ensures.after);
}

pub returns-then-is_over : goal.returns-then-is_over
returns-then-is_over g c = record {
  value = stopped_over g.P.Policy.meaning c.args.self.now c.requires.open c.requires.due c.requires.through c.requires.step (search rules)
      (c.work_on.ensures.same c.if-work_on.false) (search rules) (if_err c.fetch.result (search rules) c.fetch.ensures.same) (search rules);
}

pub wait-requires-clause-fit : goal.wait-requires-clause-fit
wait-requires-clause-fit g c =
    subst (λ (v : Playing _). Playable g.P.Policy.meaning v)
    (sym (if_err c.fetch.result (search rules) c.fetch.ensures.same ∙ c.work_on.ensures.same c.if-work_on.false)) c.requires.fit

pub returns : goal.returns
returns g c = record {
  value = waited g.P.Policy.meaning c.args.self.now c.requires.open c.requires.due c.requires.through c.requires.step (search rules)
      (c.work_on.ensures.same c.if-work_on.false) (search rules) (if_err c.fetch.result (search rules) c.fetch.ensures.same) c.wait.new.self (search rules)
      c.wait.ensures.after;
}
