use Rattle.std.proofs.Common.{rules, refl, ap, ◌∙◌, vec_items}
use Rattle.machine.specs.declared.answers.Report.{Report}
use Rattle.ring.specs.Queue.{ring_elements}
use Rattle.replay.specs.Accounts.{noted_record}
use Rattle.replay.specs.Fates.{noted}
use Rattle.replay.proofs.Going.{starts_going, going_down, going_on, fit_next, fit_stop, comes}
use Rattle.replay.proofs.runs.run.Goals as goal

pub loop-decision-init : goal.loop-decision-init
loop-decision-init g c = record {
  going = starts_going (g.met.P.Policy.bounds c.args.policy) c.requires.ready c.requires.readable c.requires.few
      (search rules) (search rules) (search rules);
  room = search rules;
}

pub turn-requires : goal.turn-requires
turn-requires g c = record { fit = c.loop-decision.invariant.going.played.fit }

pub tell-report-requires : goal.tell-report-requires
tell-report-requires g c = record { fit = fit_next c.loop-decision.invariant.going c.in-Made.ensures.value }

pub loop-decision-smaller : goal.loop-decision-smaller
loop-decision-smaller g c = going_down c.loop-decision.invariant.going c.in-Made.ensures.value

pub loop-decision-preserved : goal.loop-decision-preserved
loop-decision-preserved g c = record {
  going = going_on c.loop-decision.invariant.going c.in-Made.ensures.value
      (c.note.ensures.after ∙ ap (λ (r : Report). noted c.in-Made.decision r.closed (vec_items c.loop-decision.fates)) c.tell-report.ensures.value)
      (c.record.ensures.after ∙ ap (λ n. noted_record n c.tell-report.result (ring_elements c.loop-decision.records)) c.loop-decision.invariant.room
      ∙ ap (λ (r : Report). noted_record 1000 r (ring_elements c.loop-decision.records)) c.tell-report.ensures.value);
  room = search rules;
}

pub tell-report-requires-2 : goal.tell-report-requires-2
tell-report-requires-2 g c = record { fit = fit_stop c.loop-decision.invariant.going c.in_default.ensures.value }

pub end-requires : goal.end-requires
end-requires g c = record { fit = fit_stop c.loop-decision.invariant.going c.in_default.ensures.value }

pub returns : goal.returns
returns g c = record {
  value = comes c.loop-decision.invariant.going {w = c.turn.new.self} c.in_default.ensures.value refl c.tell-report-2.ensures.value refl refl;
}
