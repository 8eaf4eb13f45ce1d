use Rattle.std.proofs.Common.{rules, sym, ◌∙◌}
use Rattle.std.proofs.lemmas.Result.{err_from_is_err_and}
use Rattle.replay.proofs.EveryRun.{accepted, laws, one_run, rows_by_ledger}
use Rattle.replay.proofs.Lent.{declined, written}
use Rattle.replay.proofs.entry.replay.Goals as goal

pub returns-in_err-written-clause-refused : goal.returns-in_err-written-clause-refused
returns-in_err-written-clause-refused c =
    let e = err_from_is_err_and c.from_residual-in_err-written.result c.from_residual-in_err-written.ensures.1 in
    rw e.1
    (declined c.in_ok-tables.ensures.value c.args.packets.now c.args.periods.now (sym c.in_err-written.was ∙ c.write_into.ensures.value) e.2)

pub returns-clause-value : goal.returns-clause-value
returns-clause-value c = written c.in_ok-tables.ensures.value c.args.packets.now c.args.periods.now (search rules) (search rules) (search rules)

pub returns-clause-one_run : goal.returns-clause-one_run
returns-clause-one_run c = one_run c.args.bytes.now

pub returns-clause-accepted : goal.returns-clause-accepted
returns-clause-accepted c = accepted c.args.bytes.now

pub returns-clause-by_ledger : goal.returns-clause-by_ledger
returns-clause-by_ledger c = rows_by_ledger c.args.bytes.now

pub returns-clause-laws : goal.returns-clause-laws
returns-clause-laws c = laws c.args.bytes.now
