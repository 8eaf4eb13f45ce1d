use Rattle.std.proofs.Common.{rules, tests, ◌≡◌, ◌+◌, length, eqb, Some, None, Ok, Err, Option, Result, ap, sym, ◌∙◌}
use Rattle.std.proofs.lemmas.Iterator.Consumers.{YieldsList-turn, YieldsList-end, YieldsList-at, YieldsList-from_enumerate}
use Rattle.std.proofs.lemmas.Iterator.Splits.{YieldsList-from_slice_split}
use Rattle.std.proofs.lemmas.List.{length_push}
use Rattle.std.proofs.lemmas.List.FromFn.{length-enumerate_from}
use Rattle.script.specs.declared.faults.Fault.{Fault}
use Rattle.script.specs.declared.faults.ReadError.TheVariants.{Unread}
use Rattle.script.specs.declared.scripts.Statement.{Statement}
use Rattle.script.specs.Words.{lines, words}
use Rattle.script.specs.Script.{contents_of, statement_of}
use Rattle.script.proofs.Lines.{Next, next_by_item, of_words}
use Rattle.script.proofs.ScriptReadsBack.{answers}
use Rattle.script.proofs.Turns.{all_said, nothing_said, one_said, unread}
use Rattle.script.proofs.entry.read_script.Goals.{In-Some, After-statement}
use Rattle.script.proofs.entry.read_script.Goals as goal

next : (c : In-Some) → Next (lines c.args.text.now) (length c.loop-index.yielded) c.in-Some.index c.in-Some.line.now
next c =
    next_by_item (lines c.args.text.now) (length c.loop-index.yielded) c.in-Some.index c.in-Some.line.now
    (YieldsList-turn
    (YieldsList-from_enumerate {s = c.into_iter-index-iterator.result}
    (YieldsList-at {t = c.split.result} (cc)
    (YieldsList-from_slice_split _ (λ b. eqb b 10) c.args.text.now c.split.ensures.rest c.split.ensures.done c.split.ensures.closure
    (λ x b q k. search (rules, tests))))
    (cc))
    c.loop-index.yielded _ c.loop-index.yielded_by _ _ _ c.in-Some.is c.next.ensures.steps)

-- what the line at hand says
says : (c : After-statement) (q : Result (Option Statement) Fault) → c.statement.result ≡ q → statement_of (contents_of c.loop-index.script) (words c.in-Some.line.now) ≡ q
says c q e = of_words (statement_of (contents_of c.loop-index.script)) _ _ c.in-Some.line.now _ q c.statement.ensures.value c.deref.ensures.value c.in_ok-words.ensures.value e

pub returns-in-Err : goal.returns-in-Err
returns-in-Err c =
    let t = next (goal.at.returns-in-Err c).In-Some in
    let a = says (goal.at.returns-in-Err c).After-statement (Err c.in-Err.fault) c.in-Err.is in
    answers c.args.text.now (Err (Unread (record { line = c.in-Some.index + 1; fault = c.in-Err.fault })))
    (unread _ _ (lines c.args.text.now) _ c.loop-index.invariant _ _ t c.in-Err.fault a)

pub loop-index-preserved : goal.loop-index-preserved
loop-index-preserved c =
    let t = next (goal.at.loop-index-preserved c).In-Some in
    let a = says (goal.at.loop-index-preserved c).After-statement (Ok None) (c.in-Ok.is ∙ ap Ok c.in_default.is) in
    rw (length_push c.loop-index.yielded (c.in-Some.index, c.in-Some.line))
    (nothing_said _ _ (lines c.args.text.now) _ c.loop-index.invariant _ _ t a)

pub loop-index-preserved-in_ok-add : goal.loop-index-preserved-in_ok-add
loop-index-preserved-in_ok-add c =
    let t = next (goal.at.loop-index-preserved-in_ok-add c).In-Some in
    let x = c.in-Some-statement in
    let a = says (goal.at.loop-index-preserved-in_ok-add c).After-statement (Ok (Some x.statement)) (c.in-Ok.is ∙ ap Ok x.is) in
    rw (length_push c.loop-index.yielded (c.in-Some.index, c.in-Some.line), c.in_ok-add.ensures.ok)
    (one_said _ _ (lines c.args.text.now) _ c.loop-index.invariant _ _ t x.statement a)

pub returns : goal.returns
returns c =
    let e = YieldsList-end
    (YieldsList-from_enumerate {s = c.into_iter-index-iterator.result}
    (YieldsList-at {t = c.split.result} (cc)
    (YieldsList-from_slice_split _ (λ b. eqb b 10) c.args.text.now c.split.ensures.rest c.split.ensures.done c.split.ensures.closure
    (λ x b q k. search (rules, tests))))
    (cc))
    c.loop-index.yielded _ c.loop-index.yielded_by _ _ c.in-None.is c.next.ensures.steps in
    answers c.args.text.now (Ok c.loop-index.script)
    (all_said _ _ (lines c.args.text.now) _ c.loop-index.invariant (sym (length-enumerate_from 0 (lines c.args.text.now)) ∙ sym e.1))
