use Rattle.std.proofs.Common.{rules, tests, ◌≡◌, ◌+◌, length, eqb, Some, None, Ok, Err, Option, Result, ap, sym, ◌∙◌}
use Rattle.std.proofs.lemmas.Iterator.Consumers.{YieldsList-turn, YieldsList-end, YieldsList-at, YieldsList-from_enumerate}
use Rattle.std.proofs.lemmas.Iterator.Splits.{YieldsList-from_slice_split}
use Rattle.std.proofs.lemmas.List.{length_push}
use Rattle.std.proofs.lemmas.List.FromFn.{length-enumerate_from}
use Rattle.machine.specs.declared.calls.Call.{Call}
use Rattle.script.specs.declared.faults.Fault.{Fault}
use Rattle.script.specs.declared.faults.ReadError.TheVariants.{Unread}
use Rattle.script.specs.Words.{lines, words}
use Rattle.script.specs.Keywords.{call_of}
use Rattle.script.proofs.ReadsBack.{answers}
use Rattle.script.proofs.Lines.{Next, all_read, next_by_item, no_call, of_words, one_call, refused}
use Rattle.script.proofs.entry.read.Goals.{In-Some, After-call_of}
use Rattle.script.proofs.entry.read.Goals as goal

next : (c : In-Some) → Next (lines c.args.text.now) (length c.loop-index.yielded) c.in-Some.index c.in-Some.line.now
next c =
    next_by_item (lines c.args.text.now) (length c.loop-index.yielded) c.in-Some.index c.in-Some.line.now
    (YieldsList-turn
    (YieldsList-from_enumerate {s = c.into_iter-index-iterator.result}
    (YieldsList-at {t = c.split.result} (cc)
    (YieldsList-from_slice_split _ (λ b. eqb b 10) c.args.text.now c.split.ensures.rest c.split.ensures.done c.split.ensures.closure
    (λ x b q k. search (rules, tests))))
    (cc))
    c.loop-index.yielded _ c.loop-index.yielded_by _ _ _ c.in-Some.is c.next.ensures.steps)

-- what the line at hand asks for
asks : (c : After-call_of) (q : Result (Option Call) Fault) → c.call_of.result ≡ q → call_of (words c.in-Some.line.now) ≡ q
asks c q e = of_words call_of _ _ c.in-Some.line.now _ q c.call_of.ensures.value c.deref.ensures.value c.in_ok-words.ensures.value e

pub returns-in-Err : goal.returns-in-Err
returns-in-Err c =
    let t = next (goal.at.returns-in-Err c).In-Some in
    let a = asks (goal.at.returns-in-Err c).After-call_of (Err c.in-Err.fault) c.in-Err.is in
    answers c.args.text.now (Err (Unread (record { line = c.in-Some.index + 1; fault = c.in-Err.fault })))
    (refused _ _ (lines c.args.text.now) _ c.loop-index.invariant _ _ t c.in-Err.fault a)

pub loop-index-preserved : goal.loop-index-preserved
loop-index-preserved c =
    let t = next (goal.at.loop-index-preserved c).In-Some in
    let a = asks (goal.at.loop-index-preserved c).After-call_of (Ok None) (c.in-Ok.is ∙ ap Ok c.in_default.is) in
    rw (length_push c.loop-index.yielded (c.in-Some.index, c.in-Some.line))
    (no_call _ _ (lines c.args.text.now) _ c.loop-index.invariant _ _ t a)

pub loop-index-preserved-in_ok-push : goal.loop-index-preserved-in_ok-push
loop-index-preserved-in_ok-push c =
    let t = next (goal.at.loop-index-preserved-in_ok-push c).In-Some in
    let x = c.in-Some-call in
    let a = asks (goal.at.loop-index-preserved-in_ok-push c).After-call_of (Ok (Some x.call)) (c.in-Ok.is ∙ ap Ok x.is) in
    rw (length_push c.loop-index.yielded (c.in-Some.index, c.in-Some.line), c.in_ok-push.ensures.items)
    (one_call _ _ (lines c.args.text.now) _ c.loop-index.invariant _ _ t x.call a)

pub returns : goal.returns
returns c =
    let e = YieldsList-end
    (YieldsList-from_enumerate {s = c.into_iter-index-iterator.result}
    (YieldsList-at {t = c.split.result} (cc)
    (YieldsList-from_slice_split _ (λ b. eqb b 10) c.args.text.now c.split.ensures.rest c.split.ensures.done c.split.ensures.closure
    (λ x b q k. search (rules, tests))))
    (cc))
    c.loop-index.yielded _ c.loop-index.yielded_by _ _ c.in-None.is c.next.ensures.steps in
    answers c.args.text.now (Ok c.loop-index.calls)
    (all_read _ _ (lines c.args.text.now) _ c.loop-index.invariant (sym (length-enumerate_from 0 (lines c.args.text.now)) ∙ sym e.1))
