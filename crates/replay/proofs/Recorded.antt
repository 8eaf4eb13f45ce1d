-- The records of closed periods, and the fates, as a trace grows by one call.
use Rattle.std.proofs.Common.{◌≡◌, ℕ, zero, suc, ◌+◌, ◌-◌, ◌<◌, ◌≤◌, cond, eqb, List, [], ◌∷◌, ◌++◌, length, replicate, Some, None, Option, Ok, Result, refl, sym, ap, ◌∙◌, length-append, arith}
use Rattle.std.proofs.lemmas.Bool.{cond_both, eqb-true}
use Rattle.std.proofs.lemmas.List.Sums.{sum_by_push}
use Rattle.board.specs.Bearers.{Bearer}
use Rattle.machine.specs.declared.answers.Answer.{Answer}
use Rattle.machine.specs.declared.answers.Answer.TheVariants.{Configured}
use Rattle.machine.specs.declared.answers.Period.{Period}
use Rattle.machine.specs.declared.calls.Call.{Call}
use Rattle.machine.specs.declared.calls.Call.TheVariants.{Configure, Tell}
use Rattle.machine.specs.declared.refusals.Refusal.{Refusal}
use Rattle.machine.specs.Standard.{standard, standard_numbers}
use Rattle.machine.specs.Laws.{closed_in, offered_by, offered_in, LastRecorded}
use Rattle.machine.specs.Machine.{call, fresh}
use Rattle.machine.specs.State.{Core, State, configured, put_up}
use Rattle.policy.specs.Batches.{Batches, IsBounded}
use Rattle.machine.specs.Trace.{Entry, entry, trace, end_of}
use Rattle.machine.proofs.Moved.{happened}
use Rattle.machine.proofs.OneCall.{Passes, passes, tell_done}
use Rattle.machine.proofs.Share.{true_records}
use Rattle.replay.specs.Fates.{decided, noted, fates}
use Rattle.replay.specs.Runs.{record_of, period_records, entries}
use Rattle.replay.proofs.Decided.{fates_push}

-- one more entry, and where it ends
trace_push : (p : Batches) (t : State) (cs : List Call) (c : Call) →
    trace p t (cs ++ c ∷ []) ≡ trace p t cs ++ entry p (end_of t (trace p t cs)) c ∷ []
trace_push p t [] c = refl
trace_push p t (d ∷ cs) c = ap (λ es. entry p t d ∷ es) (trace_push p (call p d t).1 cs c)

end_push : (t : State) (es : List Entry) (e : Entry) → end_of t (es ++ e ∷ []) ≡ e.after
end_push t [] e = refl
end_push t (d ∷ es) e = end_push d.after es e

-- it leaves what earlier periods offered, and their records
module _ (es : List Entry) (e : Entry) where
  offered_kept : (j : ℕ) → j < closed_in e.before → offered_in j (es ++ e ∷ []) ≡ offered_in j es
  offered_kept j l =
      let o : ℕ = offered_by e.asked e.answered in
      let none : cond (eqb (closed_in e.before) j) o 0 ≡ 0 =
      cond_both (eqb (closed_in e.before) j) o 0 (λ n. n ≡ 0) (λ h. absurd (omega (arith, l, eqb-true (closed_in e.before) j h))) (λ _. refl) in
      omega (arith, none, sum_by_push (λ (d : Entry). cond (eqb (closed_in d.before) j) (offered_by d.asked d.answered) 0) es e)

  records_kept : (k : ℕ) → k ≤ closed_in e.before → period_records (es ++ e ∷ []) k ≡ period_records es k
  records_kept zero l = refl
  records_kept (suc k) l =
      let same = offered_kept k (omega arith) in
      let before = records_kept k (omega arith) in
      cc

-- a record for each closed period
pub length-period_records : (es : List Entry) (k : ℕ) → length (period_records es k) ≡ k
length-period_records es zero = refl
length-period_records es (suc k) = omega (arith, length-append (period_records es k) (record_of es k ∷ []), length-period_records es k)

-- what becomes of the records rs where a call leads from x to y: es are then the entries
pub record Grown (rs : List Period) (es : List Entry) (x y : Core) : Type 0 where
  pub least : x.clock.closed ≤ y.clock.closed
  pub kept : y.clock.closed ≡ x.clock.closed → rs ≡ period_records es y.clock.closed
  pub added : x.clock.closed < y.clock.closed → (d : Period) × (y.clock.last ≡ Some d) × (rs ++ d ∷ [] ≡ period_records es y.clock.closed)

same_period : (d f : Period) → d.offered ≡ f.offered → d.network ≡ f.network → d ≡ f
same_period d f o n = ap (λ m. record d { offered = m }) o ∙ ap (λ m. record f { network = m }) n

-- the record of the last period of k + 1, if the receiver has what the entries say
last_record : (es : List Entry) (k closed : ℕ) (o : Option Period) → LastRecorded standard.period (λ j. offered_in j es) closed o → closed ≡ k + 1 →
    o ≡ Some (record_of es k)
last_record es k closed None r e = absurd (omega (arith, r, e))
last_record es k closed (Some d) r e =
    let j : r.0 ≡ k = omega (arith, r.1, e) in
    let offered : d.offered ≡ offered_in k es = r.2 ∙ ap (λ i. offered_in i es) j in
    let network : d.network ≡ standard.period - offered_in k es = omega (arith, r.3, offered) in
    ap Some (same_period d (record_of es k) offered network)

-- the calls of a replay
module _ (p : Batches) (bs : List Bearer) where
  -- after cs the receiver is t
  module _ (cs : List Call) (t : State) (e : end_of (put_up bs) (entries p bs cs) ≡ t) (c : Call) where
    entries_push : entries p bs (cs ++ c ∷ []) ≡ entries p bs cs ++ entry p t c ∷ []
    entries_push = trace_push p (put_up bs) (Configure standard_numbers ∷ cs) c ∙ ap (λ u. entries p bs cs ++ entry p u c ∷ []) e

    pub end_grow : end_of (put_up bs) (entries p bs (cs ++ c ∷ [])) ≡ (call p c t).1
    end_grow = ap (end_of (put_up bs)) entries_push ∙ end_push (put_up bs) (entries p bs cs) (entry p t c)

    pub fates_grow : (n : ℕ) → fates n (entries p bs (cs ++ c ∷ [])) ≡ noted (decided c (call p c t).0) (closed_in (call p c t).1) (fates n (entries p bs cs))
    fates_grow n = ap (fates n) entries_push ∙ fates_push n (entries p bs cs) (entry p t c)

  -- configure decides nothing
  pub fates_start : call p (Configure standard_numbers) (put_up bs) ≡ (Ok Configured, configured standard (fresh bs)) → (n : ℕ) → fates n (entries p bs []) ≡ replicate n None
  unfolding fates
  fates_start ok n =
      let answer : (call p (Configure standard_numbers) (put_up bs)).0 ≡ Ok Configured = ap (λ (w : Result Answer Refusal × State). w.0) ok in
      ap (λ r. noted (decided (Configure standard_numbers) r) (closed_in (call p (Configure standard_numbers) (put_up bs)).1) (replicate n None)) answer

  module _ (bounded : IsBounded p) where
    -- what the receiver has of the last closed period: what tell would answer
    last_recorded : (cs : List Call) (x : Core) → end_of (put_up bs) (entries p bs cs) ≡ configured standard x →
        LastRecorded standard.period (λ k. offered_in k (entries p bs cs)) x.clock.closed x.clock.last
    last_recorded cs x e =
        (true_records p bounded bs (Configure standard_numbers ∷ (cs ++ Tell ∷ [])) (entries p bs cs) [] (entry p (configured standard x) Tell) _
        (entries_push cs (configured standard x) e Tell) (tell_done p standard x)).1

    -- one more call
    pub grows : (cs : List Call) (c : Call) (x y : Core) → end_of (put_up bs) (entries p bs cs) ≡ configured standard x →
        (call p c (configured standard x)).1 ≡ configured standard y → (rs : List Period) → rs ≡ period_records (entries p bs cs) x.clock.closed →
        Grown rs (entries p bs (cs ++ c ∷ [])) x y
    grows cs c x y e f rs h =
        let t : State = configured standard x in
        let k : ℕ = x.clock.closed in
        let es : List Entry = entries p bs (cs ++ c ∷ []) in
        let before : rs ≡ period_records es k =
        h ∙ sym (ap (λ ds. period_records ds k) (entries_push cs t e c) ∙ records_kept (entries p bs cs) (entry p t c) k (omega arith)) in
        let passed : Passes standard x.clock y.clock = passes (happened p c t refl f) in
        let last = last_recorded (cs ++ c ∷ []) y (end_grow cs t e c ∙ f) in
        record {
          least = passed.least;
          kept = λ same. before ∙ ap (period_records es) (sym same);
          added = λ more.
              let one : y.clock.closed ≡ suc k = omega (arith, more, passed.most) in (
                record_of es k,
                last_record es k y.clock.closed y.clock.last last (omega (arith, one)),
                ap (λ ds. ds ++ record_of es k ∷ []) before ∙ ap (period_records es) (sym one),
              );
        }
