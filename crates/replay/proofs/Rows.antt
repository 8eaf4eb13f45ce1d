-- The rows of a replay are by its ledger.
use Rattle.std.proofs.Common.{◌≡◌, ℕ, zero, suc, ◌+◌, true, cond, nat_lt, List, [], ◌∷◌, ◌++◌, length, fold, Some, None, Option, Ok, Err, Result, refl, sym, ap, ◌∙◌, subst, append-nil, arith}
use Rattle.std.proofs.lemmas.Bool.{cond_both, ltb-false}
use Rattle.std.proofs.lemmas.List.Sums.{sum_by-cons}
use Rattle.std.specs.List.{slice_get, flat_map}
use Rattle.board.specs.Bearers.{Bearer}
use Rattle.capture.specs.declared.packets.Captured.{Captured}
use Rattle.machine.specs.declared.answers.Answer.{Answer}
use Rattle.machine.specs.declared.answers.Answer.TheVariants.{Configured}
use Rattle.machine.specs.declared.answers.Counts.{Counts}
use Rattle.machine.specs.declared.answers.Progress.{Progress}
use Rattle.machine.specs.declared.answers.Progress.TheVariants.{Begun, Empty, Taken, Rescheduled, Completed}
use Rattle.machine.specs.declared.calls.Call.{Call}
use Rattle.machine.specs.declared.calls.Call.TheVariants.{Configure, Step, Discard}
use Rattle.machine.specs.declared.refusals.Refusal.{Refusal}
use Rattle.machine.specs.Standard.{standard, standard_numbers}
use Rattle.machine.specs.Machine.{call, fresh}
use Rattle.machine.specs.State.{State, configured, put_up, unconfigured}
use Rattle.policy.specs.Batches.{Batches, IsBounded}
use Rattle.machine.specs.Trace.{Entry, trace, end_of}
use Rattle.machine.specs.Ledger.{Ledger, Columns, nothing, told, accepted, stepped, progress_in, depths_of, ledger}
use Rattle.machine.specs.Laws.{times_in_all, places}
use Rattle.machine.specs.Numbers.{holds, times}
use Rattle.machine.proofs.Agreement.{TallyState, Agreeing, starts_agreeing, keeps_agreeing}
use Rattle.machine.proofs.Basics.{times-append}
use Rattle.machine.proofs.Loads.{free_times, counted_held}
use Rattle.machine.proofs.Places.{one_place}
use Rattle.machine.proofs.Runs.{at_end}
use Rattle.replay.specs.declared.fates.Fallen.{Fallen}
use Rattle.replay.specs.declared.fates.Fate.{Fate}
use Rattle.replay.specs.declared.fates.Fate.TheVariants.{Delivered, BearerFull, QueueFull, Waiting, Pending}
use Rattle.replay.specs.ByLedger.{on_the_way, Stands, RowsByLedger}
use Rattle.replay.specs.Fit.{Fit}
use Rattle.replay.specs.Fates.{fates, in_the_end, all_in_the_end}
use Rattle.replay.specs.Runs.{Run, entries, outcomes}
use Rattle.replay.specs.Stages.{Stage, start, closed, after, Leads}
use Rattle.replay.proofs.Decided.{settled, Decides, DecidesAt, decides, length-fates}
use Rattle.replay.proofs.Led.{leads_end}
use Rattle.replay.proofs.Numbered.{numbered_in, in_order}
use Rattle.replay.proofs.Ruled.{Ruled, ruled}

-- a row, and the decision that it comes from
pub length-all : (numbered closed i : ℕ) (fs : List (Option Fallen)) → length (all_in_the_end numbered closed i fs) ≡ length fs
length-all numbered closed i [] = refl
length-all numbered closed i (f ∷ fs) = omega (arith, length-all numbered closed (i + 1) fs)

record Row (numbered closed i : ℕ) (fs : List (Option Fallen)) (j : ℕ) (f : Fallen) : Type 0 where
  pub noted : Option Fallen
  pub stands : slice_get fs j ≡ Some noted
  pub gives : in_the_end numbered closed (i + j) noted ≡ f

row_at : (numbered closed i : ℕ) (fs : List (Option Fallen)) (j : ℕ) (f : Fallen) → slice_get (all_in_the_end numbered closed i fs) j ≡ Some f →
    Row numbered closed i fs j f
row_at numbered closed i [] j f h = cc h
row_at numbered closed i (o ∷ fs) zero f h =
    let e : i + 0 ≡ i = omega arith in
    record { noted = o; stands = refl; gives = ap (λ n. in_the_end numbered closed n o) e ∙ cc h }
row_at numbered closed i (o ∷ fs) (suc j) f h =
    let r = row_at numbered closed (i + 1) fs j f h in
    let e : i + suc j ≡ i + 1 + j = omega arith in
    record { noted = r.noted; stands = r.stands; gives = ap (λ n. in_the_end numbered closed n r.noted) e ∙ r.gives }

-- a call that is no discard discards nothing
stepped_discards : (did : Option Progress) (l : Ledger) → (stepped did l).columns.discarded ≡ l.columns.discarded
stepped_discards None l = refl
stepped_discards (Some (Begun b q)) l = refl
stepped_discards (Some Empty) l = refl
stepped_discards (Some (Taken n q)) l = refl
stepped_discards (Some Rescheduled) l = refl
stepped_discards (Some Completed) l = refl

accepted_discards : (depths : List ℕ) (c : Call) (a : Answer) (l : Ledger) → ((n : ℕ) → c ≡ Discard n → ⊥) →
    (accepted depths c a l).columns.discarded ≡ l.columns.discarded
accepted_discards depths Step a l n = stepped_discards (progress_in a) l
accepted_discards depths (Discard m) a l n = absurd (n m refl)
accepted_discards depths _ a l n = refl

told_discards : (depths : List ℕ) (c : Call) (r : Result Answer Refusal) (l : Ledger) → ((n : ℕ) → c ≡ Discard n → ⊥) →
    (told depths c r l).columns.discarded ≡ l.columns.discarded
told_discards depths c (Err e) l n = refl
told_discards depths c (Ok a) l n = accepted_discards depths c a l n

times_in_each : (n : ℕ) (cs : List (List ℕ)) → times n (flat_map (λ (ns : List ℕ). ns) cs) ≡ times_in_all n cs
times_in_each n [] = refl
times_in_each n (c ∷ cs) =
    omega (arith, times-append n c (flat_map (λ (ns : List ℕ). ns) cs), times_in_each n cs, sum_by-cons (times n))

-- a number that has one place, and was not decided, is on the way
undecided_on_the_way : (n : ℕ) (k : Columns) → places n k ≡ 1 → Decides None n k → k.discarded ≡ [] → holds n (on_the_way k) ≡ true
undecided_on_the_way n k one none d =
    let w : List ℕ = flat_map (λ (ns : List ℕ). ns) k.waiting in
    counted_held n (on_the_way k)
    (omega (
      arith,
      one,
      times-append n w (k.queue ++ k.out),
      times-append n k.queue k.out,
      times_in_each n k.waiting,
      free_times n k.delivered (none Delivered),
      free_times n k.bearer_full (none BearerFull),
      free_times n k.queue_full (none QueueFull),
      ap (times n) d,
    ))

-- a receiver that agrees with the ledger has given as many numbers
numbered_next : (depths : List ℕ) (t : State) (l : Ledger) → TallyState depths t l → numbered_in t ≡ l.next
numbered_next depths (unconfigured u) l a = ap (λ (m : Ledger). m.next) (sym a.0)
numbered_next depths (configured s x) l a = ap (λ (n : Counts). n.numbered) a.counts

-- what is noted in the end stands in the ledger
noted_stands : (i numbered closed : ℕ) (l : Ledger) → places i l.columns ≡ cond (nat_lt i l.next) 1 0 → l.columns.discarded ≡ [] → numbered ≡ l.next →
    (o : Option Fallen) → Decides o i l.columns → Stands (in_the_end numbered closed i o).fate i l
noted_stands i numbered closed l one d e None t =
    cond_both (nat_lt i numbered) Waiting Pending (λ f. Stands f i l)
    (λ h. undecided_on_the_way i l.columns (one ∙ ap (λ b. cond b 1 0) (ap (nat_lt i) (sym e) ∙ h)) t d)
    (λ h. omega (arith, ltb-false i numbered h, e))
noted_stands i numbered closed l one d e (Some f) t = fell f.fate t
  where
    fell : (g : Fate) → holds i (settled g l.columns) ≡ true → Stands g i l
    fell Delivered h = h
    fell BearerFull h = h
    fell QueueFull h = h
    fell _ h = cc h

module _ (p : Batches) (bs : List Bearer) (ready : call p (Configure standard_numbers) (put_up bs) ≡ (Ok Configured, configured standard (fresh bs))) where
  set_up : (call p (Configure standard_numbers) (put_up bs)).1 ≡ configured standard (fresh bs)
  set_up = ap (λ (w : Result Answer Refusal × State). w.1) ready

  -- the trace of a replay ends with its last receiver
  entries_end : (ps : List Captured) (cs : List Call) (y : Stage) → Leads p (start bs ps) cs y → end_of (put_up bs) (entries p bs cs) ≡ y.receiver
  entries_end ps cs y l = subst (λ t. end_of t (trace p t cs) ≡ y.receiver) (sym set_up) (leads_end p (start bs ps) cs y l)

  -- and nothing is discarded
  abbrev told_on : Ledger → List Entry → Ledger
  told_on l es = fold (λ m (e : Entry). told (depths_of bs) e.asked e.answered m) l es

  turns_discard : (x : Stage) (cs : List Call) (y : Stage) → Leads p x cs y → (l : Ledger) → l.columns.discarded ≡ [] →
      (told_on l (trace p x.receiver cs)).columns.discarded ≡ []
  turns_discard x [] y k l none = none
  turns_discard x (c ∷ cs) y k l none =
      let r : Result Answer Refusal = (call p c x.receiver).0 in
      let no : (n : ℕ) → c ≡ Discard n → ⊥ = λ n e. subst (λ d. Ruled x (Some d)) e (ruled x p c k.0) in
      turns_discard (after p c x) cs y k.1 (told (depths_of bs) c r l) (told_discards (depths_of bs) c r l no ∙ none)

  none_discarded : (ps : List Captured) (cs : List Call) (y : Stage) → Leads p (start bs ps) cs y → (ledger bs (entries p bs cs)).columns.discarded ≡ []
  unfolding ledger
  none_discarded ps cs y k =
      let r : Result Answer Refusal = (call p (Configure standard_numbers) (put_up bs)).0 in
      let l : Ledger = told (depths_of bs) (Configure standard_numbers) r (nothing (length bs)) in
      subst (λ t. (told_on l (trace p t cs)).columns.discarded ≡ []) (sym set_up)
      (turns_discard (start bs ps) cs y k l (told_discards (depths_of bs) (Configure standard_numbers) r (nothing (length bs)) (λ n e. cc e)))

  module _ (bounded : IsBounded p) (ps : List Captured) (r : Run p bs ps) where
    -- all calls, their trace and its ledger
    abbrev calls : List Call
    calls = Configure standard_numbers ∷ r.calls

    abbrev es : List Entry
    es = entries p bs r.calls

    abbrev last : Ledger
    last = ledger bs es

    abbrev given : ℕ
    given = numbered_in r.stop.receiver

    -- the ledger has given as many numbers as the receiver
    given_next : given ≡ last.next
    given_next =
        numbered_next (depths_of bs) r.stop.receiver last
        (subst (λ t. TallyState (depths_of bs) t last) (entries_end ps r.calls r.stop r.leads)
        (at_end p (Agreeing p bs) (keeps_agreeing p bs) (put_up bs) (starts_agreeing p bs) calls))

    rows_stand : (i : ℕ) (f : Fallen) → slice_get (outcomes p bs ps r) i ≡ Some f → Stands f.fate i last
    rows_stand i f h =
        let w = row_at given (closed r.stop) 0 (fates (length ps) es) i f h in
        let e : 0 + i ≡ i = omega arith in
        let d : Decides w.noted i last.columns = subst (λ o. DecidesAt o i last.columns) w.stands (decides p bounded bs calls (length ps) i) in
        let one = one_place p bounded bs calls es [] (sym (append-nil es)) i in
        subst (λ (g : Fallen). Stands g.fate i last) (ap (λ m. in_the_end given (closed r.stop) m w.noted) (sym e) ∙ w.gives)
        (noted_stands i given (closed r.stop) last one (none_discarded ps r.calls r.stop r.leads) given_next w.noted d)

    pub by_ledger : Fit p (start bs ps) → RowsByLedger p bs ps r
    by_ledger starts = record {
      one_each = length-all given (closed r.stop) 0 (fates (length ps) es) ∙ length-fates (length ps) es;
      numbered = in_order p bounded ps bs starts ready r.calls r.stop r.leads;
      stands = rows_stand;
    }
