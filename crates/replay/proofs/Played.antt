-- A replay under way: the turns that were made, and what was written down of them.
use Rattle.std.proofs.Common.{◌≡◌, ℕ, ◌+◌, ◌<◌, ◌≤◌, false, cond, ◌&&◌, ltb, List, [], ◌∷◌, ◌++◌, length, replicate, Some, None, Ok, Option, Result, refl, sym, ap, ◌∙◌, arith, ⊎_elim}
use Rattle.std.specs.List.{AllByRecursion}
use Rattle.std.specs.Option.{option_map_or}
use Rattle.std.proofs.lemmas.Bool.{cases_lt, lt-ltb, le-ltb}
use Rattle.std.proofs.lemmas.List.{length-append}
use Rattle.board.specs.Bearers.{Bearer}
use Rattle.capture.specs.declared.packets.Captured.{Captured}
use Rattle.machine.specs.Calls.{report_of}
use Rattle.machine.specs.declared.answers.Answer.{Answer}
use Rattle.machine.specs.declared.answers.Answer.TheVariants.{Configured}
use Rattle.machine.specs.declared.refusals.Refusal.{Refusal}
use Rattle.machine.specs.declared.answers.Period.{Period}
use Rattle.machine.specs.declared.answers.Report.{Report}
use Rattle.machine.specs.declared.calls.Call.{Call}
use Rattle.machine.specs.declared.calls.Call.TheVariants.{Configure}
use Rattle.machine.specs.Standard.{standard, standard_numbers}
use Rattle.machine.specs.Laws.{closed_in}
use Rattle.machine.specs.Machine.{call, fresh}
use Rattle.machine.specs.State.{State, configured, put_up}
use Rattle.policy.specs.Batches.{Batches, IsBounded}
use Rattle.machine.specs.Trace.{end_of}
use Rattle.replay.specs.declared.fates.Fallen.{Fallen}
use Rattle.replay.specs.Accounts.{noted_record}
use Rattle.replay.specs.Fates.{decided, fates, noted}
use Rattle.replay.specs.Fit.{Fit, Readable}
use Rattle.replay.specs.Runs.{entries, period_records}
use Rattle.replay.specs.Stages.{Stage, after, closed, core, first_stamp, start, turn, Leads}
use Rattle.replay.proofs.Falls.{fall, falls, start_falls}
use Rattle.replay.proofs.Fits.{start_fits, stays_fit}
use Rattle.replay.proofs.Led.{leads_push}
use Rattle.replay.proofs.Recorded.{Grown, grows, end_grow, fates_grow, fates_start, length-period_records}

-- The record of a period that closed is noted once, where there is room for it.
no_room : (r : Report) (ds : List Period) (room : ℕ) → r.closed ≤ length ds → noted_record room r ds ≡ ds
no_room r ds room l = by r.last
  where
    late : (ltb (length ds) r.closed && ltb (length ds) room) ≡ false
    late = ap (λ b. b && ltb (length ds) room) (le-ltb (length ds) r.closed l)

    by : (o : Option Period) → option_map_or (λ d. cond (ltb (length ds) r.closed && ltb (length ds) room) (ds ++ d ∷ []) ds) o ds ≡ ds
    by None = refl
    by (Some d) = ap (λ b. cond b (ds ++ d ∷ []) ds) late

one_noted : (r : Report) (ds : List Period) (room : ℕ) (d : Period) → r.last ≡ Some d → length ds < r.closed → length ds < room →
    noted_record room r ds ≡ ds ++ d ∷ []
one_noted r ds room d e l m =
    ap (λ o. option_map_or (λ (f : Period). cond (ltb (length ds) r.closed && ltb (length ds) room) (ds ++ f ∷ []) ds) o ds) e
    ∙ rw (lt-ltb (length ds) r.closed l, lt-ltb (length ds) room m) refl

module _ (p : Batches) (bs : List Bearer) (ps : List Captured) where
  -- what turns have led to: x, with fs and ds written down
  pub record Played (turns : ℕ) (x : Stage) (fs : List (Option Fallen)) (ds : List Period) : Type 0 where
    pub calls : List Call
    pub leads : Leads p (start bs ps) calls x
    pub ends : end_of (put_up bs) (entries p bs calls) ≡ x.receiver
    pub fit : Fit p x
    pub turns_are : turns ≡ length calls
    pub fates_are : fs ≡ fates (length ps) (entries p bs calls)
    pub records_are : ds ≡ period_records (entries p bs calls) (closed x)
    pub falling : turns + fall x ≤ 320321024

  -- the start, of packets as a capture has them, on a receiver that can be ready
  pub begins : IsBounded p → call p (Configure standard_numbers) (put_up bs) ≡ (Ok Configured, configured standard (fresh bs)) →
      AllByRecursion (Readable (length bs) (first_stamp ps)) ps → length ps ≤ 1024 → Played 0 (start bs ps) (replicate (length ps) None) []
  begins bounded ready readable few = record {
    calls = [];
    leads = refl;
    ends = ap (λ (d : Result Answer Refusal × State). d.1) ready;
    fit = start_fits p bounded bs ps ready readable few;
    turns_are = refl;
    fates_are = sym (fates_start p bs ready (length ps));
    records_are = refl;
    falling = omega (arith, start_falls bs ps few);
  }

  -- one more turn
  module _ (bounded : IsBounded p) {turns : ℕ} {x : Stage} {fs : List (Option Fallen)} {ds : List Period} (d : Played turns x fs ds) (c : Call) (made : turn p x ≡ Some c) where
    abbrev y : Stage
    y = after p c x

    fit_after : Fit p y
    fit_after = stays_fit p bounded x d.fit c made

    grown : Grown ds (entries p bs (d.calls ++ c ∷ [])) (core x.receiver) (core y.receiver)
    grown = grows p bs bounded d.calls c (core x.receiver) (core y.receiver) (d.ends ∙ d.fit.0)
        (ap (λ (t : State). (call p c t).1) (sym d.fit.0) ∙ fit_after.0) ds d.records_are

    held : length ds ≡ closed x
    held = ap length d.records_are ∙ length-period_records (entries p bs d.calls) (closed x)

    noted_fates : noted (decided c (call p c x.receiver).0) (closed y) fs ≡ fates (length ps) (entries p bs (d.calls ++ c ∷ []))
    noted_fates =
        sym (fates_grow p bs d.calls x.receiver d.ends c (length ps)
        ∙ ap (λ k. noted (decided c (call p c x.receiver).0) k (fates (length ps) (entries p bs d.calls))) (ap closed_in fit_after.0)
        ∙ ap (noted (decided c (call p c x.receiver).0) (closed y)) (sym d.fates_are))

    noted_periods : noted_record 1000 (report_of (core y.receiver)) ds ≡ period_records (entries p bs (d.calls ++ c ∷ [])) (closed y)
    noted_periods = ⊎_elim
        (λ l. let a = grown.added l in
        one_noted (report_of (core y.receiver)) ds 1000 a.0 a.1 (omega (arith, held, l)) (omega (arith, held, l, fit_after.1.closed)) ∙ a.2)
        (λ l. no_room (report_of (core y.receiver)) ds 1000 (omega (arith, held, l)) ∙ grown.kept (omega (arith, l, grown.least)))
        (cases_lt (closed x) (closed y))

    pub goes_on : Played (turns + 1) y (noted (decided c (call p c x.receiver).0) (closed y) fs) (noted_record 1000 (report_of (core y.receiver)) ds)
    goes_on = record {
      calls = d.calls ++ c ∷ [];
      leads = leads_push p (start bs ps) d.calls x c d.leads made;
      ends = end_grow p bs d.calls x.receiver d.ends c;
      fit = fit_after;
      turns_are = omega (arith, d.turns_are, length-append d.calls (c ∷ []));
      fates_are = noted_fates;
      records_are = noted_periods;
      falling = omega (arith, d.falling, falls p bounded x d.fit c made);
    }
