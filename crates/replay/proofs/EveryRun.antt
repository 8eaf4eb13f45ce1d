-- What holds of every run of a capture that is read: there is one, no call is refused, its rows are by its ledger, and the laws of load hold.
use Rattle.std.proofs.Common.{◌≡◌, ℕ, List, [], ◌∷◌, Ok, Err, Result, IsOk, refl, sym, ap, ◌∙◌, subst, arith}
use Rattle.capture.specs.declared.packets.Captured.{Captured}
use Rattle.capture.specs.Captures.{Meaning, meaning}
use Rattle.machine.specs.declared.calls.Call.TheVariants.{Configure}
use Rattle.machine.specs.Standard.{standard_board, four, standard_numbers}
use Rattle.policy.specs.Batches.{IsBounded}
use Rattle.machine.specs.declared.answers.Answer.{Answer}
use Rattle.machine.specs.declared.refusals.Refusal.{Refusal}
use Rattle.machine.specs.State.{State}
use Rattle.machine.specs.Trace.{Entry, trace}
use Rattle.replay.specs.Answers.{EveryRun, StandardRun}
use Rattle.replay.specs.ByLedger.{RowsByLedger}
use Rattle.machine.specs.Laws.{Lawful}
use Rattle.replay.specs.Runs.{AllAccepted, OneRun, entries}
use Rattle.replay.specs.Fit.{Fit}
use Rattle.replay.specs.Stages.{start}
use Rattle.replay.proofs.Fits.{start_fits, stays_fit, turn_goes}
use Rattle.machine.proofs.Lawful.{lawful}
use Rattle.replay.proofs.Led.{ByTurn, each_turn, one_stop}
use Rattle.replay.proofs.Readings.{readable, few}
use Rattle.replay.proofs.Rows.{by_ledger}
use Rattle.replay.proofs.Standard.{standard_configured}

every_run : (m : Meaning) (P : (ps : List Captured) → StandardRun ps → Type 0) → ((ps : List Captured) → m ≡ Ok ps → (r : StandardRun ps) → P ps r) → EveryRun m P
every_run (Ok ps) P f = f ps refl
every_run (Err e) P f = tt

four_bounded : IsBounded four
four_bounded = record { least = λ _ _. omega arith; most = λ _ _. omega arith; small = omega arith }

-- the first stage of a capture that is read is fit
fits_first : (bytes : List ℕ) (ps : List Captured) → meaning 3 bytes ≡ Ok ps → Fit four (start standard_board ps)
fits_first bytes ps e = start_fits four four_bounded standard_board ps standard_configured (readable 3 bytes ps e) (few 3 bytes ps e)

-- an entry that a turn made is accepted
turn_accepted : (e : Entry) → ByTurn four (Fit four) (stays_fit four four_bounded) e → IsOk e.answered
turn_accepted e t =
    let g = turn_goes four four_bounded t.stage t.held e.asked t.is_turn in
    subst (λ (f : Entry). IsOk f.answered) (sym t.is_entry) (subst IsOk (sym g.answered) refl)

all_accepted : (ps : List Captured) → Fit four (start standard_board ps) → (r : StandardRun ps) → AllAccepted four standard_board ps r
all_accepted ps f r [] rest e h = cc (h, standard_configured)
all_accepted ps f r (d ∷ before) rest e h =
    turn_accepted e
    (each_turn four (Fit four) (stays_fit four four_bounded) (start standard_board ps) r.calls r.stop f r.leads before rest e
    (ap (λ (t : State). trace four t r.calls) (sym (ap (λ (w : Result Answer Refusal × State). w.1) standard_configured)) ∙ cc h))

pub accepted : (bytes : List ℕ) → EveryRun (meaning 3 bytes) (AllAccepted four standard_board)
accepted bytes = every_run (meaning 3 bytes) (AllAccepted four standard_board) (λ ps e. all_accepted ps (fits_first bytes ps e))

pub one_run : (bytes : List ℕ) → EveryRun (meaning 3 bytes) (OneRun four standard_board)
one_run bytes =
    every_run (meaning 3 bytes) (OneRun four standard_board)
    (λ ps _ r. record {
      same_calls = λ s. (one_stop four (start standard_board ps) s.calls s.stop r.calls r.stop s.leads s.stops r.leads r.stops).0;
      same_stop = λ s. (one_stop four (start standard_board ps) s.calls s.stop r.calls r.stop s.leads s.stops r.leads r.stops).1;
    })

pub rows_by_ledger : (bytes : List ℕ) → EveryRun (meaning 3 bytes) (RowsByLedger four standard_board)
rows_by_ledger bytes =
    every_run (meaning 3 bytes) (RowsByLedger four standard_board)
    (λ ps e r. by_ledger four standard_board standard_configured four_bounded ps r (fits_first bytes ps e))

pub laws : (bytes : List ℕ) → EveryRun (meaning 3 bytes) (λ _ r. Lawful four standard_board (entries four standard_board r.calls))
laws bytes = every_run (meaning 3 bytes) (λ _ r. Lawful four standard_board (entries four standard_board r.calls)) (λ _ _ r. lawful four four_bounded standard_board (Configure standard_numbers ∷ r.calls))
