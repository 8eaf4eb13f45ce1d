-- The number that an arrival is given is its packet's place in the capture.
use Rattle.std.proofs.Common.{◌≡◌, ℕ, zero, suc, List, [], ◌∷◌, ◌++◌, drop, Some, Ok, Result, refl, sym, ap, ◌∙◌, subst}
use Rattle.std.proofs.lemmas.List.{drop-drop}
use Rattle.std.specs.List.{slice_get}
use Rattle.std.specs.Option.{option_map}
use Rattle.board.specs.Bearers.{Bearer}
use Rattle.capture.specs.declared.packets.Captured.{Captured}
use Rattle.machine.specs.declared.answers.Answer.{Answer}
use Rattle.machine.specs.declared.answers.Answer.TheVariants.{Configured, Arrived}
use Rattle.machine.specs.declared.answers.Arrival.{Arrival}
use Rattle.machine.specs.declared.calls.Call.{Call}
use Rattle.machine.specs.declared.calls.Call.TheVariants.{Configure, Arrive}
use Rattle.machine.specs.declared.refusals.Refusal.{Refusal}
use Rattle.machine.specs.Standard.{standard, standard_numbers}
use Rattle.machine.specs.Machine.{call, fresh}
use Rattle.machine.specs.State.{State, configured, put_up}
use Rattle.policy.specs.Batches.{Batches, IsBounded}
use Rattle.machine.specs.Trace.{Entry, trace}
use Rattle.machine.proofs.Moved.{happened}
use Rattle.machine.proofs.OneCall.{numbered_by, arrives}
use Rattle.replay.specs.Stages.{Stage, start, core, next, arrival, coming_after, turn, after, Leads}
use Rattle.replay.specs.Runs.{entries}
use Rattle.replay.specs.Fit.{Fit}
use Rattle.replay.proofs.Fits.{turn_goes, here}
use Rattle.replay.proofs.Led.{ByTurn, each_turn}
use Rattle.replay.proofs.Ruled.{Ruled, ruled}

abbrev pub numbered_in : State → ℕ
numbered_in t = (core t).counts.numbered

-- the first of what is left
first_left : {A : Type 0} (k : ℕ) (xs : List A) → slice_get (drop k xs) 0 ≡ slice_get xs k
first_left zero xs = refl
first_left (suc k) [] = refl
first_left (suc k) (x ∷ xs) = first_left k xs

-- packets arrive in the capture's order: those that have no number are still to arrive
module _ (p : Batches) (bounded : IsBounded p) (ps : List Captured) where
  abbrev InOrder : Stage → Type 0
  InOrder x = Fit p x × (x.coming ≡ drop (numbered_in x.receiver) ps)

  coming_kept : (x : Stage) (c : Call) → x.coming ≡ drop (numbered_in x.receiver) ps → {k : ℕ} → k ≡ numbered_by c (numbered_in x.receiver) →
      coming_after c x.coming ≡ drop k ps
  coming_kept x (Arrive b n g) e h = ap (drop 1) e ∙ drop-drop 1 (numbered_in x.receiver) ps ∙ ap (λ k. drop k ps) (sym h)
  coming_kept x _ e h = e ∙ ap (λ k. drop k ps) (sym h)

  order_kept : (x : Stage) → InOrder x → (c : Call) → turn p x ≡ Some c → InOrder (after p c x)
  order_kept x o c t = let g = turn_goes p bounded x o.0 c t in (g.fit, coming_kept x c o.1 g.numbered)

  turned_numbered : (e : Entry) (a : Arrival) → ByTurn p InOrder order_kept e → e.answered ≡ Ok (Arrived a) → option_map arrival (slice_get ps a.number) ≡ Some e.asked
  turned_numbered e a t h =
      let x : Stage = t.stage in
      let r = arrives (happened p e.asked (configured standard (core x.receiver))
      (here p x t.held.0 (λ u. (call p e.asked u).0 ≡ Ok (Arrived a)) (ap (λ (d : Entry). d.answered) (sym t.is_entry) ∙ h)) refl) in
      let place : next x ≡ slice_get ps a.number = ap (λ qs. slice_get qs 0) t.held.1 ∙ first_left (numbered_in x.receiver) ps ∙ ap (slice_get ps) (sym r.number) in
      ap (option_map arrival) (sym place) ∙ subst (λ c. Ruled x (Some c)) r.asked (ruled x p e.asked t.is_turn) ∙ ap Some (sym r.asked)

  module _ (bs : List Bearer) (starts : Fit p (start bs ps)) (ready : call p (Configure standard_numbers) (put_up bs) ≡ (Ok Configured, configured standard (fresh bs)))
      (cs : List Call) (y : Stage) (l : Leads p (start bs ps) cs y) where
    pub in_order : (before rest : List Entry) (e : Entry) (a : Arrival) → entries p bs cs ≡ before ++ e ∷ rest → e.answered ≡ Ok (Arrived a) →
        option_map arrival (slice_get ps a.number) ≡ Some e.asked
    in_order [] rest e a h ok = cc (h, ok, ready)
    in_order (d ∷ before) rest e a h ok =
        turned_numbered e a
        (each_turn p InOrder order_kept (start bs ps) cs y (starts, refl) l before rest e
        (ap (λ (t : State). trace p t cs) (sym (ap (λ (w : Result Answer Refusal × State). w.1) ready)) ∙ cc h)) ok
