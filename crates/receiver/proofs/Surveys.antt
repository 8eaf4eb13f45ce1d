-- Questions that are asked of one bearer after another.
use Rattle.std.proofs.Common.{◌≡◌, ℕ, ◌+◌, ◌<◌, ◌≤◌, true, false, not, max, List, length, drop, Some, None, ap, ◌∙◌, cond}
use Rattle.std.proofs.lemmas.List.{at_drop_more, at_drop_all}
use Rattle.board.specs.Bearers.{Bearer, absent, bearer_of, any_in}
use Rattle.machine.specs.declared.refusals.Refusal.TheVariants.{PacketWaits}
use Rattle.machine.specs.Checks.{first_refusal}
use Rattle.machine.specs.Settings.{highest_cost}
use Rattle.machine.specs.State.{waits}
use Rattle.machine.specs.Machine.{waiting_checks}

module _ (bs : List Bearer) (i : ℕ) where
  pub waits_not : i < length bs → any_in (waits bs i) ≡ false → first_refusal (waiting_checks i (drop i bs)) ≡ first_refusal (waiting_checks (i + 1) (drop (i + 1) bs))
  waits_not l e =
      at_drop_more (λ ds. first_refusal (waiting_checks i ds)) bs i absent l
      ∙ ap (λ t. cond (not t) (first_refusal (waiting_checks (i + 1) (drop (i + 1) bs))) (Some (PacketWaits i))) e

  pub waits_here : i < length bs → any_in (waits bs i) ≡ true → first_refusal (waiting_checks i (drop i bs)) ≡ Some (PacketWaits i)
  waits_here l e =
      at_drop_more (λ ds. first_refusal (waiting_checks i ds)) bs i absent l
      ∙ ap (λ t. cond (not t) (first_refusal (waiting_checks (i + 1) (drop (i + 1) bs))) (Some (PacketWaits i))) e

  pub none_waits : length bs ≤ i → first_refusal (waiting_checks i (drop i bs)) ≡ None
  none_waits l = at_drop_all (λ ds. first_refusal (waiting_checks i ds)) bs i l

  pub cost_more : i < length bs → highest_cost (drop i bs) ≡ max (bearer_of bs i).cost (highest_cost (drop (i + 1) bs))
  cost_more l = at_drop_more highest_cost bs i absent l

  pub cost_all : length bs ≤ i → highest_cost (drop i bs) ≡ 0
  cost_all l = at_drop_all highest_cost bs i l
