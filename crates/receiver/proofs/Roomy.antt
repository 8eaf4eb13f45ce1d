-- What a call's private parts ask of the receiver holds, once its checks have passed.
use Rattle.std.proofs.Common.{◌≡◌, ◌≢◌, ℕ, ◌<◌, ◌≤◌, true, length, Some, None, Option, refl, sym, subst, arith}
use Rattle.std.proofs.lemmas.Bool.{ltb-true}
use Rattle.board.specs.Bearers.{bearer_of, changed, after_offer}
use Rattle.policy.specs.Batches.{Batches}
use Rattle.machine.specs.declared.calls.Call.{Call}
use Rattle.machine.specs.Calls.{next_packet}
use Rattle.machine.specs.Checks.{first_refusal}
use Rattle.machine.specs.Kept.{Kept}
use Rattle.machine.specs.Machine.{arrive_checks, checks_of, effect_of}
use Rattle.machine.specs.Settings.{Settings}
use Rattle.machine.specs.State.{Core, Grant}
use Rattle.machine.specs.Tidy.{Openable}
use Rattle.machine.proofs.Kept.{move_openable}
use Rattle.machine.proofs.Moved.{all_passed, checked_moves}
use Rattle.machine.proofs.Room.{joins_signalled, joins_served}

module _ {m : ℕ} (p : Batches) (s : Settings) (x : Core) (k : Kept m s x) where
  -- the gate can be opened after a move
  pub opens : (c : Call) (y : Core) → None ≡ first_refusal (checks_of s x c) → y ≡ (effect_of s x p c).1 → Openable (length y.bearers) y
  opens c y h e =
      subst (λ (z : Core). Openable (length z.bearers) z) (sym e)
      (move_openable p s x k c (effect_of s x p c).0 (effect_of s x p c).1 (checked_moves s p x c (sym h)))

  pub arrive_joins : (b n t : ℕ) → length x.bearers ≤ 8 → None ≡ first_refusal (arrive_checks b n x) →
      (bearer_of (changed x.bearers b (after_offer (next_packet n t x))) b).signal ≡ true → length x.listed < 8
  arrive_joins b n t few e up =
      let shown : b < length x.bearers = ltb-true b (length x.bearers) (all_passed (arrive_checks b n x) (sym e)).1.0 in
      omega (arith, few, joins_signalled m s x k b (next_packet n t x) shown up)

  serves_joins : (g : Option Grant) → x.grant ≡ g → g ≢ None → length x.listed < length x.bearers
  serves_joins (Some g) e n = joins_served m s x k g e
  serves_joins None e n = absurd (n refl)

  pub step_joins : length x.bearers ≤ 8 → x.grant ≢ None → length x.listed < 8
  step_joins few n = omega (arith, few, serves_joins x.grant refl n)
