-- Receipts that are spent by discard, the last first.
use Rattle.std.specs.Prelude.{◌≡◌, cond, List, [], ◌∷◌, reverse, is_ok}
use Rattle.machine.specs.declared.calls.Call.TheVariants.{Discard}
use Rattle.machine.specs.State.{State}
use Rattle.policy.specs.Batches.{Batches}
use Rattle.machine.specs.Machine.{call}
use Rattle.receiver.specs.declared.receipts.Receipt.{Receipt}
use Rattle.receiver.specs.Receivers.{Receiving}

-- one after another, up to one that is refused: the state then, and what is left of the receipts, that one first
abbrev pub swept : Batches → State → List Receipt → State × List Receipt
swept p t [] = (t, [])
swept p t (r ∷ rs) = cond (is_ok (call p (Discard r.number) t).0) (swept p (call p (Discard r.number) t).1 rs) (t, r ∷ rs)

-- what that makes of a receiver and the receipts held: the receiver s, and of the receipts those that are left
pub record Sweeps {P : Type 0} (p : Batches) (r : Receiving P) (held : List Receipt) (s : Receiving P) (left : List Receipt) : Type 0 where
  pub receiver : s ≡ record r { state = (swept p r.state (reverse held)).0 }
  pub left_is : reverse left ≡ (swept p r.state (reverse held)).1
