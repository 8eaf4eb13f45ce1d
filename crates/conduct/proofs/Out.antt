-- What is out after a call, as receipts.
use Rattle.std.proofs.Common.{◌≡◌, [], ◌∷◌, ◌++◌, map, Ok, ap, ◌∙◌}
use Rattle.std.proofs.lemmas.List.{map_push}
use Rattle.board.specs.declared.packets.Packet.{Packet}
use Rattle.machine.specs.declared.answers.Answer.TheVariants.{Fetched}
use Rattle.machine.specs.declared.calls.Call.{Call}
use Rattle.machine.specs.declared.calls.Call.TheVariants.{Fetch}
use Rattle.machine.specs.State.{State, out_of}
use Rattle.policy.specs.Batches.{Batches}
use Rattle.machine.specs.Machine.{call}
use Rattle.machine.proofs.Moved.{happens}
use Rattle.machine.proofs.OneCall.{out_by, outs, call_refused, tell_same, finish_done, discard_done}
use Rattle.conduct.specs.Lists.{receipts_of, unspent}

module _ (p : Batches) where
  pub call_receipts : (c : Call) (t : State) → receipts_of (call p c t).1 ≡ map unspent (out_by c (call p c t).0 (out_of t))
  call_receipts c t = ap (map unspent) (outs (happens p c t))

  pub fetch_receipts : (t : State) (q : Packet) → (call p Fetch t).0 ≡ Ok (Fetched q) → receipts_of (call p Fetch t).1 ≡ receipts_of t ++ unspent q.number ∷ []
  fetch_receipts t q h = call_receipts Fetch t ∙ ap (λ r. map unspent (out_by Fetch r (out_of t))) h ∙ map_push unspent (out_of t) q.number

pub ruleset leaving = (call_receipts, fetch_receipts, call_refused, tell_same, finish_done, discard_done)
