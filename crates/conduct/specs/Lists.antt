-- A list of calls, made one after another with the receipts of its own fetches.
use Rattle.std.specs.Prelude.{ℕ, Bool, true, false, cond, List, [], ◌∷◌, map, Ok, Err, Result}
use Rattle.board.specs.Bearers.{Bearer}
use Rattle.machine.specs.declared.answers.Answer.{Answer}
use Rattle.machine.specs.declared.calls.Call.{Call}
use Rattle.machine.specs.declared.calls.Call.TheVariants.{Finish, Discard}
use Rattle.machine.specs.declared.refusals.Refusal.{Refusal}
use Rattle.machine.specs.State.{State, out_of, put_up}
use Rattle.policy.specs.Batches.{Batches}
use Rattle.machine.specs.Machine.{call}
use Rattle.machine.specs.Trace.{Entry, trace, end_of}
use Rattle.machine.specs.Laws.{Law}
use Rattle.machine.specs.Numbers.{holds}
use Rattle.receiver.specs.declared.receipts.Receipt.{Receipt}
use Rattle.conduct.specs.declared.replies.Reply.{Reply}
use Rattle.conduct.specs.declared.replies.Reply.TheVariants.{Accepted, Refused, NoReceipt}

-- the receipt of a number, before it is spent
abbrev pub unspent : ℕ → Receipt
unspent n = record { number = n; spent = false }

-- those of the numbers that are out: of each of them a receipt is held, and of no other
abbrev pub receipts_of : State → List Receipt
receipts_of t = map unspent (out_of t)

-- a call is made, unless it is finish or discard of a number of which no receipt is held
abbrev pub is_made : Call → List ℕ → Bool
is_made (Finish n) out = holds n out
is_made (Discard n) out = holds n out
is_made _ out = true

abbrev pub reply_of : Result Answer Refusal → Reply
reply_of (Ok a) = Accepted a
reply_of (Err r) = Refused r

module _ (p : Batches) where
  -- the reply to a call of a list, and the receiver after it
  abbrev pub reply_to : Call → State → Reply
  reply_to c t = cond (is_made c (out_of t)) (reply_of (call p c t).0) NoReceipt

  abbrev pub after_one : Call → State → State
  after_one c t = cond (is_made c (out_of t)) (call p c t).1 t

  -- the reply to each call of a list
  abbrev pub replies_to : State → List Call → List Reply
  replies_to t [] = []
  replies_to t (c ∷ cs) = reply_to c t ∷ replies_to (after_one c t) cs

  -- the calls of a list that are made
  abbrev pub made_calls : State → List Call → List Call
  made_calls t [] = []
  made_calls t (c ∷ cs) = cond (is_made c (out_of t)) (c ∷ made_calls (call p c t).1 cs) (made_calls t cs)

  -- their trace, and the receiver where it ends
  abbrev pub conducted : State → List Call → List Entry
  conducted t cs = trace p t (made_calls t cs)

  abbrev pub after_list : State → List Call → State
  after_list t cs = end_of t (conducted t cs)

-- on a receiver just put up they keep a law
abbrev pub Keeps : Law → Batches → List Bearer → List Call → Type 0
Keeps law p bs cs = law p bs (conducted p (put_up bs) cs)
