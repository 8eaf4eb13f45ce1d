-- One place: where the answers are true to the ledger, each number given stands in one place of it.
use Rattle.std.proofs.Common.{◌≡◌, ℕ, zero, suc, ◌+◌, ◌<◌, Bool, true, false, cond, List, [], ◌∷◌, ◌++◌, length, take, drop, Some, None, Option, Ok, Err, Result, nat_lt, get_or, set, refl, arith}
use Rattle.std.proofs.lemmas.List.Sums.{sum_by-set, sum_by-cons}
use Rattle.std.proofs.lemmas.List.Folds.{sum_by-replicate}
use Rattle.machine.specs.declared.answers.Answer.{Answer}
use Rattle.machine.specs.declared.answers.Progress.{Progress}
use Rattle.machine.specs.declared.answers.Progress.TheVariants.{Begun, Empty, Taken, Rescheduled, Completed}
use Rattle.machine.specs.declared.calls.Call.{Call}
use Rattle.machine.specs.declared.calls.Call.TheVariants.{Configure, Arrive, Step, Work, Fetch, Finish, Discard, Tell}
use Rattle.machine.specs.declared.refusals.Refusal.{Refusal}
use Rattle.machine.specs.State.{put_up}
use Rattle.machine.specs.Trace.{trace}
use Rattle.machine.specs.Ledger.{Ledger, column, nothing, arrives, taken_from, handed_out, spent, stepped, queue_room, column_room, accepted, told, depths_of, progress_in}
use Rattle.machine.specs.Laws.{Always, TrueAnswer, Truly, times_in_all, places, OnePlace}
use Rattle.machine.proofs.Pushed.{told_keeps}
use Rattle.machine.proofs.Agreement.{true_answers}
use Rattle.machine.specs.Numbers.{holds, times}
use Rattle.machine.proofs.Basics.{times-append, times-without}

-- the front of a column leaves it; of one column among all; and a number that is out leaves
front_off : (n : ℕ) (c : List ℕ) → times n (drop 1 c) + times n (take 1 c) ≡ times n c
front_off n [] = refl
front_off n (m ∷ c) = omega arith

front_off_all : (n : ℕ) (cs : List (List ℕ)) (b : ℕ) →
    times_in_all n (set cs b (drop 1 (get_or cs b []))) + times n (take 1 (get_or cs b [])) ≡ times_in_all n cs
front_off_all n [] b = refl
front_off_all n (c ∷ cs) zero = omega (arith, front_off n c, sum_by-cons (times n))
front_off_all n (c ∷ cs) (suc b) = omega (arith, front_off_all n cs b, sum_by-cons (times n))

-- each number below the next stands once in the columns, and no other
abbrev pub Placed : Ledger → Type 0
Placed l = (n : ℕ) → places n l.columns ≡ cond (nat_lt n l.next) 1 0

placed_none : (k : ℕ) → Placed (nothing k)
placed_none k n = grind (arith, sum_by-replicate (times n) k [])

-- kept by each move of a number
module _ (l : Ledger) (s : Placed l) where
  placed_arrives : (room : Bool) (b : ℕ) → b < length l.columns.waiting → Placed (arrives room b l)
  placed_arrives room b h n = grind (arith, s n, sum_by-set (times n) l.columns.waiting b (column l b ++ l.next ∷ []) [] h, times-append)

  placed_taken : (room : Bool) (b : ℕ) → Placed (record l { columns = taken_from room b l.columns })
  placed_taken room b n = grind (arith, s n, front_off_all, times-append)

  placed_handed : Placed (record l { columns = handed_out l.columns })
  placed_handed n = grind (arith, s n, front_off, times-append)

  placed_spent : (finished : Bool) (m : ℕ) → holds m l.columns.out ≡ true → Placed (record l { columns = spent finished m l.columns })
  placed_spent finished m h n = grind (arith, s n, times-without n m l.columns.out h, times-append)

  placed_stepped : (did : Option Progress) → Placed (stepped did l)
  placed_stepped None = s
  placed_stepped (Some (Begun b q)) = s
  placed_stepped (Some Empty) = s
  placed_stepped (Some (Taken m q)) = placed_taken (queue_room l) l.serving
  placed_stepped (Some Rescheduled) = s
  placed_stepped (Some Completed) = s

  placed_accepted : (depths : List ℕ) (c : Call) (a : Answer) → TrueAnswer depths c a l → Placed (accepted depths c a l)
  placed_accepted depths (Configure w) a t = s
  placed_accepted depths (Arrive b n g) a t = placed_arrives (column_room depths l b) b t.0
  placed_accepted depths Step a t = placed_stepped (progress_in a)
  placed_accepted depths (Work c) a t = s
  placed_accepted depths Fetch a t = placed_handed
  placed_accepted depths (Finish m) a t = placed_spent true m t.1
  placed_accepted depths (Discard m) a t = placed_spent false m t.1
  placed_accepted depths Tell a t = s

  placed_told : (depths : List ℕ) (c : Call) (r : Result Answer Refusal) → Truly depths c r l → Placed (told depths c r l)
  placed_told depths c (Err e) t = s
  placed_told depths c (Ok a) t = placed_accepted depths c a t

pub one_place : Always OnePlace
one_place p q bs cs =
    told_keeps (λ _ l. Placed l) bs (placed_none (length bs)) (λ _ e l s. placed_told l s (depths_of bs) e.asked e.answered)
    p (trace p (put_up bs) cs) (true_answers p q bs cs)
