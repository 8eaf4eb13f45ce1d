-- Arrival order: where the answers are true to the ledger, the numbers of one bearer go through its columns in the order of their arrival.
use Rattle.std.proofs.Common.{◌≡◌, ℕ, ◌+◌, ◌<◌, Bool, cond, eqb, List, [], ◌∷◌, ◌++◌, length, get_or, replicate, set, drop, Some, Ok, Err, Result, sym, refl, ap, ◌∙◌, subst, ⊎_elim, append_assoc, append-nil, arith, true, suc}
use Rattle.std.specs.List.{slice_get}
use Rattle.std.proofs.lemmas.Bool.{cond_both, eq-eqb, ne_eqb, cases_lt, eqb-true, cases_eq}
use Rattle.std.proofs.lemmas.List.{get_or_past, get_or-replicate, length-replicate}
use Rattle.std.proofs.lemmas.List.Elements.{filter-append}
use Rattle.std.proofs.lemmas.Grind.{flat_map-append}
use Rattle.board.specs.Bearers.{Bearer}
use Rattle.machine.specs.declared.answers.Answer.{Answer}
use Rattle.machine.specs.declared.answers.Answer.TheVariants.{Stepped}
use Rattle.machine.specs.declared.answers.Progress.TheVariants.{Begun, Empty, Taken, Rescheduled, Completed}
use Rattle.machine.specs.declared.calls.Call.{Call}
use Rattle.machine.specs.declared.calls.Call.TheVariants.{Configure, Arrive, Step, Work, Fetch, Finish, Discard, Tell}
use Rattle.machine.specs.declared.refusals.Refusal.{Refusal}
use Rattle.machine.specs.State.{put_up}
use Rattle.policy.specs.Batches.{Batches}
use Rattle.machine.specs.Trace.{Entry, trace}
use Rattle.machine.specs.Ledger.{Ledger, column, arrives, stepped, progress_in, queue_room, column_room, told, depths_of, ledger}
use Rattle.machine.specs.Laws.{Always, TrueStep, Truly, TrueAnswers, fetched_by, arrived_by, comes_on, if_accepted, fetches, arrivals, ArrivalOrder}
use Rattle.machine.proofs.Lines.{Line, mine, line_to, line_push, line_middle, line_at, line_places, mine_rise}
use Rattle.machine.proofs.Pushed.{told_keeps}
use Rattle.machine.proofs.Agreement.{true_answers}
use Rattle.machine.proofs.Basics.{at_set, front}
use Rattle.machine.specs.Numbers.{holds}

-- what holds of each column holds after one of them was set
each_column : (P : ℕ → List ℕ → Type 0) (cs : List (List ℕ)) (b : ℕ) (c : List ℕ) → b < length cs → P b c →
    ((d : ℕ) → (d ≡ b → ⊥) → P d (get_or cs d [])) → (d : ℕ) → P d (get_or (set cs b c) d [])
each_column P cs b c h here there d =
    at_set (P d) cs b d c [] (λ e _. subst (λ i. P i c) (sym e) here) (λ past. there d (λ e. omega (arith, past e, h)))

neither : (t : Bool) → cond {A = List ℕ} t [] [] ≡ []
neither t = cond_both t [] [] (λ l. l ≡ []) (λ _. refl) (λ _. refl)

none_in : (k b : ℕ) → get_or {A = List ℕ} (replicate k []) b [] ≡ []
none_in k b = grind (arith, get_or-replicate, get_or_past, length-replicate)

-- origin says on which bearer each number arrived
module _ (origin : ℕ → ℕ) where
  -- the numbers of bearer b rise from those fetched (f) through the queue (q) to its column (c), all below k
  abbrev Row : List ℕ → List ℕ → ℕ → ℕ → List ℕ → Type 0
  Row f q k b c = Line origin b 0 (mine origin b (f ++ q) ++ c) k

  -- so for every bearer, where cs are the columns; and so do all the numbers that arrived on it (a)
  record Order (f : List ℕ) (a : ℕ → List ℕ) (q : List ℕ) (cs : List (List ℕ)) (k : ℕ) : Type 0 where
    pub row : (b : ℕ) → Row f q k b (get_or cs b [])
    pub came : (b : ℕ) → Line origin b 0 (a b) k

  order_nothing : (n : ℕ) → Order [] (λ _. []) [] (replicate n []) 0
  order_nothing n = record { row = λ b. rw (none_in n b) (omega arith); came = λ b. omega arith }

  module _ {f : List ℕ} {a : ℕ → List ℕ} {q : List ℕ} {cs : List (List ℕ)} {k : ℕ} (o : Order f a q cs k) where
    order_arrives : (b : ℕ) (room : Bool) → b < length cs → origin k ≡ b →
        Order f (λ d. a d ++ cond (eqb b d) (k ∷ []) []) q (cond room (set cs b (get_or cs b [] ++ k ∷ [])) cs) (k + 1)
    order_arrives b room h e = record {
      row = cond_both room _ _ (λ (ds : List (List ℕ)). (d : ℕ) → Row f q (k + 1) d (get_or ds d []))
          (λ _. each_column (Row f q (k + 1)) cs b _ h (rw (← append_assoc) (line_push origin b 0 k _ e (o.row b))) (λ d _. up d _ (o.row d)))
          (λ _ d. up d _ (o.row d));
      came = λ d. cond_both (eqb b d) (k ∷ []) [] (λ new. Line origin d 0 (a d ++ new) (k + 1))
          (λ i. line_push origin d 0 k (a d) (e ∙ eqb-true b d i) (o.came d)) (λ _. rw append-nil (up d _ (o.came d)));
    }
      where
        up : (d : ℕ) (ns : List ℕ) → Line origin d 0 ns k → Line origin d 0 ns (k + 1)
        up d ns = line_to origin d 0 k (k + 1) ns (omega arith)

    -- n is the front of a column, and c is behind it
    order_taken : (b n : ℕ) (c : List ℕ) (room : Bool) → get_or cs b [] ≡ n ∷ c → Order f a (cond room (q ++ n ∷ []) q) (set cs b c) k
    order_taken b n c room e = record {
      row = cond_both room _ _ (λ (p : List ℕ). (d : ℕ) → Row f p k d (get_or (set cs b c) d []))
          (λ _. each_column (Row f (q ++ n ∷ []) k) cs b c shown
          (rw (joined b, eq-eqb (origin n) b middle.0, append_assoc) here)
          (λ d i. rw (joined d, ne_eqb (origin n) d (λ j. i (sym j ∙ middle.0)), append-nil) (o.row d)))
          (λ _. each_column (Row f q k) cs b c shown middle.1 (λ d _. o.row d));
      came = o.came;
    }
      where
        here : Row f q k b (n ∷ c)
        here = rw e at (o.row b)

        middle : (origin n ≡ b) × Row f q k b c
        middle = line_middle origin b 0 k n (mine origin b (f ++ q)) c here

        shown : b < length cs
        shown = ⊎_elim (λ h. h) (λ h. cc (e, get_or_past cs b [] h)) (cases_lt b (length cs))

        joined : (d : ℕ) → mine origin d (f ++ (q ++ n ∷ [])) ≡ mine origin d (f ++ q) ++ cond (eqb (origin n) d) (n ∷ []) []
        joined d = ap (mine origin d) (sym (append_assoc f q (n ∷ []))) ∙ filter-append (λ m. eqb (origin m) d) (f ++ q) (n ∷ [])

    order_fetched : (n : ℕ) → slice_get q 0 ≡ Some n → Order (f ++ n ∷ []) a (drop 1 q) cs k
    order_fetched n e = record { row = λ b. rw append_assoc (rw (front n q e) at (o.row b)); came = o.came }

    order_places : (b i j x y m n : ℕ) → i < j → slice_get f i ≡ Some m → slice_get (a b) x ≡ Some m → slice_get f j ≡ Some n → slice_get (a b) y ≡ Some n →
        x < y
    order_places b i j x y m n h fm am fn an = line_places origin b 0 k x y m n (a b) am an less (o.came b)
      where
        its : (z l : ℕ) → slice_get (a b) z ≡ Some l → origin l ≡ b
        its z l e = (line_at origin b 0 k z l (a b) e (o.came b)).1

        less : m < n
        less = mine_rise origin b q (get_or cs b []) k 0 i j m n f h fm fn (its x m am) (its y n an) (o.row b)

-- in order by some origin, and by each that agrees with it on the numbers given: the next may arrive on any bearer
abbrev InOrder : List ℕ → (ℕ → List ℕ) → Ledger → Type 0
InOrder f a l = (o : ℕ → ℕ) × ((u : ℕ → ℕ) → ((n : ℕ) → n < l.next → u n ≡ o n) → Order u f a l.columns.queue l.columns.waiting l.next)

module _ (f : List ℕ) (a : ℕ → List ℕ) (l : Ledger) (s : InOrder f a l) where
  still : InOrder (f ++ []) (λ b. a b ++ []) l
  still = simp append-nil s

  told_arrives : (b : ℕ) (room : Bool) → b < length l.columns.waiting → InOrder f (λ d. a d ++ cond (eqb b d) (l.next ∷ []) []) (arrives room b l)
  told_arrives b room h =
      (λ n. cond (eqb n l.next) b (s.0 n), λ u same. order_arrives u (s.1 u (λ n i. grind (arith, same n))) b room h (grind (arith, same l.next)))

  told_stepped : (answer : Answer) → TrueStep (progress_in answer) l → InOrder (f ++ fetched_by answer) (λ b. a b ++ []) (stepped (progress_in answer) l)
  told_stepped (Stepped (Begun b q)) t = still
  told_stepped (Stepped Empty) t = still
  told_stepped (Stepped (Taken n q)) t =
      let e = front n (column l l.serving) t.0 in rw e (simp append-nil (s.0, λ u same. order_taken u (s.1 u same) l.serving n _ (queue_room l) e))
  told_stepped (Stepped Rescheduled) t = still
  told_stepped (Stepped Completed) t = still
  told_stepped _ t = absurd t

  in_order_told : (depths : List ℕ) (c : Call) (r : Result Answer Refusal) → Truly depths c r l →
      InOrder (f ++ if_accepted fetched_by r) (λ b. a b ++ cond (comes_on b c) (if_accepted arrived_by r) []) (told depths c r l)
  in_order_told depths c (Err e) t = simp (neither, append-nil) s
  in_order_told depths (Configure w) (Ok x) t = rw t still
  in_order_told depths (Arrive b n g) (Ok x) t = rw (t.1, append-nil) (told_arrives b (column_room depths l b) t.0)
  in_order_told depths Step (Ok x) t = told_stepped x t
  in_order_told depths (Work c) (Ok x) t = rw t still
  in_order_told depths Fetch (Ok x) t = rw t.1 (simp append-nil (s.0, λ u same. order_fetched u (s.1 u same) t.0.number t.2))
  in_order_told depths (Finish n) (Ok x) t = rw t.0 still
  in_order_told depths (Discard n) (Ok x) t = rw t.0 still
  in_order_told depths Tell (Ok x) t = rw t.1 still

in_order : (p : Batches) (bs : List Bearer) (es : List Entry) → TrueAnswers p bs es → InOrder (fetches es) (λ b. arrivals b es) (ledger bs es)
in_order p bs es t =
    told_keeps (λ fs l. InOrder (fetches fs) (λ b. arrivals b fs) l) bs (λ _. 0, λ u _. order_nothing u (length bs))
    (λ fs e l s h. simp (flat_map-append, append-nil) (in_order_told (fetches fs) (λ b. arrivals b fs) l s (depths_of bs) e.asked e.answered h))
    p es t es [] (sym (append-nil es))

-- where a number stands that a list holds
stands_at : (n : ℕ) (ns : List ℕ) → holds n ns ≡ true → (k : ℕ) × (slice_get ns k ≡ Some n)
stands_at n [] h = cc h
stands_at n (m ∷ ns) h =
    ⊎_elim
    (λ (e : m ≡ n). (0, ap Some e))
    (λ (other : m ≡ n → ⊥). let k = stands_at n ns (grind (arith, h, other)) in (suc k.0, k.1))
    (cases_eq m n)

pub arrival_order : Always ArrivalOrder
arrival_order p q bs cs b m n arrived_m arrived_n fetched =
    let s = in_order p bs (trace p (put_up bs) cs) (true_answers p q bs cs) in
    let k = stands_at m (arrivals b (trace p (put_up bs) cs)) arrived_m in
    let l = stands_at n (arrivals b (trace p (put_up bs) cs)) arrived_n in
    (k.0, l.0, order_places s.0 (s.1 s.0 (λ _ _. refl)) b fetched.0 fetched.1 k.0 l.0 m n fetched.2 fetched.3 k.1 fetched.4 l.1, k.1, l.1)
