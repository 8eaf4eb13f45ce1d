-- What a trace decides of packets is what its ledger moves for good: a number delivered, or dropped at a full bearer or queue.
use Rattle.std.proofs.Common.{◌≡◌, ℕ, zero, suc, Bool, true, false, cond, eqb, List, [], ◌∷◌, ◌++◌, length, take, replicate, set, Some, None, Option, Ok, Err, Result, fold, refl, sym, ap, ◌∙◌, subst, append-nil, arith, ◌||◌, get_or}
use Rattle.std.proofs.lemmas.Bool.{cond_both}
use Rattle.std.proofs.lemmas.List.{length-set, length-replicate}
use Rattle.std.proofs.lemmas.List.Folds.{list_any-append}
use Rattle.std.proofs.lemmas.List.Sums.{fold-append}
use Rattle.std.specs.List.{slice_get}
use Rattle.board.specs.Bearers.{Bearer}
use Rattle.machine.specs.declared.answers.Answer.{Answer}
use Rattle.machine.specs.declared.answers.Answer.TheVariants.{Arrived, Stepped}
use Rattle.machine.specs.declared.answers.Progress.TheVariants.{Begun, Empty, Taken, Rescheduled, Completed}
use Rattle.machine.specs.declared.calls.Call.{Call}
use Rattle.machine.specs.declared.calls.Call.TheVariants.{Configure, Arrive, Step, Work, Fetch, Finish, Discard, Tell}
use Rattle.machine.specs.declared.refusals.Refusal.{Refusal}
use Rattle.machine.specs.State.{put_up}
use Rattle.policy.specs.Batches.{Batches, IsBounded}
use Rattle.machine.specs.Trace.{Entry, trace}
use Rattle.machine.specs.Ledger.{Ledger, Columns, nothing, column, put_in, taken_from, spent, accepted, told, depths_of, ledger, queue_room, column_room}
use Rattle.machine.specs.Laws.{closed_in, TrueAnswer, Truly}
use Rattle.machine.specs.Numbers.{holds}
use Rattle.machine.proofs.Agreement.{true_answers}
use Rattle.machine.proofs.Basics.{front}
use Rattle.machine.proofs.Pushed.{told_keeps}
use Rattle.replay.specs.declared.fates.Decision.{Decision}
use Rattle.replay.specs.declared.fates.Fallen.{Fallen}
use Rattle.replay.specs.declared.fates.Fate.{Fate}
use Rattle.replay.specs.declared.fates.Fate.TheVariants.{Delivered, BearerFull, QueueFull, Waiting, Pending}
use Rattle.replay.specs.Fates.{dropped, decided, noted, fates}

-- the column of the numbers of which a fate was decided. None is decided to be waiting or pending
abbrev pub settled : Fate → Columns → List ℕ
settled Delivered k = k.delivered
settled BearerFull k = k.bearer_full
settled QueueFull k = k.queue_full
settled _ k = []

-- whether two fates are the same, and the numbers that a decision adds to those of a fate
abbrev same : Fate → Fate → Bool
same Delivered Delivered = true
same BearerFull BearerFull = true
same QueueFull QueueFull = true
same Waiting Waiting = true
same Pending Pending = true
same _ _ = false

same_as : (f : Fate) → same f f ≡ true
same_as Delivered = refl
same_as BearerFull = refl
same_as QueueFull = refl
same_as Waiting = refl
same_as Pending = refl

abbrev added : Fate → Option Decision → List ℕ
added f None = []
added f (Some d) = cond (same f d.fate) (d.number ∷ []) []

-- a decision moves its number in the columns, and no other
abbrev Settles : Option Decision → Columns → Columns → Type 0
Settles d k j = (f : Fate) → settled f j ≡ settled f k ++ added f d

settles : (d : Option Decision) (k j : Columns) → j.delivered ≡ k.delivered ++ added Delivered d → j.bearer_full ≡ k.bearer_full ++ added BearerFull d →
    j.queue_full ≡ k.queue_full ++ added QueueFull d → added Waiting d ≡ [] → added Pending d ≡ [] → Settles d k j
settles d k j e f g w q Delivered = e
settles d k j e f g w q BearerFull = f
settles d k j e f g w q QueueFull = g
settles d k j e f g w q Waiting = sym w
settles d k j e f g w q Pending = sym q

settles_none : (k j : Columns) → j.delivered ≡ k.delivered → j.bearer_full ≡ k.bearer_full → j.queue_full ≡ k.queue_full → Settles None k j
settles_none k j e f g =
    settles None k j (e ∙ sym (append-nil k.delivered)) (f ∙ sym (append-nil k.bearer_full)) (g ∙ sym (append-nil k.queue_full)) refl refl

settles_arrival : (room : Bool) (b : ℕ) (l : Ledger) → Settles (dropped (Arrived (record { number = l.next; accepted = room }))) l.columns (put_in room b l)
settles_arrival true b l = settles_none l.columns (put_in true b l) refl refl refl
settles_arrival false b l =
    settles (Some (record { number = l.next; fate = BearerFull })) l.columns (put_in false b l) (sym (append-nil l.columns.delivered)) refl
    (sym (append-nil l.columns.queue_full)) refl refl

settles_taken : (room : Bool) (b n : ℕ) (k : Columns) → take 1 (get_or k.waiting b []) ≡ n ∷ [] →
    Settles (dropped (Stepped (Taken n room))) k (taken_from room b k)
settles_taken true b n k h = settles_none k (taken_from true b k) refl refl refl
settles_taken false b n k h =
    settles (Some (record { number = n; fate = QueueFull })) k (taken_from false b k) (sym (append-nil k.delivered)) (sym (append-nil k.bearer_full))
    (ap (λ ns. k.queue_full ++ ns) h) refl refl

settles_finish : (n : ℕ) (k : Columns) → Settles (Some (record { number = n; fate = Delivered })) k (spent true n k)
settles_finish n k =
    settles (Some (record { number = n; fate = Delivered })) k (spent true n k) refl (sym (append-nil k.bearer_full)) (sym (append-nil k.queue_full)) refl refl

-- what an entry that is true to the ledger decides, the ledger moves
module _ (depths : List ℕ) (l : Ledger) where
  abbrev Moves : Option Decision → Ledger → Type 0
  Moves d m = Settles d l.columns m.columns

  settles_step : (a : Answer) → TrueAnswer depths Step a l → Moves (decided Step (Ok a)) (accepted depths Step a l)
  settles_step (Stepped (Begun b q)) t = settles_none l.columns l.columns refl refl refl
  settles_step (Stepped Empty) t = settles_none l.columns l.columns refl refl refl
  settles_step (Stepped (Taken n room)) t =
      subst (λ r. Moves (dropped (Stepped (Taken n r))) (accepted depths Step (Stepped (Taken n room)) l)) (sym t.1)
      (settles_taken (queue_room l) l.serving n l.columns (ap (take 1) (front n (column l l.serving) t.0)))
  settles_step (Stepped Rescheduled) t = settles_none l.columns l.columns refl refl refl
  settles_step (Stepped Completed) t = settles_none l.columns l.columns refl refl refl
  settles_step _ t = absurd t

  settles_accepted : (c : Call) (a : Answer) → TrueAnswer depths c a l → Moves (decided c (Ok a)) (accepted depths c a l)
  settles_accepted (Configure s) a t = subst (λ b. Moves (dropped b) l) (sym t) (settles_none l.columns l.columns refl refl refl)
  settles_accepted (Arrive b n g) a t =
      subst (λ r. Moves (dropped r) (accepted depths (Arrive b n g) a l)) (sym t.1) (settles_arrival (column_room depths l b) b l)
  settles_accepted Step a t = settles_step a t
  settles_accepted (Work c) a t = subst (λ b. Moves (dropped b) l) (sym t) (settles_none l.columns l.columns refl refl refl)
  settles_accepted Fetch a t =
      subst (λ b. Moves (dropped b) (accepted depths Fetch a l)) (sym t.1) (settles_none l.columns (accepted depths Fetch a l).columns refl refl refl)
  settles_accepted (Finish n) a t = settles_finish n l.columns
  settles_accepted (Discard n) a t =
      subst (λ b. Moves (dropped b) (accepted depths (Discard n) a l)) (sym t.0) (settles_none l.columns (spent false n l.columns) refl refl refl)
  settles_accepted Tell a t = subst (λ b. Moves (dropped b) l) (sym t.1) (settles_none l.columns l.columns refl refl refl)

  settles_told : (c : Call) (r : Result Answer Refusal) → Truly depths c r l → Moves (decided c r) (told depths c r l)
  settles_told c (Err r) t = settles_none l.columns l.columns refl refl refl
  settles_told c (Ok a) t = settles_accepted c a t

-- What is noted of a number agrees with the columns: it stands in the column of its fate, or else in none of these. Past the packets, nothing is noted.
abbrev pub Decides : Option Fallen → ℕ → Columns → Type 0
Decides None i k = (f : Fate) → holds i (settled f k) ≡ false
Decides (Some g) i k = holds i (settled g.fate k) ≡ true

abbrev pub DecidesAt : Option (Option Fallen) → ℕ → Columns → Type 0
DecidesAt None i k = Unit {0}
DecidesAt (Some o) i k = Decides o i k

holds_append : (i : ℕ) (ms ns : List ℕ) → holds i (ms ++ ns) ≡ (holds i ms || holds i ns)
holds_append i ms ns = list_any-append (λ m. eqb m i) ms ns

-- an element of a list in which one was set
get_set : {A : Type 0} (P : Option A → Type 0) (xs : List A) (i j : ℕ) (x : A) → P None → (j ≡ i → P (Some x)) → ((j ≡ i → ⊥) → P (slice_get xs j)) →
    P (slice_get (set xs i x) j)
get_set P [] i j x none here there = none
get_set P (y ∷ ys) zero zero x none here there = here refl
get_set P (y ∷ ys) zero (suc j) x none here there = there (λ e. omega (arith, e))
get_set P (y ∷ ys) (suc i) zero x none here there = there (λ e. omega (arith, e))
get_set P (y ∷ ys) (suc i) (suc j) x none here there =
    get_set P ys i j x none (λ e. here (omega (arith, e))) (λ n. there (λ e. n (omega (arith, e))))

module _ (k j : Columns) (d : Option Decision) (s : Settles d k j) (i : ℕ) where
  -- a number that is not added stands where it stood
  kept : ((f : Fate) → holds i (added f d) ≡ false) → (o : Option (Option Fallen)) → DecidesAt o i k → DecidesAt o i j
  kept n None t = tt
  kept n (Some None) t = λ f. ap (holds i) (s f) ∙ holds_append i (settled f k) (added f d) ∙ cc (t f, n f)
  kept n (Some (Some g)) t = ap (holds i) (s g.fate) ∙ holds_append i (settled g.fate k) (added g.fate d) ∙ cc t

decides_noted : (k j : Columns) (d : Option Decision) → Settles d k j → (closed : ℕ) (fs : List (Option Fallen)) (i : ℕ) →
    DecidesAt (slice_get fs i) i k → DecidesAt (slice_get (noted d closed fs) i) i j
decides_noted k j None s closed fs i t = kept k j None s i (λ f. refl) (slice_get fs i) t
decides_noted k j (Some d) s closed fs i t =
    get_set (λ o. DecidesAt o i j) fs d.number i (Some (record { fate = d.fate; period = closed })) tt here
    (λ n. kept k j (Some d) s i (λ f. other n f) (slice_get fs i) t)
  where
    here : i ≡ d.number → holds i (settled d.fate j) ≡ true
    here e = ap (holds i) (s d.fate) ∙ holds_append i (settled d.fate k) (added d.fate (Some d)) ∙ grind (arith, e, same_as d.fate)

    other : (i ≡ d.number → ⊥) → (f : Fate) → holds i (added f (Some d)) ≡ false
    other n f = cond_both (same f d.fate) (d.number ∷ []) [] (λ ns. holds i ns ≡ false) (λ _. grind (arith, n)) (λ _. refl)

-- before any entry nothing is noted, and every column is empty
none_settled : (n : ℕ) (f : Fate) → settled f (nothing n).columns ≡ []
none_settled n Delivered = refl
none_settled n BearerFull = refl
none_settled n QueueFull = refl
none_settled n Waiting = refl
none_settled n Pending = refl

none_decided : (k : Columns) → ((f : Fate) → settled f k ≡ []) → (n i j : ℕ) → DecidesAt (slice_get (replicate n None) i) j k
none_decided k e zero i j = tt
none_decided k e (suc n) zero j = λ f. ap (holds j) (e f)
none_decided k e (suc n) (suc i) j = none_decided k e n i j

-- one more entry
pub fates_push : (n : ℕ) (es : List Entry) (e : Entry) → fates n (es ++ e ∷ []) ≡ noted (decided e.asked e.answered) (closed_in e.after) (fates n es)
unfolding fates
fates_push n es e = fold-append (λ fs (d : Entry). noted (decided d.asked d.answered) (closed_in d.after) fs) (replicate n None) es (e ∷ [])

-- as many as packets
length-noted : (d : Option Decision) (closed : ℕ) (fs : List (Option Fallen)) → length (noted d closed fs) ≡ length fs
length-noted None closed fs = refl
length-noted (Some d) closed fs = length-set fs d.number _

length-fold : (es : List Entry) (fs : List (Option Fallen)) →
    length (fold (λ fs (e : Entry). noted (decided e.asked e.answered) (closed_in e.after) fs) fs es) ≡ length fs
length-fold [] fs = refl
length-fold (e ∷ es) fs =
    length-fold es (noted (decided e.asked e.answered) (closed_in e.after) fs) ∙ length-noted (decided e.asked e.answered) (closed_in e.after) fs

pub length-fates : (n : ℕ) (es : List Entry) → length (fates n es) ≡ n
unfolding fates
length-fates n es = length-fold es (replicate n None) ∙ length-replicate n None

abbrev Rightly : ℕ → List Entry → Ledger → Type 0
Rightly n es l = (i : ℕ) → DecidesAt (slice_get (fates n es) i) i l.columns

rightly_starts : (n m : ℕ) → Rightly n [] (nothing m)
unfolding fates
rightly_starts n m i = none_decided (nothing m).columns (none_settled m) n i i

rightly_keeps : (n : ℕ) (depths : List ℕ) (es : List Entry) (e : Entry) (l : Ledger) → Rightly n es l → Truly depths e.asked e.answered l →
    Rightly n (es ++ e ∷ []) (told depths e.asked e.answered l)
rightly_keeps n depths es e l r t i =
    subst (λ fs. DecidesAt (slice_get fs i) i (told depths e.asked e.answered l).columns) (sym (fates_push n es e))
    (decides_noted l.columns (told depths e.asked e.answered l).columns (decided e.asked e.answered) (settles_told depths l e.asked e.answered t)
    (closed_in e.after) (fates n es) i (r i))

pub decides : (p : Batches) → IsBounded p → (bs : List Bearer) (cs : List Call) (n i : ℕ) →
    DecidesAt (slice_get (fates n (trace p (put_up bs) cs)) i) i (ledger bs (trace p (put_up bs) cs)).columns
decides p q bs cs n =
    let es : List Entry = trace p (put_up bs) cs in
    told_keeps (Rightly n) bs (rightly_starts n (length bs)) (rightly_keeps n (depths_of bs)) p es (true_answers p q bs cs) es [] (sym (append-nil es))
