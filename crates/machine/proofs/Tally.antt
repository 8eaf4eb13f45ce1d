-- The ledger and the receiver hold the same: kept by every move of the receiver, and by the gate.
use Rattle.std.proofs.Common.{◌≡◌, ℕ, Bool, true, false, cond, ltb, List, [], ◌∷◌, ◌++◌, map, length, get_or, Some, None, Option, refl, sym, ap, ◌∙◌, subst, ◌<◌, arith}
use Rattle.std.proofs.Math.Seq.{map-set_same}
use Rattle.std.proofs.Math.ListN.{get_or-map}
use Rattle.std.proofs.lemmas.List.{map-set, map_push, length_push, length-map}
use Rattle.std.proofs.lemmas.Bool.{cond_both}
use Rattle.std.specs.List.{slice_get}
use Rattle.board.specs.declared.packets.Packet.{Packet}
use Rattle.board.specs.Bearers.{Bearer, absent, bearer_of, changed, has_room, after_arm, after_take, after_disarm}
use Rattle.machine.specs.declared.answers.Counts.{Counts}
use Rattle.machine.specs.Settings.{Settings}
use Rattle.machine.specs.declared.answers.Answer.{Answer}
use Rattle.machine.specs.declared.calls.Call.{Call}
use Rattle.machine.specs.declared.calls.Call.TheVariants.{Arrive}
use Rattle.machine.specs.declared.answers.Answer.TheVariants.{Arrived}
use Rattle.machine.specs.State.{Grant, Core, waits}
use Rattle.policy.specs.Batches.{Batches}
use Rattle.machine.specs.Moves.{one_numbered, one_bearer_full, one_queue_full, one_delivered, one_discarded, set_gate}
use Rattle.machine.specs.Ledger.{Ledger, column, column_room, queue_room, arrives, taken_from, handed_out, spent, accepted, counts_of}
use Rattle.machine.specs.Laws.{numbers, TrueAnswer}
use Rattle.machine.specs.Calls.{next_packet}
use Rattle.machine.proofs.Moved.{behind, Move, lost, stored, signalled, begun, emptied, taken, rescheduled, completed, worked, fetched, finished, discarded, told}
use Rattle.machine.proofs.Unmoved.{unmoved_bearers, gate_unmoved, armed_same}
use Rattle.machine.proofs.Basics.{tested}
use Rattle.machine.specs.Numbers.{holds, without}

-- what a column has of a bearer, and a bearer's depth
abbrev pub numbers_in : Bearer → List ℕ
numbers_in v = numbers v.waiting

abbrev pub depth_of : Bearer → ℕ
depth_of v = v.depth

-- a grant that runs serves the bearer last begun
abbrev Serving : Option Grant → ℕ → Type 0
Serving None b = Unit {0}
Serving (Some g) b = g.bearer ≡ b

-- over the parts that the ledger knows of, so that a move that leaves them alone leaves the statement as it is
pub record Tally (depths : List ℕ) (size : ℕ) (bs : List Bearer) (g : Option Grant) (q : List Packet) (o : List ℕ) (n : Counts) (l : Ledger) : Type 0 where
  pub waiting : map numbers_in bs ≡ l.columns.waiting
  pub depths_are : map depth_of bs ≡ depths
  pub serving : Serving g l.serving
  pub size_is : l.size ≡ size
  pub queue : numbers q ≡ l.columns.queue
  pub out : o ≡ l.columns.out
  pub counts : n ≡ counts_of l

abbrev pub TallyCore : List ℕ → Settings → Core → Ledger → Type 0
TallyCore depths s x l = Tally depths s.size x.bearers x.grant x.queue x.out x.counts l

module _ {depths : List ℕ} {size : ℕ} {bs : List Bearer} {g : Option Grant} {q : List Packet} {o : List ℕ} {n : Counts} {l : Ledger}
    (t : Tally depths size bs g q o n l) where
  -- what the ledger reads of a bearer, and of the queue, is so
  pub column_is : (b : ℕ) → numbers (waits bs b) ≡ column l b
  column_is b = sym (get_or-map numbers_in bs b absent) ∙ ap (λ cs. get_or cs b []) t.waiting

  pub column_room_is : (b : ℕ) → column_room depths l b ≡ has_room (bearer_of bs b)
  column_room_is b =
      let d : get_or depths b 0 ≡ (bearer_of bs b).depth = ap (λ ds. get_or ds b 0) (sym t.depths_are) ∙ get_or-map depth_of bs b absent in
      let n : length (column l b) ≡ length (waits bs b) = ap length (sym (column_is b)) ∙ length-map (waits bs b) (λ (p : Packet). p.number) in
      cc (d, n)

  pub queue_room_is : queue_room l ≡ ltb (length q) size
  queue_room_is =
      let n : length l.columns.queue ≡ length q = ap length (sym t.queue) ∙ length-map q (λ (p : Packet). p.number) in
      cc (n, t.size_is)

  -- a bearer changed that shows the same packets and depth; another grant on the bearer last begun
  reshown : (b : ℕ) (f : Bearer → Bearer) → numbers_in (f (bearer_of bs b)) ≡ numbers (waits bs b) → (f (bearer_of bs b)).depth ≡ (bearer_of bs b).depth →
      Tally depths size (changed bs b f) g q o n l
  reshown b f e d = record {
    waiting = map-set_same numbers_in bs b (f (bearer_of bs b)) absent e ∙ t.waiting;
    depths_are = map-set_same depth_of bs b (f (bearer_of bs b)) absent d ∙ t.depths_are;
    serving = t.serving;
    size_is = t.size_is;
    queue = t.queue;
    out = t.out;
    counts = t.counts;
  }

  regranted : (h : Option Grant) → Serving h l.serving → Tally depths size bs h q o n l
  regranted h e = record { waiting = t.waiting; depths_are = t.depths_are; serving = e; size_is = t.size_is; queue = t.queue; out = t.out; counts = t.counts }

  -- one more packet behind those of a bearer
  one_more : (b : ℕ) (f : Bearer → Bearer) (p : Packet) → p.number ≡ n.numbered → (f (bearer_of bs b)).waiting ≡ waits bs b ++ p ∷ [] →
      (f (bearer_of bs b)).depth ≡ (bearer_of bs b).depth → Tally depths size (changed bs b f) g q o (one_numbered n) (arrives true b l)
  one_more b f p e w d = record {
    waiting = map-set numbers_in bs b (f (bearer_of bs b)) ∙ cc (t.waiting, w, e, column_is b, map_push (λ (p : Packet). p.number) (waits bs b) p, t.counts);
    depths_are = map-set_same depth_of bs b (f (bearer_of bs b)) absent d ∙ t.depths_are;
    serving = t.serving;
    size_is = t.size_is;
    queue = t.queue;
    out = t.out;
    counts = ap one_numbered t.counts;
  }

  one_lost : (b : ℕ) → Tally depths size bs g q o (one_bearer_full (one_numbered n)) (arrives false b l)
  one_lost b = record {
    waiting = t.waiting;
    depths_are = t.depths_are;
    serving = t.serving;
    size_is = t.size_is;
    queue = t.queue;
    out = t.out;
    counts = cc (t.counts, length_push l.columns.bearer_full l.next);
  }

  -- the oldest packet of a bearer is taken: into the queue, or lost
  one_taken : (b : ℕ) (p : Packet) (rest : List Packet) (h : Option Grant) → waits bs b ≡ p ∷ rest → Serving h l.serving → (room : Bool) →
      Tally depths size (changed bs b after_take) h (cond room (q ++ p ∷ []) q) o (cond room n (one_queue_full n))
      (record l { columns = taken_from room b l.columns })
  one_taken b p rest h w e room = record {
    waiting = map-set numbers_in bs b (after_take (bearer_of bs b)) ∙ cc (t.waiting, w, front);
    depths_are = map-set_same depth_of bs b (after_take (bearer_of bs b)) absent refl ∙ t.depths_are;
    serving = e;
    size_is = t.size_is;
    queue = tested (λ r. numbers (cond r (q ++ p ∷ []) q) ≡ (taken_from r b l.columns).queue) room
        (λ _. map_push (λ (p : Packet). p.number) q p ∙ cc (t.queue, front)) (λ _. t.queue);
    out = t.out;
    counts = tested (λ r. cond r n (one_queue_full n) ≡ counts_of (record l { columns = taken_from r b l.columns })) room
        (λ _. t.counts) (λ _. cc (t.counts, front, length_push l.columns.queue_full p.number));
  }
    where
      front : get_or l.columns.waiting b [] ≡ p.number ∷ numbers rest
      front = sym (column_is b) ∙ ap numbers w

  -- the queue's front goes out
  one_fetched : (p : Packet) (rest : List Packet) → q ≡ p ∷ rest →
      Tally depths size bs g rest (o ++ p.number ∷ []) n (record l { columns = handed_out l.columns })
  one_fetched p rest e =
      let front : l.columns.queue ≡ p.number ∷ numbers rest = sym t.queue ∙ ap numbers e in
      record {
        waiting = t.waiting;
        depths_are = t.depths_are;
        serving = t.serving;
        size_is = t.size_is;
        queue = cc front;
        out = cc (t.out, front);
        counts = t.counts;
      }

  -- a number that is out is spent
  one_spent : (done : Bool) (m : ℕ) →
      Tally depths size bs g q (without m o) (cond done (one_delivered n) (one_discarded n)) (record l { columns = spent done m l.columns })
  one_spent done m = record {
    waiting = t.waiting;
    depths_are = t.depths_are;
    serving = t.serving;
    size_is = t.size_is;
    queue = t.queue;
    out = ap (without m) t.out;
    counts = tested (λ f. cond f (one_delivered n) (one_discarded n) ≡ counts_of (record l { columns = spent f m l.columns })) done
        (λ _. cc (t.counts, length_push l.columns.delivered m)) (λ _. cc (t.counts, length_push l.columns.discarded m));
  }

-- the gate's setting
pub gate_tally : (depths : List ℕ) (s : Settings) (x y : Core) (l : Ledger) → TallyCore depths s y l → TallyCore depths s (set_gate s x y) l
gate_tally depths s x y l t =
    let u = gate_unmoved s x y in
    record {
      waiting = unmoved_bearers numbers_in (λ _. refl) y (set_gate s x y) u ∙ t.waiting;
      depths_are = unmoved_bearers depth_of (λ _. refl) y (set_gate s x y) u ∙ t.depths_are;
      serving = subst (λ (g : Option Grant). Serving g l.serving) (sym u.grant) t.serving;
      size_is = t.size_is;
      queue = ap numbers u.queue ∙ t.queue;
      out = u.out ∙ t.out;
      counts = u.counts ∙ t.counts;
    }

-- every move, with what it is told of
module _ (s : Settings) (p : Batches) (x : Core) (depths : List ℕ) (l : Ledger) (t : TallyCore depths s x l) where
  serves_last : (g : Grant) → x.grant ≡ Some g → g.bearer ≡ l.serving
  serves_last g e = subst (λ (h : Option Grant). Serving h l.serving) e t.serving

  arrived_tally : (b : ℕ) (room : Bool) (y : Core) → has_room (bearer_of x.bearers b) ≡ room →
      TallyCore depths s y (arrives room b l) → TallyCore depths s y (arrives (column_room depths l b) b l)
  arrived_tally b room y h k = subst (λ r. TallyCore depths s y (arrives r b l)) (sym (column_room_is t b ∙ h)) k

  pub move_tally : (c : Call) (a : Answer) (y : Core) → Move s p x c a y → TallyCore depths s y (accepted depths c a l)
  move_tally _ _ y (lost {b = b} i r _) = arrived_tally b false y r (one_lost t b)
  move_tally _ _ y (stored {b = b} {n = n} {t = tag} i r h _) =
      arrived_tally b true y r (one_more t b (behind (next_packet n tag x)) (next_packet n tag x) refl refl refl)
  move_tally _ _ y (signalled {b = b} {n = n} {t = tag} i r h _) =
      arrived_tally b true y r (one_more t b (λ v. after_disarm (behind (next_packet n tag x) v)) (next_packet n tag x) refl refl refl)
  move_tally _ _ _ (begun e i u h _) = record {
    waiting = t.waiting;
    depths_are = t.depths_are;
    serving = refl;
    size_is = t.size_is;
    queue = t.queue;
    out = t.out;
    counts = t.counts;
  }
  move_tally _ _ _ (emptied {g = g} e w n _) =
      regranted (reshown t g.bearer after_take (cc w) refl) (Some (record { bearer = g.bearer; left = 0 })) (serves_last g e)
  move_tally _ _ y (taken {g = g} {q = q} {rest = rest} {m = m} {room = room} e w n less r _) =
      let last = serves_last g e in
      subst (λ b. TallyCore depths s y (record l { columns = taken_from (queue_room l) b l.columns })) last
      (subst (λ o. TallyCore depths s y (record l { columns = taken_from o g.bearer l.columns })) (sym (queue_room_is t ∙ r))
      (one_taken t g.bearer q rest (Some (record { bearer = g.bearer; left = m })) w last room))
  move_tally _ _ _ (rescheduled e _) = regranted t None tt
  move_tally _ _ _ (completed {g = g} {o = o} e w i _) =
      let b : ℕ = g.bearer in
      regranted (cond_both o _ _ (λ (bs : List Bearer). Tally depths s.size bs x.grant x.queue x.out x.counts l)
      (λ _. let same = armed_same false (bearer_of x.bearers b) in reshown t b (after_arm false) (ap numbers_in same) (ap depth_of same))
      (λ _. t)) None tt
  move_tally _ _ _ (worked h _) = t
  move_tally _ _ _ (fetched {q = q} {rest = rest} e _) = one_fetched t q rest e
  move_tally _ _ _ (finished {n = n} h) = one_spent t true n
  move_tally _ _ _ (discarded {n = n} h) = one_spent t false n
  move_tally _ _ _ told = t

  -- and its answer is true to the ledger
  out_is : (n : ℕ) → holds n x.out ≡ true → holds n l.columns.out ≡ true
  out_is n h = ap (holds n) (sym t.out) ∙ h

  arrived_true : (b n tag : ℕ) (room : Bool) → b < length x.bearers → has_room (bearer_of x.bearers b) ≡ room →
      TrueAnswer depths (Arrive b n tag) (Arrived (record { number = x.counts.numbered; accepted = room })) l
  arrived_true b n tag room i r = (
    omega (arith, i, length-map x.bearers numbers_in, ap length t.waiting),
    cc (t.counts, column_room_is t b, r),
  )

  pub move_true : (c : Call) (a : Answer) (y : Core) → Move s p x c a y → TrueAnswer depths c a l
  move_true _ _ _ (lost {b = b} {n = n} {t = tag} i r _) = arrived_true b n tag false i r
  move_true _ _ _ (stored {b = b} {n = n} {t = tag} i r h _) = arrived_true b n tag true i r
  move_true _ _ _ (signalled {b = b} {n = n} {t = tag} i r h _) = arrived_true b n tag true i r
  move_true _ _ _ (begun e i u h _) = tt
  move_true _ _ _ (emptied e w n _) = tt
  move_true _ _ _ (taken {g = g} {q = q} e w n less r _) = (
    ap (λ k. slice_get k 0) (ap (column l) (sym (serves_last g e)) ∙ sym (column_is t g.bearer) ∙ ap numbers w),
    sym (queue_room_is t ∙ r),
  )
  move_true _ _ _ (rescheduled e _) = tt
  move_true _ _ _ (completed e w i _) = tt
  move_true _ _ _ (worked h _) = refl
  move_true _ _ _ (fetched {q = q} e _) = (q, refl, ap (λ k. slice_get k 0) (sym t.queue ∙ ap numbers e))
  move_true _ _ _ (finished {n = n} h) = (refl, out_is n h)
  move_true _ _ _ (discarded {n = n} h) = (refl, out_is n h)
  move_true _ _ _ told = (_, refl, t.counts)
