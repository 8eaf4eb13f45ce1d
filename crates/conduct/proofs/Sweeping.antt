-- A sweep of the receipts of all that is out leaves none.
use Rattle.std.proofs.Common.{◌≡◌, ℕ, true, cond, List, [], ◌∷◌, ◌++◌, map, reverse, is_ok, Err, refl, sym, ap, ◌∙◌, arith}
use mathlib.Core.List.{reverse-cons}
use Rattle.std.proofs.lemmas.List.{map_push, reverse-append}
use Rattle.machine.specs.declared.calls.Call.TheVariants.{Discard}
use Rattle.machine.specs.declared.refusals.Refusal.{Refusal}
use Rattle.machine.specs.State.{State, out_of}
use Rattle.policy.specs.Batches.{Batches}
use Rattle.machine.specs.Machine.{call}
use Rattle.machine.specs.Numbers.{holds, times, without}
use Rattle.machine.proofs.Loads.{counted_held}
use Rattle.machine.proofs.Moved.{happens}
use Rattle.machine.proofs.OneCall.{outs, call_refused, discard_done}
use Rattle.machine.proofs.Basics.{times-append, times-without}
use Rattle.receiver.specs.declared.receipts.Receipt.{Receipt}
use Rattle.receiver.specs.Receivers.{Receiving}
use Rattle.conduct.specs.Lists.{receipts_of, unspent}
use Rattle.conduct.specs.Sweeps.{swept, Sweeps}

-- turned round, numbers stand as often, and receipts are those of the numbers turned round
times-reverse : (n : ℕ) (ns : List ℕ) → times n (reverse ns) ≡ times n ns
times-reverse n [] = refl
times-reverse n (m ∷ ms) = rw (reverse-cons m ms) (omega (arith, times-append n (reverse ms) (m ∷ []), times-reverse n ms))

reverse_unspent : (ns : List ℕ) → reverse (map unspent ns) ≡ map unspent (reverse ns)
reverse_unspent [] = refl
reverse_unspent (n ∷ ns) =
    reverse-cons (unspent n) (map unspent ns) ∙ ap (λ rs. rs ++ unspent n ∷ []) (reverse_unspent ns) ∙ sym (map_push unspent (reverse ns) n)
    ∙ ap (map unspent) (sym (reverse-cons n ns))

module _ (p : Batches) where
  -- numbers that are out as often as they come, in whatever order
  none_left : (ns : List ℕ) (t : State) → ((m : ℕ) → times m ns ≡ times m (out_of t)) → (swept p t (map unspent ns)).1 ≡ []
  none_left [] t h = refl
  none_left (n ∷ ns) t h =
      let held : holds n (out_of t) ≡ true = counted_held n (out_of t) (grind (arith, h n)) in
      let done = discard_done p n t held in
      let out : out_of (call p (Discard n) t).1 ≡ without n (out_of t) = outs (happens p (Discard n) t) ∙ ap (λ r. cond (is_ok r) (without n (out_of t)) (out_of t)) done in
      rw done (none_left ns (call p (Discard n) t).1 (λ m. rw out (omega (arith, h m, times-without m n (out_of t) held))))

  pub all_spent : (t : State) (rs : List Receipt) → rs ≡ receipts_of t → (swept p t (reverse rs)).1 ≡ []
  all_spent t rs e =
      rw (e, reverse_unspent) (none_left (reverse (out_of t)) t (λ m. times-reverse m (out_of t)))

-- A sweep has come to a receiver s, with x the last that is held then, and goes on to what all come to. If x is refused, it ends there: with the receiver u, as s
-- was, and x put back.
pub ends_there : {P : Type 0} (p : P → Batches) (r s u : Receiving P) (all held back : List Receipt) (x : Receipt) (e : Refusal) → s.policy ≡ r.policy →
    swept (p r.policy) s.state (reverse (held ++ x ∷ [])) ≡ swept (p r.policy) r.state (reverse all) →
    Err e ≡ (call (p s.policy) (Discard x.number) s.state).0 → u ≡ record s { state = (call (p s.policy) (Discard x.number) s.state).1 } → back ≡ held ++ x ∷ [] →
    Sweeps (p r.policy) r all u back
ends_there p r s u all held back x e same goes_on value is put =
    let turned : reverse (held ++ x ∷ []) ≡ x ∷ reverse held = reverse-append held (x ∷ []) in
    let refused : (call (p r.policy) (Discard x.number) s.state).0 ≡ Err e = rw (← same) (sym value) in
    let stays : (call (p s.policy) (Discard x.number) s.state).1 ≡ s.state = call_refused (p s.policy) (Discard x.number) s.state e (sym value) in
    let ended : swept (p r.policy) s.state (x ∷ reverse held) ≡ (s.state, x ∷ reverse held) = rw refused in
    let whole : (s.state, x ∷ reverse held) ≡ swept (p r.policy) r.state (reverse all) = sym ended ∙ ap (swept (p r.policy) s.state) (sym turned) ∙ goes_on in
    record {
      receiver = cc (is, same, stays, ap (λ (w : State × List Receipt). w.0) whole);
      left_is = ap reverse put ∙ turned ∙ ap (λ (w : State × List Receipt). w.1) whole;
    }

-- so a receipt that is put back was not of all that is out
pub not_all_out : {P : Type 0} (p : Batches) (r u : Receiving P) (all held back : List Receipt) (x : Receipt) → Sweeps p r all u back → back ≡ held ++ x ∷ [] →
    all ≡ receipts_of r.state → ⊥
not_all_out p r u all held back x ends put out =
    let none : x ∷ reverse held ≡ [] = sym (reverse-append held (x ∷ [])) ∙ ap reverse (sym put) ∙ ends.left_is ∙ all_spent p r.state all out in
    cc none
