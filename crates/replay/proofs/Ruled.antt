-- What call a turn makes: an arrival is the next packet's, and no turn configures, discards or tells.
use Rattle.std.proofs.Common.{◌≡◌, ℕ, [], ◌∷◌, List, Some, None, Option, refl, ap, subst}
use Rattle.std.proofs.lemmas.Bool.{cond_both}
use Rattle.std.specs.List.{AllByRecursion}
use Rattle.std.specs.Option.{option_map}
use Rattle.capture.specs.declared.packets.Captured.{Captured}
use Rattle.machine.specs.declared.calls.Call.{Call}
use Rattle.machine.specs.declared.calls.Call.TheVariants.{Configure, Arrive, Work, Finish, Discard, Tell}
use Rattle.policy.specs.Batches.{Batches}
use Rattle.replay.specs.Stages.{Task, Stage, Rule, next, arrival, first_of, rules, turn}

abbrev pub Ruled : Stage → Option Call → Type 0
Ruled x (Some (Arrive b n t)) = option_map arrival (next x) ≡ Some (Arrive b n t)
Ruled x (Some (Configure s)) = ⊥
Ruled x (Some (Discard n)) = ⊥
Ruled x (Some Tell) = ⊥
Ruled x _ = Unit {0}

-- what every rule's call is, the call of the first that applies is
first_is : (P : Option Call → Type 0) → P None → (rs : List Rule) → AllByRecursion (λ (r : Rule). P r.1) rs → P (first_of rs)
first_is P none [] all = none
first_is P none (r ∷ rs) all = cond_both r.0 r.1 (first_of rs) P (λ _. all.0) (λ _. first_is P none rs all.1)

module _ (x : Stage) where
  ruled_arrival : (o : Option Captured) → next x ≡ o → Ruled x (option_map arrival o)
  ruled_arrival None e = tt
  ruled_arrival (Some q) e = ap (option_map arrival) e

  ruled_finish : (o : Option Task) → Ruled x (option_map (λ (t : Task). Finish t.number) o)
  ruled_finish None = tt
  ruled_finish (Some t) = tt

  ruled_work : (f : Task → ℕ) (o : Option Task) → Ruled x (option_map (λ (t : Task). Work (f t)) o)
  ruled_work f None = tt
  ruled_work f (Some t) = tt

  turn_ruled : (p : Batches) → Ruled x (turn p x)
  unfolding turn
  turn_ruled p =
      first_is (Ruled x) tt (rules p x)
      (tt, (ruled_arrival (next x) refl, (ruled_finish x.task, (tt, (ruled_work _ x.task, (tt, (tt, (tt, tt))))))))

  pub ruled : (p : Batches) (c : Call) → turn p x ≡ Some c → Ruled x (Some c)
  ruled p c t = subst (Ruled x) t (turn_ruled p)
