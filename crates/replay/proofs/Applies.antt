-- The cases of a turn: which rule is the first that applies, and what is then known.
use Rattle.std.proofs.Common.{◌≡◌, ◌-◌, ◌<◌, ◌≤◌, min, Bool, true, false, eqb, leb, List, [], ◌∷◌, Some, None, Option, is_ok, is_some, refl, sym, ap, ◌∙◌, arith}
use Rattle.std.specs.List.{slice_get}
use Rattle.std.specs.Option.{option_map, option_map_or}
use Rattle.std.proofs.lemmas.Bool.{cond_both, leb-true, leb-false, eqb-true, eqb-false}
use Rattle.capture.specs.declared.packets.Captured.{Captured}
use Rattle.machine.specs.declared.calls.Call.{Call}
use Rattle.machine.specs.declared.calls.Call.TheVariants.{Step, Work, Fetch, Finish}
use Rattle.machine.specs.Standard.{standard}
use Rattle.machine.specs.Machine.{call}
use Rattle.board.specs.Bearers.{any_in}
use Rattle.policy.specs.Batches.{Batches}
use Rattle.replay.specs.Stages.{Task, Stage, core, closed, now, to_end, moment, span, is_due, is_through, is_over, arrival, turn}

-- no packet is due, the application's packet is not through, and a step is refused
pub record Past (p : Batches) (x : Stage) : Type 0 where
  pub few : closed x < 1000
  pub due : is_due x ≡ false
  pub through : is_through x ≡ false
  pub refused : is_ok (call p Step x.receiver).0 ≡ false

pub data Applies (p : Batches) (x : Stage) : Option Call → Type 0 where
  ended : 1000 ≤ closed x → Applies p x None
  arrives : {q : Captured} {qs : List Captured} → closed x < 1000 → x.coming ≡ q ∷ qs → moment x q ≤ now x → Applies p x (Some (arrival q))
  finishes : {t : Task} → closed x < 1000 → is_due x ≡ false → x.task ≡ Some t → t.to_go ≡ 0 → Applies p x (Some (Finish t.number))
  steps : closed x < 1000 → is_due x ≡ false → is_through x ≡ false → is_ok (call p Step x.receiver).0 ≡ true → Applies p x (Some Step)
  works : {t : Task} → Past p x → x.task ≡ Some t → (t.to_go ≡ 0 → ⊥) → Applies p x (Some (Work (min t.to_go (span x))))
  fetches : Past p x → x.task ≡ None → any_in (core x.receiver).queue ≡ true → Applies p x (Some Fetch)
  over : Past p x → x.task ≡ None → any_in (core x.receiver).queue ≡ false → is_over x ≡ true → Applies p x None
  idles : Past p x → x.task ≡ None → any_in (core x.receiver).queue ≡ false → is_over x ≡ false → Applies p x (Some (Work (span x)))

-- a task that is not there
no_task : (o : Option Task) → is_some o ≡ false → o ≡ None
no_task None h = refl
no_task (Some t) h = cc h

module _ (p : Batches) (x : Stage) where
  arrive_case : closed x < 1000 → (l : List Captured) → x.coming ≡ l → option_map_or (λ q. leb (moment x q) (now x)) (slice_get l 0) false ≡ true →
      Applies p x (option_map arrival (slice_get l 0))
  arrive_case c [] e h = cc h
  arrive_case c (q ∷ qs) e h = arrives c e (leb-true (moment x q) (now x) h)

  finish_case : closed x < 1000 → is_due x ≡ false → (o : Option Task) → x.task ≡ o → option_map_or (λ (t : Task). eqb t.to_go 0) o false ≡ true →
      Applies p x (option_map (λ (t : Task). Finish t.number) o)
  finish_case c d None e h = cc h
  finish_case c d (Some t) e h = finishes c d e (eqb-true t.to_go 0 h)

  work_case : Past p x → (o : Option Task) → x.task ≡ o → is_some o ≡ true → Applies p x (option_map (λ (t : Task). Work (min t.to_go (span x))) o)
  work_case k None e h = cc h
  work_case k (Some t) e h = works k e (eqb-false t.to_go 0 (sym (ap to_go_by e) ∙ k.through))
    where
      to_go_by : Option Task → Bool
      to_go_by o = option_map_or (λ (t : Task). eqb t.to_go 0) o false

  pub applies : Applies p x (turn p x)
  unfolding turn
  applies =
      cond_both (leb 1000 (closed x)) _ _ (Applies p x) (λ e. ended (leb-true 1000 (closed x) e))
      (λ e. let c : closed x < 1000 = leb-false 1000 (closed x) e in
      cond_both (is_due x) _ _ (Applies p x) (arrive_case c x.coming refl)
      (λ d. cond_both (is_through x) _ _ (Applies p x) (finish_case c d x.task refl)
      (λ t. cond_both (is_ok (call p Step x.receiver).0) _ _ (Applies p x) (steps c d t)
      (λ r. let k : Past p x = record { few = c; due = d; through = t; refused = r } in
      cond_both (is_some x.task) _ _ (Applies p x) (work_case k x.task refl)
      (λ n. let none = no_task x.task n in
      cond_both (any_in (core x.receiver).queue) _ _ (Applies p x) (fetches k none)
      (λ q. cond_both (is_over x) _ _ (Applies p x) (over k none q) (idles k none q)))))))

-- how far work goes where no packet is due
module _ (x : Stage) where
  least_by : (core x.receiver).clock.elapsed < standard.period → (l : List Captured) →
      option_map_or (λ q. leb (moment x q) (now x)) (slice_get l 0) false ≡ false →
      1 ≤ option_map_or (λ q. min (to_end x) (moment x q - now x)) (slice_get l 0) (to_end x)
  least_by e [] d = omega arith
  least_by e (q ∷ qs) d = omega (arith, leb-false (moment x q) (now x) d)

  pub span_least : is_due x ≡ false → (core x.receiver).clock.elapsed < standard.period → 1 ≤ span x
  span_least d e = least_by e x.coming d

  most_by : (l : List Captured) → option_map_or (λ q. min (to_end x) (moment x q - now x)) (slice_get l 0) (to_end x) ≤ to_end x
  most_by [] = omega arith
  most_by (q ∷ qs) = omega arith

  pub span_most : span x ≤ to_end x
  span_most = most_by x.coming
