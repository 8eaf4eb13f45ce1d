-- The gate, set at the end of a call, leaves all tidy that was tidy, whether it opens, shuts or stays.
use Rattle.std.proofs.Common.{◌≡◌, ℕ, zero, suc, ◌+◌, ◌<◌, ◌≤◌, Bool, true, false, cond, List, [], ◌∷◌, ◌++◌, length, Option, sym, refl, ◌∙◌, subst, ⊎_elim, arith}
use Rattle.std.proofs.lemmas.Bool.{cases_eq, cond_both}
use Rattle.std.proofs.lemmas.List.{length-set}
use Rattle.board.specs.Bearers.{Bearer, absent, bearer_of, changed, any_in, after_arm, after_disarm}
use Rattle.board.proofs.Changes.{changed_twice}
use Rattle.machine.specs.Tidy.{busy_count, ways, Calm, TidyCore}
use Rattle.machine.specs.Settings.{Settings}
use Rattle.machine.specs.State.{Grant, Core, waits, busy, is_open}
use Rattle.machine.specs.Moves.{arm, join, open_bearer, on_each, open_gate, shut_gate, set_gate}
use Rattle.machine.proofs.Basics.{at_changed, on_changed, at_mapped, none_left, past_disarmed, on_each_keeps, times-append}
use Rattle.machine.proofs.Loads.{calm_armed, calm_disarmed, busy_turns, free_turns}
use Rattle.machine.proofs.Unmoved.{unmoved_opened}

-- of moves on each bearer in turn: what each reaches at its own bearer and every move keeps
pub on_each_reaches : (P : Core → Type 0) (Q : ℕ → Core → Type 0) (move : ℕ → Core → Core) → ((b : ℕ) (x : Core) → P x → P (move b x)) →
    ((b : ℕ) (x : Core) → P x → Q b (move b x)) → ((b c : ℕ) (x : Core) → P x → Q c x → Q c (move b x)) →
    (i n : ℕ) (x : Core) → P x → (c : ℕ) → i ≤ c → c < i + n → Q c (on_each move i n x)
on_each_reaches P Q move keep reach stay i zero x h c low high = absurd (omega arith)
on_each_reaches P Q move keep reach stay i (suc n) x h c low high =
    ⊎_elim
    (λ (e : c ≡ i). (on_each_keeps (λ y. P y × Q c y) move (i + 1) n (λ b y _ k. (keep b y k.0, stay b c y k.0 k.1)) (move i x)
    (keep i x h, subst (λ d. Q d (move i x)) (sym e) (reach i x h))).1)
    (λ (ne : c ≡ i → ⊥). on_each_reaches P Q move keep reach stay (i + 1) n (move i x) (keep i x h) c (omega arith) (omega arith))
    (cases_eq c i)

-- The opening. What holds from bearer to bearer, of a board of n bearers.
record Opening (n : ℕ) (bs : List Bearer) (l : List ℕ) (g : Option Grant) : Type 0 where
  size : length bs ≡ n
  calm : (b : ℕ) → Calm (bearer_of bs b)
  once : (b : ℕ) → ways bs l g b ≤ 1

abbrev OpeningCore : ℕ → Core → Type 0
OpeningCore n x = Opening n x.bearers x.listed x.grant

abbrev Ready : ℕ → ℕ → Core → Type 0
Ready n c x = c < n → 1 ≤ ways x.bearers x.listed x.grant c

-- one bearer opened: it is armed, listed or served once, and no other is touched
record Opened (n b : ℕ) (x y : Core) : Type 0 where
  opening : OpeningCore n y
  ready : Ready n b y
  others : (c : ℕ) → (c ≡ b → ⊥) → ways y.bearers y.listed y.grant c ≡ ways x.bearers x.listed x.grant c

module _ (n b : ℕ) (x : Core) (h : OpeningCore n x) where
  same_opened : busy x b ≡ true → Opened n b x x
  same_opened e = record { opening = h; ready = λ _. omega (arith, busy_turns x b e); others = λ _ _. refl }

  armed_opened : busy x b ≡ false → waits x.bearers b ≡ [] → Opened n b x (arm b x)
  armed_opened e w =
      let free = free_turns x b e in
      record {
        opening = record {
          size = length-set x.bearers b _ ∙ h.size;
          calm = λ c. on_changed Calm x.bearers b c (after_arm false) (calm_armed (bearer_of x.bearers b) (h.calm b).quiet w) (h.calm c);
          once = λ c. at_changed (λ y. cond y.armed 1 0 + busy_count x.listed x.grant c ≤ 1) x.bearers b c (after_arm false) (λ i _. rw i (grind arith)) (λ _. h.once c);
        };
        ready = λ i. at_changed (λ y. 1 ≤ cond y.armed 1 0 + busy_count x.listed x.grant b) x.bearers b b (after_arm false)
            (λ _ _. grind arith) (λ k. absurd (omega (arith, k refl, h.size)));
        others = λ c k. at_changed (λ y. cond y.armed 1 0 + busy_count x.listed x.grant c ≡ ways x.bearers x.listed x.grant c) x.bearers b c (after_arm false) (λ i _. absurd (k i)) (λ _. refl);
      }

  listed_opened : busy x b ≡ false → Opened n b x (join b (record x { bearers = changed x.bearers b (λ v. after_disarm (after_arm false v)) }))
  listed_opened e =
      let f : Bearer → Bearer = λ v. after_disarm (after_arm false v) in
      let l : List ℕ = x.listed ++ b ∷ [] in
      let free = free_turns x b e in
      record {
        opening = record {
          size = length-set x.bearers b _ ∙ h.size;
          calm = λ c. on_changed Calm x.bearers b c f (calm_disarmed (after_arm false (bearer_of x.bearers b))) (h.calm c);
          once = λ c. at_changed (λ y. cond y.armed 1 0 + busy_count l x.grant c ≤ 1) x.bearers b c f
              (λ i _. rw i (grind (arith, times-append)))
              (λ k. ⊎_elim
              (λ (i : c ≡ b). rw i (grind (arith, past_disarmed x.bearers b (k i), times-append)))
              (λ (m : c ≡ b → ⊥). grind (arith, h.once c, times-append)) (cases_eq c b));
        };
        ready = λ _. at_changed (λ y. 1 ≤ cond y.armed 1 0 + busy_count l x.grant b) x.bearers b b f
            (λ _ _. grind (arith, times-append)) (λ _. grind (arith, times-append));
        others = λ c k. at_changed (λ y. cond y.armed 1 0 + busy_count l x.grant c ≡ ways x.bearers x.listed x.grant c) x.bearers b c f (λ i _. absurd (k i))
            (λ _. grind (arith, times-append));
      }

  step_opened : Opened n b x (open_bearer b x)
  step_opened = cond_both (busy x b) _ _ (Opened n b x) same_opened
      (λ e. cond_both (any_in (waits x.bearers b)) _ _ (Opened n b x)
      (λ _. subst (λ (k : List Bearer). Opened n b x (join b (record x { bearers = k }))) (sym (changed_twice x.bearers b (after_arm false) after_disarm)) (listed_opened e))
      (λ w. armed_opened e (none_left (waits x.bearers b) w)))

-- all bearers opened, from a shut gate
opened_tidy : (x : Core) → TidyCore false x → TidyCore true (open_gate x)
unfolding open_gate
opened_tidy x t =
    let n : ℕ = length x.bearers in
    let start : OpeningCore n x = record { size = refl; calm = t.calm; once = t.once } in
    let o : OpeningCore n (on_each open_bearer 0 n x) = on_each_keeps (OpeningCore n) open_bearer 0 n (λ b y _ k. (step_opened n b y k).opening) x start in
    record {
      calm = o.calm;
      once = o.once;
      shut = λ e. cc e;
      ready = λ _ c l. on_each_reaches (OpeningCore n) (Ready n) open_bearer (λ b y k. (step_opened n b y k).opening) (λ b y k. (step_opened n b y k).ready) kept 0 n x start c (omega arith) (omega (arith, o.size)) (omega (arith, o.size));
    }
  where
    kept : (b c : ℕ) (y : Core) → OpeningCore (length x.bearers) y → Ready (length x.bearers) c y → Ready (length x.bearers) c (open_bearer b y)
    kept b c y k r =
        ⊎_elim
        (λ (e : c ≡ b). subst (λ d. Ready (length x.bearers) d (open_bearer b y)) (sym e) (step_opened (length x.bearers) b y k).ready)
        (λ (ne : c ≡ b → ⊥). λ l. omega (arith, r l, (step_opened (length x.bearers) b y k).others c ne))
        (cases_eq c b)

-- all bearers disarmed
shut_tidy : (gate : Bool) (x : Core) → TidyCore gate x → TidyCore false (shut_gate x)
unfolding shut_gate
shut_tidy gate x t = record {
  calm = λ b. at_mapped Calm after_disarm x.bearers b (calm_disarmed absent) (calm_disarmed (bearer_of x.bearers b));
  once = λ b. at_mapped (λ y. cond y.armed 1 0 + busy_count x.listed x.grant b ≤ 1) after_disarm x.bearers b (omega (arith, t.once b)) (omega (arith, t.once b));
  shut = λ _ b. at_mapped (λ y. y.armed ≡ false) after_disarm x.bearers b refl refl;
  ready = λ e. cc e;
}

pub gate_tidy : (s : Settings) (x y : Core) → TidyCore (is_open s x) y → TidyCore (is_open s (set_gate s x y)) (set_gate s x y)
unfolding set_gate shut_gate
gate_tidy s x y t =
    cond_both (is_open s x) _ _ TidyAt
    (λ was. cond_both (is_open s y) _ _ TidyAt (λ is. same was is) (λ is. at_gate is (shut_tidy (is_open s x) y t)))
    (λ was. cond_both (is_open s y) _ _ TidyAt (λ is. opened is (opened_tidy y (subst (λ o. TidyCore o y) was t))) (λ is. same was is))
  where
    TidyAt : Core → Type 0
    TidyAt z = TidyCore (is_open s z) z

    same : {o : Bool} → is_open s x ≡ o → is_open s y ≡ o → TidyAt y
    same was is = subst (λ o. TidyCore o y) (was ∙ sym is) t

    opened : is_open s y ≡ true → TidyCore true (open_gate y) → TidyAt (open_gate y)
    opened is h = let u = unmoved_opened y in subst (λ o. TidyCore o (open_gate y)) (cc (is, u.clock, u.hold)) h

    at_gate : is_open s y ≡ false → TidyCore false (shut_gate y) → TidyAt (shut_gate y)
    at_gate is h = subst (λ o. TidyCore o (shut_gate y)) (sym is) h
