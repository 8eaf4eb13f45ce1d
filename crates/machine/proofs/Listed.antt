-- Only bearers that are shown are listed or served, and each is listed once at most: so the poll list has no more entries than there are bearers, and fewer
-- while one is missing.
use Rattle.std.proofs.Common.{◌≡◌, ℕ, zero, suc, ◌<◌, ◌≤◌, Bool, false, List, [], ◌∷◌, length, None, refl, ap, ◌∙◌, ⊎_elim, arith}
use Rattle.std.proofs.lemmas.Bool.{cases_eq, cond_both}
use Rattle.std.proofs.lemmas.List.{length-set, length-map}
use Rattle.board.specs.Bearers.{Bearer, after_disarm, any_in}
use Rattle.machine.specs.Tidy.{busy_count, TidyCore, OnlyShown, Openable}
use Rattle.machine.specs.declared.answers.Answer.{Answer}
use Rattle.machine.specs.declared.calls.Call.{Call}
use Rattle.machine.specs.Settings.{Settings}
use Rattle.machine.specs.State.{Core, waits, busy, is_open}
use Rattle.policy.specs.Batches.{Batches}
use Rattle.machine.specs.Moves.{open_bearer, open_gate, shut_gate, set_gate}
use Rattle.machine.specs.Numbers.{holds, times, without}
use Rattle.machine.proofs.Basics.{tested, on_each_keeps, times-append, times-without, length-without}
use Rattle.machine.proofs.Loads.{free_times, free_turns}
use Rattle.machine.proofs.Moved.{Move, stored, signalled, begun, emptied, taken, rescheduled, completed}

-- of numbers below n, none of them twice, there are at most n, and fewer if one is missing
pub fits_in : (n : ℕ) (l : List ℕ) → ((b : ℕ) → times b l ≤ 1) → ((b : ℕ) → n ≤ b → times b l ≡ 0) → length l ≤ n
fits_in zero [] once below = omega arith
fits_in zero (b ∷ l) once below = absurd (grind (arith, below b))
fits_in (suc n) l once below =
    tested (λ _. length l ≤ suc n) (holds n l)
    (λ e. omega (
      arith,
      length-without n l e,
      fits_in n (without n l)
          (λ b. omega (arith, once b, times-without b n l e))
          (λ b i. ⊎_elim (λ (k : b ≡ n). rw k (grind (arith, once n, times-without n n l e))) (λ k. omega (arith, below b (omega arith), times-without b n l e)) (cases_eq b n)),
    ))
    (λ e. omega (
      arith,
      fits_in n l once
          (λ b i. ⊎_elim (λ (k : b ≡ n). rw k (free_times n l e)) (λ k. below b (omega arith)) (cases_eq b n)),
    ))

pub room_in : (n : ℕ) (l : List ℕ) → ((b : ℕ) → times b l ≤ 1) → ((b : ℕ) → n ≤ b → times b l ≡ 0) → (b : ℕ) → b < n → times b l ≡ 0 → length l < n
room_in n l once below b i none =
    let k = fits_in n (b ∷ l) (λ c. grind (arith, once c)) (λ c j. grind (arith, below c j)) in omega (arith, k)

pub openable_step : (n b : ℕ) (x : Core) → Openable n x → b < n → Openable n (open_bearer b x)
openable_step n b x h l =
    cond_both (busy x b) _ _ (Openable n) (λ _. h)
    (λ e. cond_both (any_in (waits x.bearers b)) _ _ (Openable n)
    (λ _. record {
      size = length-set _ b _ ∙ (length-set x.bearers b _ ∙ h.size);
      once = λ c. grind (arith, h.once c, times-append, free_turns x b e);
      shown = λ c i. grind (arith, h.shown c i, times-append);
    })
    (λ _. record { size = length-set x.bearers b _ ∙ h.size; once = h.once; shown = h.shown }))

pub openable_room : (n b : ℕ) (x : Core) → Openable n x → b < n → busy x b ≡ false → length x.listed < n
openable_room n b x h l e =
    room_in n x.listed h.once (λ c i. omega (arith, h.shown c i)) b l (omega (arith, free_turns x b e))

module _ (s : Settings) (p : Batches) (x : Core) where
  pub move_shown : OnlyShown x → (c : Call) (a : Answer) (y : Core) → Move s p x c a y → OnlyShown y
  move_shown h _ _ _ (stored l r e _) = λ c i. h c (omega (arith, length-set {A = Bearer}))
  move_shown h _ _ _ (signalled l r e _) = λ c i.
      let k : length x.bearers ≤ c = omega (arith, length-set {A = Bearer}) in grind (arith, h c k, times-append)
  move_shown h _ _ _ (begun e i u z _) = λ c k. omega (arith, h c k, ap (times c) i)
  move_shown h _ _ _ (emptied e w n _) = λ c i. let k : length x.bearers ≤ c = omega (arith, length-set {A = Bearer}) in grind (arith, h c k)
  move_shown h _ _ _ (taken e w n less r _) = λ c i. let k : length x.bearers ≤ c = omega (arith, length-set {A = Bearer}) in grind (arith, h c k)
  move_shown h _ _ _ (rescheduled e _) = λ c i. grind (arith, h c i, times-append)
  move_shown h _ _ _ (completed {o = o} e w r _) = λ c. cond_both o _ _ (λ (bs : List Bearer). length bs ≤ c → busy_count x.listed None c ≡ 0)
      (λ _ i. let k : length x.bearers ≤ c = omega (arith, length-set {A = Bearer}) in omega (arith, h c k))
      (λ _ i. omega (arith, h c i))
  move_shown h _ _ _ _ = h

pub tidy_openable : (gate : Bool) (x : Core) → TidyCore gate x → OnlyShown x → Openable (length x.bearers) x
tidy_openable gate x t h = record { size = refl; once = λ b. omega (arith, t.once b); shown = h }

-- the gate's setting
pub gate_shown : (s : Settings) (x y : Core) → Openable (length y.bearers) y → OnlyShown (set_gate s x y)
unfolding set_gate open_gate shut_gate
gate_shown s x y h =
    cond_both (is_open s x) _ _ OnlyShown
    (λ _. cond_both (is_open s y) _ _ OnlyShown (λ _. h.shown) (λ _ b i. h.shown b (omega (arith, length-map y.bearers after_disarm))))
    (λ _. cond_both (is_open s y) _ _ OnlyShown
    (λ _ b i. let o = on_each_keeps (Openable n) open_bearer 0 n (λ c z l k. openable_step n c z k (omega arith)) y h in o.shown b (omega arith))
    (λ _. h.shown))
  where
    n : ℕ
    n = length y.bearers
