-- Calm bearers, and what being busy is in numbers.
use Rattle.std.proofs.Common.{◌≡◌, ℕ, ◌≤◌, true, false, List, [], ◌∷◌, refl, arith}
use Rattle.std.proofs.lemmas.Bool.{true_from_ne_false}
use Rattle.board.specs.Bearers.{Bearer, after_arm, after_disarm}
use Rattle.machine.specs.Tidy.{busy_count, Calm, TidyCore}
use Rattle.machine.specs.State.{Core, State, configured, busy, is_open, unconfigured}
use Rattle.machine.specs.Numbers.{holds, times}

pub calm_armed : (v : Bearer) → v.signal ≡ false → v.waiting ≡ [] → Calm (after_arm false v)
calm_armed v q w = record { quiet = grind arith; empty = λ _. grind arith }

pub calm_disarmed : (v : Bearer) → Calm (after_disarm v)
calm_disarmed v = record { quiet = refl; empty = λ e. cc e }

abbrev pub TidyState : State → Type 0
TidyState (unconfigured u) = Unit {0}
TidyState (configured s x) = TidyCore (is_open s x) x

-- busy or not, as numbers
held_times : (n : ℕ) (l : List ℕ) → holds n l ≡ true → 1 ≤ times n l
held_times n [] e = cc
held_times n (h ∷ t) e = grind (arith, held_times n t)

pub free_times : (n : ℕ) (l : List ℕ) → holds n l ≡ false → times n l ≡ 0
free_times n [] e = refl
free_times n (h ∷ t) e = grind (arith, free_times n t)

pub counted_held : (n : ℕ) (l : List ℕ) → 1 ≤ times n l → holds n l ≡ true
counted_held n l h = true_from_ne_false (holds n l) (λ e. absurd (omega (arith, h, free_times n l e)))

pub busy_turns : (x : Core) (n : ℕ) → busy x n ≡ true → 1 ≤ busy_count x.listed x.grant n
busy_turns x n e = grind (arith, held_times)

pub free_turns : (x : Core) (n : ℕ) → busy x n ≡ false → busy_count x.listed x.grant n ≡ 0
free_turns x n e = grind (arith, free_times)
