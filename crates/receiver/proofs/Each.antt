-- A change made on one bearer after another is the change of all.
use Rattle.std.proofs.Common.{◌≡◌, ℕ, false, ◌+◌, ◌-◌, ◌<◌, ◌≤◌, List, [], ◌∷◌, ◌++◌, map, length, take, drop, zero, suc, refl, ap, arith}
use Rattle.board.specs.Bearers.{Bearer, bearer_of, any_in}
use Rattle.machine.specs.State.{Core}
use Rattle.machine.specs.Moves.{on_each}

-- the first i bearers are changed, and the rest is to be
abbrev pub changed_from : (Bearer → Bearer) → ℕ → List Bearer → List Bearer
changed_from f i bs = take i bs ++ map f (drop i bs)

pub all_changed : (f : Bearer → Bearer) (i : ℕ) (bs : List Bearer) → length bs ≤ i → changed_from f i bs ≡ bs
all_changed f zero [] l = refl
all_changed f (suc i) [] l = refl
all_changed f zero (v ∷ bs) l = absurd (omega arith)
all_changed f (suc i) (v ∷ bs) l = ap (λ r. v ∷ r) (all_changed f i bs (omega arith))

-- bearers in which nothing waits
abbrev pub Empty : List Bearer → Type 0
Empty bs = (b : ℕ) → any_in (bearer_of bs b).waiting ≡ false

-- moves on one bearer after another, one on
pub each_next : (move : ℕ → Core → Core) (i n : ℕ) (x : Core) → i < n → on_each move i (n - i) x ≡ on_each move (i + 1) (n - (i + 1)) (move i x)
each_next move i n x l = let e : n - i ≡ suc (n - (i + 1)) = omega arith in rw e refl

pub each_done : (move : ℕ → Core → Core) (i n : ℕ) (x : Core) → n ≤ i → on_each move i (n - i) x ≡ x
each_done move i n x l = let e : n - i ≡ 0 = omega arith in rw e refl
