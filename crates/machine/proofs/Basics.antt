-- Small facts about tests, lists and changed bearers.
use Rattle.std.proofs.Common.{◌≡◌, ℕ, zero, suc, ◌<◌, ◌≤◌, Bool, true, false, cond, eqb, ltb, List, [], ◌∷◌, map, length, drop, set, Some, sym, refl, ap, ◌∙◌, subst, ⊎_elim, arith, get_or, ◌+◌, ◌++◌}
use Rattle.std.specs.List.{slice_get}
use Rattle.std.proofs.lemmas.List.{set-get_or, get_or-set_other, get_or_past, nil_from_length, get_or-set_same, set_past}
use Rattle.std.proofs.lemmas.Bool.{cases_lt, cases_eq, ltb-false}
use Rattle.board.specs.Bearers.{Bearer, absent, bearer_of, changed}
use Rattle.machine.specs.State.{Core}
use Rattle.machine.specs.Moves.{on_each}
use Rattle.machine.specs.Numbers.{holds, times, without}

-- what holds of each value of a test
pub tested : (P : Bool → Type 0) (b : Bool) → (b ≡ true → P true) → (b ≡ false → P false) → P b
tested P true t f = t refl
tested P false t f = f refl

-- an element of a list in which one was set: that one, if it is in the list, or as it was
pub at_set : {A : Type 0} (P : A → Type 0) (xs : List A) (i j : ℕ) (x d : A) →
    (j ≡ i → i < length xs → P x) → ((j ≡ i → length xs ≤ i) → P (get_or xs j d)) → P (get_or (set xs i x) j d)
at_set P xs i j x d there else =
    ⊎_elim
    (λ (e : j ≡ i). ⊎_elim
    (λ (l : i < length xs). rw e (subst P (sym (get_or-set_same xs i x d l)) (there e l)))
    (λ (l : length xs ≤ i). subst (λ ys. P (get_or ys j d)) (sym (set_past xs i x l)) (else (λ _. l)))
    (cases_lt i (length xs)))
    (λ (n : j ≡ i → ⊥). subst P (sym (get_or-set_other xs i j x d n)) (else (λ e. absurd (n e))))
    (cases_eq j i)

-- so a bearer of a board on which one was changed
pub at_changed : (P : Bearer → Type 0) (bs : List Bearer) (b c : ℕ) (f : Bearer → Bearer) →
    (c ≡ b → b < length bs → P (f (bearer_of bs b))) → ((c ≡ b → length bs ≤ b) → P (bearer_of bs c)) → P (bearer_of (changed bs b f) c)
at_changed P bs b c f there else = at_set P bs b c (f (bearer_of bs b)) absent there else

-- a bearer that is not shown is not armed
pub past_disarmed : (bs : List Bearer) (b : ℕ) → length bs ≤ b → (bearer_of bs b).armed ≡ false
past_disarmed bs b l = ap (λ (v : Bearer). v.armed) (get_or_past bs b absent l)

-- what a change at one bearer leaves to every bearer
pub on_changed : (P : Bearer → Type 0) (bs : List Bearer) (b c : ℕ) (f : Bearer → Bearer) → P (f (bearer_of bs b)) → P (bearer_of bs c) →
    P (bearer_of (changed bs b f) c)
on_changed P bs b c f there else = at_changed P bs b c f (λ _ _. there) (λ _. else)

-- a change that leaves its bearer as it is
pub changed_same : (bs : List Bearer) (b : ℕ) (f : Bearer → Bearer) → f (bearer_of bs b) ≡ bearer_of bs b → changed bs b f ≡ bs
changed_same bs b f e = ap (set bs b) e ∙ set-get_or bs b absent

-- a bearer of a board on which all were changed
pub at_mapped : (P : Bearer → Type 0) (f : Bearer → Bearer) (bs : List Bearer) (b : ℕ) → P absent → P (f (bearer_of bs b)) → P (bearer_of (map f bs) b)
at_mapped P f [] b none there = none
at_mapped P f (x ∷ bs) zero none there = there
at_mapped P f (x ∷ bs) (suc b) none there = at_mapped P f bs b none there

-- a list by its first number
pub front : (n : ℕ) (c : List ℕ) → slice_get c 0 ≡ Some n → c ≡ n ∷ drop 1 c
front n [] e = cc
front n (m ∷ c) e = cc

-- nothing is left
pub none_left : {A : Type 0} (xs : List A) → ltb 0 (length xs) ≡ false → xs ≡ []
none_left xs h = nil_from_length xs (omega (arith, ltb-false 0 (length xs) h))

-- what each move keeps, moves on one bearer after another keep
pub on_each_keeps : (P : Core → Type 0) (move : ℕ → Core → Core) (i n : ℕ) → ((b : ℕ) (x : Core) → b < i + n → P x → P (move b x)) → (x : Core) → P x →
    P (on_each move i n x)
on_each_keeps P move i zero keep x h = h
on_each_keeps P move i (suc n) keep x h =
    on_each_keeps P move (i + 1) n (λ b y l. keep b y (omega arith)) (move i x) (keep i x (omega arith) h)

-- how often a number is in two lists, and in one that another number has left; and how long that one then is
pub times-append : (n : ℕ) (l m : List ℕ) → times n (l ++ m) ≡ times n l + times n m
times-append n [] m = omega arith
times-append n (h ∷ t) m = omega (arith, times-append n t m)

pub times-without : (n m : ℕ) (l : List ℕ) → holds m l ≡ true → times n (without m l) + cond (eqb m n) 1 0 ≡ times n l
times-without n m [] h = cc
times-without n m (k ∷ l) h = grind (arith, times-without n m l)

pub length-without : (n : ℕ) (l : List ℕ) → holds n l ≡ true → length (without n l) + 1 ≡ length l
length-without n [] h = cc
length-without n (k ∷ l) h = grind (arith, length-without n l)
