-- A number is looked for in a list, one element after another.
use Rattle.std.proofs.Common.{◌≡◌, ℕ, ◌+◌, ◌<◌, true, List, ◌∷◌, length, drop, Some, arith, ap, ◌∙◌, ◌||◌, get_or, cond, take, ◌++◌, [], sym, append_assoc, suc, refl}
use Rattle.std.specs.List.{slice_get}
use Rattle.std.proofs.lemmas.List.{at_drop_more, take_more}
use Rattle.std.specs.Prelude.{remove}
use Rattle.std.proofs.lemmas.Option.{slice_get_within, get_or_from_slice_get, slice_get-get_or}
use Rattle.std.proofs.lemmas.Bool.{ne_eqb, eq-eqb}
use Rattle.machine.specs.Numbers.{holds, without}

pub held_here : (n : ℕ) (xs : List ℕ) (i : ℕ) → slice_get xs i ≡ Some n → holds n (drop i xs) ≡ true
held_here n xs i e =
    at_drop_more (holds n) xs i 0 (slice_get_within xs i n e)
    ∙ ap (λ t. t || holds n (drop (i + 1) xs)) (eq-eqb (get_or xs i 0) n (get_or_from_slice_get xs i n 0 e))

pub held_further : (n : ℕ) (xs : List ℕ) (i : ℕ) → i < length xs → (slice_get xs i ≡ Some n → ⊥) → holds n (drop i xs) ≡ holds n (drop (i + 1) xs)
held_further n xs i l ne =
    at_drop_more (holds n) xs i 0 l
    ∙ ap (λ t. t || holds n (drop (i + 1) xs)) (ne_eqb (get_or xs i 0) n (λ e. ne (slice_get-get_or xs i 0 l ∙ ap Some e)))

pub left_here : (n : ℕ) (xs : List ℕ) (i : ℕ) → i < length xs → get_or xs i 0 ≡ n → take i xs ++ without n (drop i xs) ≡ remove xs i
left_here n xs i l e =
    ap (λ ys. take i xs ++ ys)
    (at_drop_more (without n) xs i 0 l ∙ ap (λ t. cond t (drop (i + 1) xs) (get_or xs i 0 ∷ without n (drop (i + 1) xs))) (eq-eqb (get_or xs i 0) n e))
    ∙ (let k : i + 1 ≡ suc i = omega arith in rw k refl)

pub left_further : (n : ℕ) (xs : List ℕ) (i : ℕ) → i < length xs → (get_or xs i 0 ≡ n → ⊥) →
    take i xs ++ without n (drop i xs) ≡ take (i + 1) xs ++ without n (drop (i + 1) xs)
left_further n xs i l ne =
    ap (λ ys. take i xs ++ ys)
    (at_drop_more (without n) xs i 0 l ∙ ap (λ t. cond t (drop (i + 1) xs) (get_or xs i 0 ∷ without n (drop (i + 1) xs))) (ne_eqb (get_or xs i 0) n ne))
    ∙ sym (append_assoc (take i xs) (get_or xs i 0 ∷ []) (without n (drop (i + 1) xs)))
    ∙ ap (λ ys. ys ++ without n (drop (i + 1) xs)) (sym (take_more xs i 0 l))
