-- What a writer's answer tells its caller, for one call and for the next behind it.
use Rattle.std.proofs.Common.{◌≡◌, ℕ, ◌+◌, ◌<◌, ◌≤◌, List, ◌++◌, length, get_or, drop, Ok, Err, ◌∙◌, inl, inr, arith}
use Rattle.std.specs.List.{flat_map}
use Rattle.std.proofs.lemmas.List.{at_drop_more, length-append}
use Rattle.std.proofs.lemmas.Bool.{cases_Bool, cond-true, cond-false, le-leb, leb-true, leb-false}
use Rattle.table.specs.declared.memory.TooSmall.{TooSmall}
use Rattle.table.specs.Memory.{answer, fits, left, refusal, written}
use Rattle.table.proofs.Places.{written_written}

module _ (m : List ℕ) (at : ℕ) (bs : List ℕ) where
  -- a text that fits is accepted
  pub answer_fits : at + length bs ≤ length m → answer m at bs ≡ Ok (at + length bs)
  answer_fits h = cond-true (fits m at bs) _ _ (le-leb (at + length bs) (length m) h)

  -- what an accepted text says
  pub answer_ok : (next : ℕ) → answer m at bs ≡ Ok next → (at + length bs ≤ length m) × (next ≡ at + length bs) × (left m at bs ≡ written m at bs)
  answer_ok next ok =
      elim (cases_Bool (fits m at bs)) [
        | inl y ↦
            let a : answer m at bs ≡ Ok (at + length bs) = cond-true (fits m at bs) _ _ y in
            (leb-true (at + length bs) (length m) y, cc, cond-true (fits m at bs) _ _ y)
        | inr n ↦
            let a : answer m at bs ≡ Err (refusal bs) = cond-false (fits m at bs) _ _ n in
            let z : ◌≡◌ {A = ℕ} 0 1 = cc in
            absurd (omega arith)
      ]

  -- what a refused text says
  pub answer_err : (e : TooSmall) → answer m at bs ≡ Err e → (length m < at + length bs) × (e ≡ refusal bs) × (left m at bs ≡ m)
  answer_err e err =
      elim (cases_Bool (fits m at bs)) [
        | inl y ↦
            let a : answer m at bs ≡ Ok (at + length bs) = cond-true (fits m at bs) _ _ y in
            let z : ◌≡◌ {A = ℕ} 0 1 = cc in
            absurd (omega arith)
        | inr n ↦
            let a : answer m at bs ≡ Err (refusal bs) = cond-false (fits m at bs) _ _ n in
            (leb-false (at + length bs) (length m) n, cc, cond-false (fits m at bs) _ _ n)
      ]

-- what is left to write, behind a text that was accepted, gives the whole
pub answer_next : {m' : List ℕ} {next : ℕ} (m : List ℕ) (at : ℕ) (xs ys : List ℕ) → answer m at xs ≡ Ok next → m' ≡ left m at xs → (written m' next ys ≡ written m at (xs ++ ys)) × (next + length ys ≡ at + length (xs ++ ys))
answer_next {m'} {next} m at xs ys ok after =
    let o = answer_ok m at xs next ok in
    (rw (after ∙ o.2, o.1) (written_written m at xs ys (omega arith)), omega (arith, length-append xs ys))

-- one turn of a loop that writes the text of each of some things, as `table` is of its rows
module _ {X : Type 0} (f : X → List ℕ) (things : List X) (i : ℕ) (d : X) (more : i < length things) (m : List ℕ) (at : ℕ) where
  pub joined_next : {m' : List ℕ} {next : ℕ} → answer m at (f (get_or things i d)) ≡ Ok next → m' ≡ left m at (f (get_or things i d)) → (written m' next (flat_map f (drop (i + 1) things)) ≡ written m at (flat_map f (drop i things))) × (next + length (flat_map f (drop (i + 1) things)) ≡ at + length (flat_map f (drop i things)))
  joined_next ok after = rw (at_drop_more (flat_map f) things i d more) (answer_next m at (f (get_or things i d)) (flat_map f (drop (i + 1) things)) ok after)

  pub joined_err : {e : TooSmall} → answer m at (f (get_or things i d)) ≡ Err e → length m < at + length (flat_map f (drop i things))
  joined_err {e} err =
      rw (at_drop_more (flat_map f) things i d more, length-append) (omega (arith, (answer_err m at (f (get_or things i d)) e err).0))
