-- One change of a bearer after another.
use Rattle.std.proofs.Common.{◌≡◌, ℕ, ◌<◌, ◌≤◌, List, length, set, sym, ap, ◌∙◌, ⊎_elim}
use Rattle.std.proofs.lemmas.List.{get_or-set_same, set-set, set_past}
use Rattle.std.proofs.lemmas.Bool.{cases_lt}
use Rattle.board.specs.Bearers.{Bearer, absent, bearer_of, changed}

module _ (bs : List Bearer) (b : ℕ) where
  pub bearer_changed : (f : Bearer → Bearer) → b < length bs → bearer_of (changed bs b f) b ≡ f (bearer_of bs b)
  bearer_changed f l = get_or-set_same bs b (f (bearer_of bs b)) absent l

  pub changed_twice : (f g : Bearer → Bearer) → changed (changed bs b f) b g ≡ changed bs b (λ x. g (f x))
  changed_twice f g =
      ⊎_elim
      (λ l. set-set bs b _ _ ∙ ap (λ x. set bs b (g x)) (bearer_changed f l))
      (λ l. set-set bs b _ _ ∙ set_past bs b _ l ∙ sym (set_past bs b _ l))
      (cases_lt b (length bs))

  pub changed_past : (f : Bearer → Bearer) → length bs ≤ b → changed bs b f ≡ bs
  changed_past f l = set_past bs b (f (bearer_of bs b)) l
