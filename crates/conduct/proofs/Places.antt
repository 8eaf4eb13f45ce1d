-- The receipt of a number among those held.
use Rattle.std.proofs.Common.{◌≡◌, ℕ, ◌+◌, Bool, true, false, cond, not, ◌||◌, eqb, ltb, List, [], ◌∷◌, map, length, get_or, Some, None, refl, sym, ap, ◌∙◌, subst, arith}
use Rattle.std.proofs.Math.Numerals.{one-add}
use Rattle.std.proofs.lemmas.Grind.{common_steps}
use Rattle.std.specs.List.{position, position_or_len, remove}
use Rattle.machine.specs.Numbers.{holds, without}
use Rattle.receiver.specs.declared.receipts.Receipt.{Receipt}
use Rattle.conduct.specs.Lists.{unspent}

module _ (n : ℕ) where
  -- whether a receipt is that of n
  abbrev pub is_of : Receipt → Bool
  is_of r = eqb r.number n

  -- where it lies among those of some numbers
  abbrev place : List ℕ → ℕ
  place ns = position_or_len is_of (map unspent ns)

  within : (ns : List ℕ) → ltb (place ns) (length (map unspent ns)) ≡ holds n ns
  within [] = refl
  within (m ∷ ms) = grind (arith, common_steps, within ms)

  item_there : (ns : List ℕ) (d : Receipt) → holds n ns ≡ true → get_or (map unspent ns) (place ns) d ≡ unspent n
  item_there [] d h = cc h
  item_there (m ∷ ms) d h = grind (arith, common_steps, item_there ms d)

  rest_there : (ns : List ℕ) → holds n ns ≡ true → remove (map unspent ns) (place ns) ≡ map unspent (without n ns)
  rest_there [] h = cc
  rest_there (m ∷ ms) h = by (eqb m n) h (rest_there ms)
    where
      by : (b : Bool) → (b || holds n ms) ≡ true → (holds n ms ≡ true → remove (map unspent ms) (place ms) ≡ map unspent (without n ms)) →
          remove (map unspent (m ∷ ms)) (cond (not b) (1 + place ms) 0) ≡ map unspent (cond b ms (m ∷ without n ms))
      by true h rest = refl
      by false h rest = rw one-add (ap (λ rs. unspent m ∷ rs) (rest h))

  -- one that is found is held; it lies there, and the others stay
  pub record Found (ns : List ℕ) (rs : List Receipt) (at : ℕ) : Type 0 where
    pub held : holds n ns ≡ true
    pub item : (d : Receipt) → get_or rs at d ≡ unspent n
    pub rest : remove rs at ≡ map unspent (without n ns)

  pub found : (ns : List ℕ) (rs : List Receipt) (at : ℕ) → rs ≡ map unspent ns → position is_of rs ≡ Some at → Found ns rs at
  found ns rs at e p =
      subst (λ l. Found ns l at) (sym e)
      (by (holds n ns) refl (ap (λ b. cond b (Some (place ns)) None) (sym (within ns)) ∙ ap (position is_of) (sym e) ∙ p))
    where
      by : (b : Bool) → holds n ns ≡ b → cond b (Some (place ns)) None ≡ Some at → Found ns (map unspent ns) at
      by true h f =
          let k : place ns ≡ at = cc in
          subst (Found ns (map unspent ns)) k (record { held = h; item = λ d. item_there ns d h; rest = rest_there ns h })
      by false h f = cc

  -- one that is not found is not held
  pub none_found : (ns : List ℕ) (rs : List Receipt) → rs ≡ map unspent ns → position is_of rs ≡ None → holds n ns ≡ false
  none_found ns rs e p = by (holds n ns) refl (ap (λ b. cond b (Some (place ns)) None) (sym (within ns)) ∙ ap (position is_of) (sym e) ∙ p)
    where
      by : (b : Bool) → holds n ns ≡ b → cond b (Some (place ns)) None ≡ None → holds n ns ≡ false
      by true h f = cc
      by false h f = h

  pub without_none : (ns : List ℕ) → holds n ns ≡ false → without n ns ≡ ns
  without_none [] h = refl
  without_none (m ∷ ms) h = grind (arith, common_steps, without_none ms)
