-- How what a queue holds changes: its slots, in the order in which it goes through them.
use Rattle.std.proofs.Common.{◌≡◌, ℕ, ◌+◌, ◌-◌, ◌<◌, ◌≤◌, min, true, List, [], ◌∷◌, ◌++◌, length, get_or, take, drop, set, Some, sym, ap, ◌∙◌, ⊎_elim, arith}
use Rattle.std.specs.List.{slice_get}
use Rattle.std.proofs.Math.Seq.{take-set-lt}
use Rattle.std.proofs.lemmas.List.{same_lists, length-append, length-drop, length-take, get_or-drop, get_or-take, get_or_append_left, get_or-append_right, set-append_left, set-append_right, drop-set-add, drop-set-lt, take_more_set, take-set-le}
use Rattle.std.proofs.lemmas.Option.{slice_get-get_or}
use Rattle.std.proofs.lemmas.Bool.Decides.{nat_tests}
use Rattle.std.proofs.lemmas.Bool.{cases_lt, cond-true, cond-false, lt-ltb, le-ltb}
use Rattle.ring.specs.declared.cursors.Cursor.{Cursor}
use Rattle.ring.specs.declared.rings.Ring.{Ring}
use Rattle.ring.specs.Queue.{turned, turned_place, elements, any_free, usable, ring_capacity, ring_elements}

place_low : (c h i : ℕ) → i < c - h → turned_place c h i ≡ h + i
place_low c h i a = cond-true _ _ _ (lt-ltb i (c - h) a)

place_high : (c h i : ℕ) → c - h ≤ i → turned_place c h i ≡ i - (c - h)
place_high c h i a = cond-false _ _ _ (le-ltb i (c - h) a)

-- from the slot behind the first of the order, the i-th is the one behind the i-th
place_more : (c h i : ℕ) → 1 + i < c → turned_place c (turned_place c h 0 + 1) i ≡ turned_place c h (1 + i)
place_more c h i a = grind (arith, nat_tests)

module _ {X : Type 0} where
  -- the slots s, with the head at h
  module _ (s : List X) (h : ℕ) where
    length-turned : length (turned s h) ≡ length s
    unfolding turned
    length-turned = omega (arith, length-append (drop h s) (take h s), length-drop h s, length-take h s)

    get_or-turned : (i : ℕ) (d : X) → i < length s → get_or (turned s h) i d ≡ get_or s (turned_place (length s) h i) d
    unfolding turned
    get_or-turned i d b =
        ⊎_elim
        (λ (l : i < length s - h).
        get_or_append_left (drop h s) (take h s) d i (omega (arith, length-drop h s))
        ∙ get_or-drop h s i d
        ∙ ap (λ j. get_or s j d) (sym (place_low (length s) h i l)))
        (λ (l : length s - h ≤ i).
        get_or-append_right (drop h s) (take h s) (length s - h) i d (length-drop h s) l
        ∙ get_or-take h s (i - (length s - h)) d (omega arith)
        ∙ ap (λ j. get_or s j d) (sym (place_high (length s) h i l)))
        (cases_lt i (length s - h))

    set-turned : (i : ℕ) (x : X) → i < length s → turned (set s (turned_place (length s) h i) x) h ≡ set (turned s h) i x
    unfolding turned
    set-turned i x b =
        ⊎_elim
        (λ (l : i < length s - h).
        ap (λ j. drop h (set s j x) ++ take h (set s j x)) (place_low (length s) h i l)
        ∙ ap (λ ys. ys ++ take h (set s (h + i) x)) (drop-set-add h s i x)
        ∙ ap (λ ys. set (drop h s) i x ++ ys) (take-set-le h s (h + i) x (omega arith))
        ∙ sym (set-append_left (drop h s) (take h s) i x (omega (arith, length-drop h s))))
        (λ (l : length s - h ≤ i).
        ap (λ j. drop h (set s j x) ++ take h (set s j x)) (place_high (length s) h i l)
        ∙ ap (λ ys. ys ++ take h (set s (i - (length s - h)) x)) (drop-set-lt h s (i - (length s - h)) x (omega arith))
        ∙ ap (λ ys. drop h s ++ ys) (take-set-lt h s (i - (length s - h)) x (omega arith))
        ∙ sym (set-append_right (drop h s) (take h s) (length s - h) i x (length-drop h s) l))
        (cases_lt i (length s - h))

  -- what a queue in the slots s holds
  module _ (s : List X) (q : Cursor) where
    pub how_many : length (elements s q) ≡ min q.len (length s)
    how_many = omega (arith, length-take q.len (turned s q.head), length-turned s q.head)

    pub free_true : min q.len (length s) < length s → any_free s q ≡ true
    free_true a = lt-ltb (length (elements s q)) (length s) (omega (arith, how_many))

    pub element_at : (i j : ℕ) (x : X) → i < min q.len (length s) → j ≡ turned_place (length s) q.head i → x ≡ get_or s j x →
        Some x ≡ slice_get (elements s q) i
    element_at i j x a p f =
        ap Some
        (f
        ∙ ap (λ k. get_or s k x) p
        ∙ sym (get_or-turned s q.head i x (omega arith))
        ∙ sym (get_or-take q.len (turned s q.head) i x (omega arith)))
        ∙ sym (slice_get-get_or (elements s q) i x (omega (arith, how_many)))

    pub elements_push : (m j : ℕ) (x : X) → m ≡ min q.len (length s) → m < length s → j ≡ turned_place (length s) q.head m →
        take (m + 1) (turned (set s j x) q.head) ≡ elements s q ++ x ∷ []
    elements_push m j x a b p =
        ap (λ k. take (m + 1) (turned (set s k x) q.head)) p
        ∙ ap (take (m + 1)) (set-turned s q.head m x b)
        ∙ take_more_set (turned s q.head) m x (omega (arith, length-turned s q.head))
        ∙ ap (λ k. take k (turned s q.head) ++ x ∷ []) (omega arith)

    pub elements_pop : (m j : ℕ) → m ≡ min q.len (length s) → 0 < m → j ≡ turned_place (length s) q.head 0 →
        take (m - 1) (turned s (j + 1)) ≡ drop 1 (elements s q)
    elements_pop m j a b p =
        let l : length (take (m - 1) (turned s (j + 1))) ≡ m - 1 = omega (arith, length-take (m - 1) (turned s (j + 1)), length-turned s (j + 1)) in
        same_lists _ _
        (omega (arith, l, length-drop 1 (elements s q), how_many))
        (λ i d f.
        get_or-take (m - 1) (turned s (j + 1)) i d (omega (arith, l))
        ∙ get_or-turned s (j + 1) i d (omega (arith, l))
        ∙ ap (λ k. get_or s (turned_place (length s) (k + 1) i) d) p
        ∙ ap (λ k. get_or s k d) (place_more (length s) q.head i (omega (arith, l)))
        ∙ sym (get_or-turned s q.head (1 + i) d (omega (arith, l)))
        ∙ sym (get_or-take q.len (turned s q.head) (1 + i) d (omega (arith, l)))
        ∙ sym (get_or-drop 1 (elements s q) i d))

  -- a ring's slots are the first of those lent
  pub length-ring_elements : {most : ℕ} (r : Ring X most) → length (ring_elements r) ≡ min r.cursor.len (ring_capacity r)
  length-ring_elements {most} r = omega (arith, how_many (usable r) r.cursor, length-take most r.slots.now)
