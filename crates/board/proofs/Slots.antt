-- How the line of packets in a mailbox's slots changes.
use Rattle.std.proofs.Common.{◌≡◌, ℕ, zero, suc, ◌+◌, ◌-◌, ◌<◌, ◌≤◌, Bool, true, false, cond, not, eqb, ltb, List, [], ◌∷◌, ◌++◌, map, length, get_or, drop, set, Some, None, Option, count_by, sym, refl, ap, ◌∙◌, ⊎_elim, arith}
use lib.Dec.{eqb-zero-suc, eqb-suc-suc}
use Rattle.std.specs.List.{find, position, position_or_len, slice_get}
use Rattle.std.specs.Option.{option_flatten}
use Rattle.std.proofs.lemmas.List.{same_lists, nil_from_length, length-drop, get_or-drop}
use Rattle.std.proofs.lemmas.List.FromFn.{length-map-range_with_len, get_or-map-range_with_len, map-range_with_len_more}
use Rattle.std.proofs.lemmas.List.Sums.{sum_by-set, sum_by-cons}
use Rattle.std.proofs.lemmas.List.Quantifiers.{position-Some}
use Rattle.std.proofs.lemmas.Option.{none-some, slice_get-get_or}
use Rattle.std.proofs.lemmas.Bool.{false≢true, cases_lt, cond-true, cond-false, eq-eqb, ne_eqb, lt-ltb, le-ltb}
use Rattle.std.proofs.lemmas.Bool.Decides.{nat_tests}
use Rattle.board.specs.declared.packets.Packet.{Packet}
use Rattle.board.specs.declared.mailboxes.Held.{Held}
use Rattle.board.specs.Bearers.{blank}
use Rattle.board.specs.Mailbox.{is_used, has_place, held_at, packet_of, packet_at, line, up_from, advanced, Numbers}

pub length-line : (s : List (Option Held)) (n : ℕ) → length (line s n) ≡ n
unfolding line
length-line s n = length-map-range_with_len (packet_at s) 0 n

pub line_none : (s : List (Option Held)) → line s 0 ≡ []
line_none s = nil_from_length (line s 0) (length-line s 0)

get_or-line : (s : List (Option Held)) (n k : ℕ) (d : Packet) → k < n → get_or (line s n) k d ≡ packet_at s k
unfolding line
get_or-line s n k d l = get_or-map-range_with_len (packet_at s) 0 n k k d l (omega arith)

same_line : (s t : List (Option Held)) (n : ℕ) → ((k : ℕ) → k < n → packet_at s k ≡ packet_at t k) → line s n ≡ line t n
same_line s t n h =
    same_lists _ _ (length-line s n ∙ sym (length-line t n))
    (λ k d l.
    let b : k < n = omega (arith, length-line s n) in
    get_or-line s n k d b ∙ h k b ∙ sym (get_or-line t n k d b))

-- counts and searches, one slot further

count_more : (p : Option Held → Bool) (x : Option Held) (s : List (Option Held)) → count_by p (x ∷ s) ≡ cond (p x) 1 0 + count_by p s
count_more p x s = sum_by-cons (λ y. cond (p y) 1 0) x s

held_more : (x : Option Held) (s : List (Option Held)) (k : ℕ) → held_at (x ∷ s) k ≡ cond (has_place k x) x (held_at s k)
held_more x s k = go (has_place k x)
  where
    go : (b : Bool) → option_flatten (cond b (Some x) (find (has_place k) s)) ≡ cond b x (held_at s k)
    go true = refl
    go false = refl

-- a place that some slot has is found, and one that none has is not

found : (s : List (Option Held)) (k : ℕ) → 0 < count_by (has_place k) s → (h : Held) × (held_at s k ≡ Some h)
found [] k l = absurd (omega arith)
found (None ∷ s) k l = found s k (omega (arith, count_more (has_place k) None s))
found (Some h ∷ s) k l = go (eqb h.place k) (found s k) (omega (arith, count_more (has_place k) (Some h) s))
  where
    go : (b : Bool) → (0 < count_by (has_place k) s → (g : Held) × (held_at s k ≡ Some g)) → 0 < cond {A = ℕ} b 1 0 + count_by (has_place k) s →
        (g : Held) × (option_flatten (cond b (Some (Some h)) (find (has_place k) s)) ≡ Some g)
    go true f l = (h, refl)
    go false f l = f (omega arith)

missed : (s : List (Option Held)) (k : ℕ) → count_by (has_place k) s ≡ 0 → held_at s k ≡ None
missed [] k e = refl
missed (None ∷ s) k e = missed s k (omega (arith, count_more (has_place k) None s))
missed (Some h ∷ s) k e = go (eqb h.place k) (missed s k) (omega (arith, count_more (has_place k) (Some h) s))
  where
    go : (b : Bool) → (count_by (has_place k) s ≡ 0 → held_at s k ≡ None) → cond {A = ℕ} b 1 0 + count_by (has_place k) s ≡ 0 →
        option_flatten (cond b (Some (Some h)) (find (has_place k) s)) ≡ None
    go true f e = absurd (omega arith)
    go false f e = f (omega arith)

-- a free slot is found while not all are used
pub free_found : (s : List (Option Held)) → count_by is_used s < length s → position_or_len (λ x. not (is_used x)) s < length s
free_found [] l = l
free_found (None ∷ s) l = omega arith
free_found (Some h ∷ s) l = omega (arith, free_found s (omega (arith, count_more is_used (Some h) s)))

unused : (x : Option Held) → not (is_used x) ≡ true → x ≡ None
unused None e = refl
unused (Some h) e = absurd (false≢true e)

pub is_free : (s : List (Option Held)) (j : ℕ) → Some j ≡ position (λ x. not (is_used x)) s → (j < length s) × (get_or s j None ≡ None)
is_free s j e = let p = position-Some (λ x. not (is_used x)) s j None (sym e) in (p.0, unused (get_or s j None) p.1)

pub none_free : (s : List (Option Held)) → None ≡ position (λ x. not (is_used x)) s → length s ≤ count_by is_used s
none_free s e =
    ⊎_elim
    (λ (l : count_by is_used s < length s).
    absurd (none-some _ (e ∙ cond-true _ _ _ (lt-ltb _ (length s) (free_found s l)))))
    (λ (l : length s ≤ count_by is_used s). l)
    (cases_lt (count_by is_used s) (length s))

module _ (s : List (Option Held)) (n : ℕ) (kept : Numbers s n) where
  pub held_within : (k : ℕ) (h : Held) → held_at s k ≡ Some h → k < n
  held_within k h e =
      ⊎_elim
      (λ (l : k < n). l)
      (λ (l : n ≤ k). absurd (none-some h (sym (missed s k (kept.each k ∙ ap (λ b. cond {A = ℕ} b 1 0) (le-ltb k n l))) ∙ e)))
      (cases_lt k n)

  pub held_none : held_at s 0 ≡ None → n ≡ 0
  held_none e =
      ⊎_elim
      (λ (l : 0 < n).
      let f = found s 0 (omega (arith, kept.each 0 ∙ ap (λ b. cond {A = ℕ} b 1 0) (lt-ltb 0 n l))) in
      absurd (none-some f.0 (sym e ∙ f.1)))
      (λ (l : n ≤ 0). omega arith)
      (cases_lt 0 n)

-- the oldest packet leaves

place_advanced : (x : Option Held) (k : ℕ) → has_place k (advanced x) ≡ has_place (suc k) x
place_advanced None k = refl
place_advanced (Some h) k = go h.packet h.place
  where
    go : (p : Packet) (i : ℕ) → has_place k (up_from p i) ≡ eqb i (suc k)
    go p zero = sym (eqb-zero-suc k)
    go p (suc i) = sym (eqb-suc-suc i k)

packet_advanced : (x : Option Held) (k : ℕ) → has_place (suc k) x ≡ true → packet_of (advanced x) ≡ packet_of x
packet_advanced None k e = refl
packet_advanced (Some h) k e = go h.packet h.place e
  where
    go : (p : Packet) (i : ℕ) → eqb i (suc k) ≡ true → packet_of (up_from p i) ≡ p
    go p zero e = let z : ◌≡◌ {A = Bool} false true = sym (eqb-zero-suc k) ∙ e in absurd (false≢true z)
    go p (suc i) e = refl

used_advanced : (x : Option Held) → cond {A = ℕ} (is_used (advanced x)) 1 0 + cond {A = ℕ} (has_place 0 x) 1 0 ≡ cond {A = ℕ} (is_used x) 1 0
used_advanced None = refl
used_advanced (Some h) = go h.packet h.place
  where
    go : (p : Packet) (i : ℕ) → cond {A = ℕ} (is_used (up_from p i)) 1 0 + cond {A = ℕ} (eqb i 0) 1 0 ≡ 1
    go p zero = refl
    go p (suc i) = ap (λ b. 1 + cond {A = ℕ} b 1 0) (ne_eqb (suc i) 0 (omega arith))

at_advanced : (s : List (Option Held)) (k : ℕ) → packet_at (map advanced s) k ≡ packet_at s (suc k)
at_advanced [] k = refl
at_advanced (x ∷ s) k =
    ap packet_of (held_more (advanced x) (map advanced s) k)
    ∙ go (has_place k (advanced x)) (has_place (suc k) x) (place_advanced x k) (packet_advanced x k) (at_advanced s k)
    ∙ sym (ap packet_of (held_more x s (suc k)))
  where
    go : (a b : Bool) → a ≡ b → (b ≡ true → packet_of (advanced x) ≡ packet_of x) → packet_at (map advanced s) k ≡ packet_at s (suc k) →
        packet_of (cond a (advanced x) (held_at (map advanced s) k)) ≡ packet_of (cond b x (held_at s (suc k)))
    go true true e f g = f refl
    go false false e f g = g
    go true false e f g = absurd (false≢true (sym e))
    go false true e f g = absurd (false≢true e)

count_advanced : (s : List (Option Held)) (k : ℕ) → count_by (has_place k) (map advanced s) ≡ count_by (has_place (suc k)) s
count_advanced [] k = refl
count_advanced (x ∷ s) k =
    count_more (has_place k) (advanced x) (map advanced s)
    ∙ ap (λ b. cond {A = ℕ} b 1 0 + count_by (has_place k) (map advanced s)) (place_advanced x k)
    ∙ ap (λ n. cond {A = ℕ} (has_place (suc k) x) 1 0 + n) (count_advanced s k)
    ∙ sym (count_more (has_place (suc k)) x s)

all_advanced : (s : List (Option Held)) → count_by is_used (map advanced s) + count_by (has_place 0) s ≡ count_by is_used s
all_advanced [] = refl
all_advanced (x ∷ s) =
    omega (arith, count_more is_used (advanced x) (map advanced s), count_more (has_place 0) x s, count_more is_used x s, used_advanced x, all_advanced s)

pub line_advanced : (s : List (Option Held)) (n : ℕ) → line (map advanced s) (n - 1) ≡ drop 1 (line s n)
line_advanced s n =
    same_lists _ _ (omega (arith, length-line (map advanced s) (n - 1), length-drop 1 (line s n), length-line s n))
    (λ k d l.
    let b : k < n - 1 = omega (arith, length-line (map advanced s) (n - 1)) in
    get_or-line (map advanced s) (n - 1) k d b
    ∙ at_advanced s k
    ∙ ap (packet_at s) (omega arith)
    ∙ sym (get_or-line s n (1 + k) d (omega arith))
    ∙ sym (get_or-drop 1 (line s n) k d))

pub line_first : (s : List (Option Held)) (n : ℕ) → 0 < n → Some (packet_at s 0) ≡ slice_get (line s n) 0
line_first s n l = ap Some (sym (get_or-line s n 0 blank l)) ∙ sym (slice_get-get_or (line s n) 0 blank (omega (arith, length-line s n)))

pub numbers_advanced : (s : List (Option Held)) (n : ℕ) → 0 < n → Numbers s n → Numbers (map advanced s) (n - 1)
numbers_advanced s n l kept =
    record {
      used = omega (arith, all_advanced s, kept.used, kept.each 0 ∙ ap (λ b. cond {A = ℕ} b 1 0) (lt-ltb 0 n l));
      each = λ k. count_advanced s k ∙ kept.each (suc k) ∙ ap (λ b. cond {A = ℕ} b 1 0) (ltb_less k n l);
    }
  where
    ltb_less : (k n : ℕ) → 0 < n → ltb (suc k) n ≡ ltb k (n - 1)
    ltb_less k n l = grind (arith, nat_tests)

-- a packet comes into a free slot

at_other : (s : List (Option Held)) (j k : ℕ) (h : Held) → get_or s j None ≡ None → eqb h.place k ≡ false → packet_at (set s j (Some h)) k ≡ packet_at s k
at_other [] j k h e f = refl
at_other (x ∷ s) zero k h e f =
    ap packet_of (held_more (Some h) s k ∙ cond-false _ _ _ f) ∙ sym (ap packet_of (held_more x s k ∙ ap (λ y. cond (has_place k y) y (held_at s k)) e))
at_other (x ∷ s) (suc j) k h e f =
    ap packet_of (held_more x (set s j (Some h)) k) ∙ go (has_place k x) (at_other s j k h e f) ∙ sym (ap packet_of (held_more x s k))
  where
    go : (b : Bool) → packet_at (set s j (Some h)) k ≡ packet_at s k → packet_of (cond b x (held_at (set s j (Some h)) k)) ≡ packet_of (cond b x (held_at s k))
    go true g = refl
    go false g = g

at_own : (s : List (Option Held)) (j : ℕ) (h : Held) → j < length s → count_by (has_place h.place) s ≡ 0 → packet_at (set s j (Some h)) h.place ≡ h.packet
at_own [] j h l e = absurd (omega arith)
at_own (x ∷ s) zero h l e = ap packet_of (held_more (Some h) s h.place ∙ cond-true _ _ _ (eq-eqb h.place h.place refl))
at_own (x ∷ s) (suc j) h l e =
    ap packet_of (held_more x (set s j (Some h)) h.place)
    ∙ go (has_place h.place x) (omega (arith, count_more (has_place h.place) x s)) (at_own s j h (omega arith) (omega (arith, count_more (has_place h.place) x s)))
  where
    go : (b : Bool) → cond {A = ℕ} b 1 0 ≡ 0 → packet_at (set s j (Some h)) h.place ≡ h.packet → packet_of (cond b x (held_at (set s j (Some h)) h.place)) ≡ h.packet
    go true z g = absurd (omega arith)
    go false z g = g

module _ (s : List (Option Held)) (j n : ℕ) (p : Packet) (l : j < length s) (free : get_or s j None ≡ None) (kept : Numbers s n) where
  abbrev put : List (Option Held)
  put = set s j (Some (record { packet = p; place = n }))

  pub line_put : line put (n + 1) ≡ line s n ++ p ∷ []
  unfolding line
  line_put =
      map-range_with_len_more (packet_at put) 0 n n (omega arith)
      ∙ ap (λ q. line put n ++ q ∷ []) (at_own s j (record { packet = p; place = n }) l (kept.each n ∙ ap (λ b. cond {A = ℕ} b 1 0) (le-ltb n n (omega arith))))
      ∙ ap (λ ps. ps ++ p ∷ []) (same_line put s n (λ k b. at_other s j k (record { packet = p; place = n }) free (ne_eqb n k (omega arith))))

  counted : (q : Option Held → Bool) → q None ≡ false → count_by q put ≡ count_by q s + cond (q (Some (record { packet = p; place = n }))) 1 0
  counted q e =
      omega (arith, sum_by-set (λ x. cond {A = ℕ} (q x) 1 0) s j (Some (record { packet = p; place = n })) None l, ap (λ x. cond {A = ℕ} (q x) 1 0) free, ap (λ b. cond {A = ℕ} b 1 0) e)

  pub numbers_put : Numbers put (n + 1)
  numbers_put =
      record {
        used = counted is_used refl ∙ omega (arith, kept.used);
        each = λ k. counted (has_place k) refl ∙ ap (λ m. m + cond {A = ℕ} (eqb n k) 1 0) (kept.each k) ∙ one_more k n;
      }
    where
      one_more : (k n : ℕ) → cond {A = ℕ} (ltb k n) 1 0 + cond {A = ℕ} (eqb n k) 1 0 ≡ cond {A = ℕ} (ltb k (n + 1)) 1 0
      one_more k n = grind (arith, nat_tests)
