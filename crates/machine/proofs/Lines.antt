-- Numbers that rise, all of one origin; and those of one origin among others.
use Rattle.std.proofs.Common.{◌≡◌, ℕ, zero, suc, ◌+◌, ◌<◌, ◌≤◌, eqb, List, [], ◌∷◌, ◌++◌, Some, arith}
use Rattle.std.specs.List.{slice_get, filter}
use Rattle.std.proofs.lemmas.Bool.{cond_both, eqb-false}

module _ (origin : ℕ → ℕ) (b : ℕ) where
  -- from low on and below high, each of origin b
  abbrev pub Line : ℕ → List ℕ → ℕ → Type 0
  Line low [] high = low ≤ high
  Line low (n ∷ ns) high = (low ≤ n) × (origin n ≡ b) × Line (n + 1) ns high

  line_from : (l low high : ℕ) (ns : List ℕ) → l ≤ low → Line low ns high → Line l ns high
  line_from l low high [] h r = omega arith
  line_from l low high (n ∷ ns) h r = (omega arith, r.1, r.2)

  pub line_to : (low h high : ℕ) (ns : List ℕ) → h ≤ high → Line low ns h → Line low ns high
  line_to low h high [] u r = omega arith
  line_to low h high (n ∷ ns) u r = (r.0, r.1, line_to (n + 1) h high ns u r.2)

  -- the number at the bound joins
  pub line_push : (low high : ℕ) (ns : List ℕ) → origin high ≡ b → Line low ns high → Line low (ns ++ high ∷ []) (high + 1)
  line_push low high [] o r = (r, o, omega arith)
  line_push low high (n ∷ ns) o r = (r.0, r.1, line_push (n + 1) high ns o r.2)

  -- a number in the middle is of the origin, and may leave
  pub line_middle : (low high n : ℕ) (ms ns : List ℕ) → Line low (ms ++ n ∷ ns) high → (origin n ≡ b) × Line low (ms ++ ns) high
  line_middle low high n [] ns r = (r.1, line_from low (n + 1) high ns (omega (arith, r.0)) r.2)
  line_middle low high n (m ∷ ms) ns r = let rest = line_middle (m + 1) high n ms ns r.2 in (rest.0, (r.0, r.1, rest.1))

  -- each of them is of the origin; and of two, the greater stands later
  pub line_at : (low high k n : ℕ) (ns : List ℕ) → slice_get ns k ≡ Some n → Line low ns high → (low ≤ n) × (origin n ≡ b)
  line_at low high k n [] e r = cc e
  line_at low high zero n (m ∷ ns) e r = let same : m ≡ n = cc in (omega (arith, r.0), cc r.1)
  line_at low high (suc k) n (m ∷ ns) e r = let s = line_at (m + 1) high k n ns e r.2 in (omega (arith, r.0, s.0), s.1)

  pub line_places : (low high k l m n : ℕ) (ns : List ℕ) → slice_get ns k ≡ Some m → slice_get ns l ≡ Some n → m < n → Line low ns high → k < l
  line_places low high k l m n [] d e h r = cc e
  line_places low high zero zero m n (x ∷ ns) d e h r = let same : m ≡ n = cc in absurd (omega arith)
  line_places low high zero (suc l) m n (x ∷ ns) d e h r = omega arith
  line_places low high (suc k) zero m n (x ∷ ns) d e h r = let same : x ≡ n = cc in absurd (omega (arith, (line_at (x + 1) high k m ns d r.2).0))
  line_places low high (suc k) (suc l) m n (x ∷ ns) d e h r = omega (arith, line_places (x + 1) high k l m n ns d e h r.2)

  -- the numbers of the origin, among others
  abbrev pub mine : List ℕ → List ℕ
  mine = filter (λ n. eqb (origin n) b)

  -- those among ns and then q, and the numbers c behind them, rise
  module _ (q c : List ℕ) (high : ℕ) where
    abbrev Rises : ℕ → List ℕ → Type 0
    Rises low ns = Line low (mine (ns ++ q) ++ c) high

    -- without the first they rise from some l on, which is above it if it is of the origin
    mine_next : (low n : ℕ) (ns : List ℕ) → Rises low (n ∷ ns) → (l : ℕ) × (low ≤ l) × (origin n ≡ b → (low ≤ n) × (n < l)) × Rises l ns
    mine_next low n ns =
        cond_both (eqb (origin n) b) (n ∷ mine (ns ++ q)) (mine (ns ++ q))
        (λ k. Line low (k ++ c) high → (l : ℕ) × (low ≤ l) × (origin n ≡ b → (low ≤ n) × (n < l)) × Rises l ns)
        (λ _ r. (n + 1, omega (arith, r.0), λ _. (r.0, omega arith), r.2)) (λ e r. (low, omega arith, λ o. absurd (eqb-false (origin n) b e o), r))

    mine_from : (low j n : ℕ) (ns : List ℕ) → slice_get ns j ≡ Some n → origin n ≡ b → Rises low ns → low ≤ n
    mine_from low j n [] e o r = cc e
    mine_from low zero n (m ∷ ns) e o r = let same : m ≡ n = cc in omega (arith, ((mine_next low m ns r).2 (cc)).0)
    mine_from low (suc j) n (m ∷ ns) e o r = let s = mine_next low m ns r in omega (arith, s.1, mine_from s.0 j n ns e o s.3)

    -- of two of the origin, the earlier is below the later
    pub mine_rise : (low i j m n : ℕ) (ns : List ℕ) → i < j → slice_get ns i ≡ Some m → slice_get ns j ≡ Some n → origin m ≡ b → origin n ≡ b →
        Rises low ns → m < n
    mine_rise low i j m n [] h d e o p r = cc e
    mine_rise low i zero m n (k ∷ ns) h d e o p r = absurd (omega arith)
    mine_rise low zero (suc j) m n (k ∷ ns) h d e o p r =
        let same : k ≡ m = cc in let s = mine_next low k ns r in omega (arith, s.2 (cc), mine_from s.0 j n ns e p s.3)
    mine_rise low (suc i) (suc j) m n (k ∷ ns) h d e o p r = let s = mine_next low k ns r in mine_rise s.0 i j m n ns (omega arith) d e o p s.3
