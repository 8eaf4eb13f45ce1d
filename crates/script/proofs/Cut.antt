-- A line of words with one space before each but the first is cut into those words.
use Rattle.std.proofs.Common.{◌≡◌, ◌≢◌, ℕ, ◌-◌, ◌<◌, true, false, not, ◌&&◌, ⊎_elim, eqb, ltb, List, [], ◌∷◌, ◌++◌, length, get_or, take, All, refl, ap, ◌∙◌, append-nil, append_assoc, arith}
use Rattle.std.specs.List.{flat_map, filter, list_all, slice_split}
use Rattle.std.specs.Str.Lines.{strip_carriage_return}
use Rattle.std.proofs.lemmas.Bool.{and_parts, cases_lt, cond-false, cond-true}
use Rattle.std.proofs.lemmas.Bool.Decides.{nat_tests, Decides-by_and, Decides-ltb}
use Rattle.std.proofs.lemmas.List.{get_or_past, take_all}
use Rattle.std.proofs.lemmas.List.Elements.{All-nil, All-cons, All-head, All-tail, All-append, All-get_or, All-weaker}
use Rattle.std.proofs.lemmas.List.Splits.{slice_split_none, slice_split_at}
use Rattle.std.proofs.lemmas.List.Sums.{prefix_len_is}
use Rattle.script.specs.Words.{is_blank, is_some_text, lines, words, without_comment}
use Rattle.script.specs.Writing.{line}

-- a byte of a word, which lies past the blanks, the line ends and the `#`
abbrev pub Plain : ℕ → Type 0
Plain b = 35 < b

-- a byte that neither ends a line nor begins a comment
abbrev pub Inner : ℕ → Type 0
Inner b = (b ≢ 10) × (b ≢ 13) × (b ≢ 35)

plain_inner : (b : ℕ) → Plain b → Inner b
plain_inner b h = (λ e. omega (arith, h, e), λ e. omega (arith, h, e), λ e. omega (arith, h, e))

inner_lf : (b : ℕ) → Inner b → eqb b 10 ≡ false
inner_lf b h = grind (arith, nat_tests)

inner_hash : (b : ℕ) → Inner b → eqb b 35 ≡ false
inner_hash b h = grind (arith, nat_tests)

plain_blank : (b : ℕ) → Plain b → is_blank b ≡ false
plain_blank b h = grind (arith, nat_tests)

inner_return : (b : ℕ) → Inner b → eqb b 13 ≡ false
inner_return b h = grind (arith, nat_tests)

not_return : (l : List ℕ) → All Inner l → eqb (get_or l (length l - 1) 0) 13 ≡ false
not_return l h =
    ⊎_elim
    (λ s. inner_return (get_or l (length l - 1) 0) (All-get_or Inner l (length l - 1) 0 s h))
    (λ p. rw (get_or_past l (length l - 1) 0 p))
    (cases_lt (length l - 1) (length l))

no_return : (l : List ℕ) → All Inner l → strip_carriage_return l ≡ l
no_return l h = cond-false (eqb (get_or l (length l - 1) 0) 13) (take (length l - 1) l) l (not_return l h)

no_hash : (b : ℕ) → Inner b → not (eqb b 35) ≡ true
no_hash b h = ap not (inner_hash b h)

no_comment : (l : List ℕ) → All Inner l → without_comment l ≡ l
no_comment l h =
    let n = prefix_len_is (λ b. not (eqb b 35)) l (length l) 0 (omega arith) (λ k s. no_hash (get_or l k 0) (All-get_or Inner l k 0 s h)) (λ s. absurd (omega (arith, s))) in
    take_all _ l (omega (arith, n))

-- a word to write
pub record Word (w : List ℕ) : Type 0 where
  pub some : 0 < length w
  pub plain : All Plain w

pub word_by_test : (w : List ℕ) → (is_some_text w && list_all (ltb 35) w) ≡ true → Word w
word_by_test w h =
    let t = and_parts (is_some_text w) (list_all (ltb 35) w) h in
    record {
      some = (Decides-ltb 0 (length w)).0 t.0;
      plain = (Decides-by_and (ltb 35) Plain (list_all (ltb 35)) (Decides-ltb 35) refl (λ _ _. refl) w).0 t.1;
    }

abbrev pub spaced : List ℕ → List ℕ
spaced w = 32 ∷ w

cut : (w : List ℕ) (ws : List (List ℕ)) → Word w → All Word ws → slice_split is_blank (w ++ flat_map spaced ws) ≡ w ∷ ws
cut w [] a h = rw (append-nil w) (slice_split_none is_blank w (All-weaker Plain (λ b. is_blank b ≡ false) plain_blank w a.plain))
cut w (v ∷ ws) a h =
    slice_split_at is_blank w 32 (v ++ flat_map spaced ws) (All-weaker Plain (λ b. is_blank b ≡ false) plain_blank w a.plain) refl
    ∙ ap (λ x. w ∷ x) (cut v ws (All-head Word v ws h) (All-tail Word v ws h))

some_text : (w : List ℕ) → Word w → is_some_text w ≡ true
some_text w a = let h = a.some in grind (arith, nat_tests)

kept : (ws : List (List ℕ)) → All Word ws → filter is_some_text ws ≡ ws
kept [] h = refl
kept (w ∷ ws) h =
    cond-true (is_some_text w) (w ∷ filter is_some_text ws) (filter is_some_text ws) (some_text w (All-head Word w ws h))
    ∙ ap (λ x. w ∷ x) (kept ws (All-tail Word w ws h))

space_inner : Inner 32
space_inner = (λ e. omega (arith, e), λ e. omega (arith, e), λ e. omega (arith, e))

further : (ws : List (List ℕ)) → All Word ws → All Inner (flat_map spaced ws)
further [] h = All-nil Inner
further (w ∷ ws) h =
    All-append Inner (spaced w) (flat_map spaced ws)
    (All-cons Inner 32 w space_inner (All-weaker Plain Inner plain_inner w (All-head Word w ws h).plain))
    (further ws (All-tail Word w ws h))

inner : (w : List ℕ) (ws : List (List ℕ)) → Word w → All Word ws → All Inner (w ++ flat_map spaced ws)
inner w ws a h = All-append Inner w (flat_map spaced ws) (All-weaker Plain Inner plain_inner w a.plain) (further ws h)

pub words_of : (w : List ℕ) (ws : List (List ℕ)) → Word w → All Word ws → words (w ++ flat_map spaced ws) ≡ w ∷ ws
words_of w ws a h =
    let i = inner w ws a h in
    let l = w ++ flat_map spaced ws in
    ap (λ x. filter is_some_text (slice_split is_blank x)) (ap without_comment (no_return l i) ∙ no_comment l i)
    ∙ ap (filter is_some_text) (cut w ws a h)
    ∙ kept (w ∷ ws) (All-cons Word w ws a h)

-- a line that is written is the first of the lines
pub line_first : (w : List ℕ) (ws : List (List ℕ)) (more : List ℕ) → Word w → All Word ws → lines (line w ws ++ more) ≡ (w ++ flat_map spaced ws) ∷ lines more
line_first w ws more a h =
    let l = w ++ flat_map spaced ws in
    ap lines (append_assoc l (10 ∷ []) more)
    ∙ slice_split_at (λ b. eqb b 10) l 10 more (All-weaker Inner (λ b. eqb b 10 ≡ false) inner_lf l (inner w ws a h)) refl
