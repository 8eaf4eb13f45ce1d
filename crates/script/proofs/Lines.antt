-- What the further lines of a text mean, one line on.
use Rattle.std.proofs.Common.{◌≡◌, ℕ, ◌+◌, ◌<◌, List, [], ◌∷◌, ◌++◌, length, get_or, drop, map, Bor, Some, None, Ok, Err, Option, Result, sym, refl, ap, ◌∙◌, append_assoc, append-nil, arith}
use Rattle.std.proofs.lemmas.List.{at_drop_more, at_drop_all}
use Rattle.std.proofs.lemmas.List.FromFn.{length-enumerate_from, get_or-enumerate_from}
use Rattle.std.specs.List.{enumerate_from}
use Rattle.machine.specs.declared.calls.Call.{Call}
use Rattle.script.specs.declared.faults.Fault.{Fault}
use Rattle.script.specs.Words.{words}
use Rattle.script.specs.Keywords.{call_of}
use Rattle.script.specs.Texts.{Meaning, ahead, and_then, from_line}

ahead_more : (cs : List Call) (c : Call) (m : Meaning) → ahead (cs ++ c ∷ []) m ≡ ahead cs (ahead (c ∷ []) m)
ahead_more cs c (Ok ds) = ap {B = Meaning} Ok (append_assoc cs (c ∷ []) ds)
ahead_more cs c (Err u) = refl

-- l, at hand with number i, is the line of ls behind the first k
pub record Next (ls : List (List ℕ)) (k i : ℕ) (l : List ℕ) : Type 0 where
  pub within : k < length ls
  pub place : i ≡ k
  pub here : l ≡ get_or ls k l

pub next_by_item : (ls : List (List ℕ)) (k i : ℕ) (l : List ℕ) → (k < length (enumerate_from 0 ls)) × ((i, l) ≡ get_or (enumerate_from 0 ls) k (i, l)) → Next ls k i l
next_by_item ls k i l t =
    let within : k < length ls = omega (arith, t.0, length-enumerate_from 0 ls) in
    let e : (i, l) ≡ (0 + k, get_or ls k l) = t.1 ∙ get_or-enumerate_from 0 ls k (i, l) within in
    record { within = within; place = omega (arith, ap (λ p. p.0) e); here = ap (λ p. p.1) e }

-- what f answers of the words of a line, as they are passed on
pub of_words : {A : Type 0} (f : List (List ℕ) → A) (ws vs : List (Bor (List ℕ))) (l : List ℕ) (r q : A) → r ≡ f (map (λ w. w.now) ws) → ws ≡ vs → map (λ w. w.now) vs ≡ words l → r ≡ q → f (words l) ≡ q
of_words f ws vs l r q a b c d = sym (a ∙ ap (λ x. f (map (λ w. w.now) x)) b ∙ ap f c) ∙ d

-- One turn of the loop: m is what the whole text means, cs are the calls read so far, and ls are its lines, of which k are read.
module _ (m : Meaning) (cs : List Call) (ls : List (List ℕ)) (k : ℕ) (h : m ≡ ahead cs (from_line (k + 1) (drop k ls))) where
  pub all_read : length ls ≡ k → m ≡ Ok cs
  all_read e = h ∙ ap (ahead cs) (at_drop_all (from_line (k + 1)) ls k (omega (arith, e))) ∙ ap {B = Meaning} Ok (append-nil cs)

  -- the line at hand, and what it asks for
  module _ (i : ℕ) (l : List ℕ) (t : Next ls k i l) where
    one_line : from_line (k + 1) (drop k ls) ≡ and_then (k + 1) (call_of (words l)) (from_line (k + 1 + 1) (drop (k + 1) ls))
    one_line =
        at_drop_more (from_line (k + 1)) ls k l t.within
        ∙ ap (λ x. and_then (k + 1) (call_of (words x)) (from_line (k + 1 + 1) (drop (k + 1) ls))) (sym t.here)

    stands : (a : Result (Option Call) Fault) → call_of (words l) ≡ a → m ≡ ahead cs (and_then (k + 1) a (from_line (k + 1 + 1) (drop (k + 1) ls)))
    stands a e = h ∙ ap (ahead cs) (one_line ∙ ap (λ x. and_then (k + 1) x (from_line (k + 1 + 1) (drop (k + 1) ls))) e)

    pub refused : (f : Fault) → call_of (words l) ≡ Err f → m ≡ Err (record { line = i + 1; fault = f })
    refused f e = rw t.place (stands (Err f) e)

    pub no_call : call_of (words l) ≡ Ok None → m ≡ ahead cs (from_line (k + 1 + 1) (drop (k + 1) ls))
    no_call e = stands (Ok None) e

    pub one_call : (c : Call) → call_of (words l) ≡ Ok (Some c) → m ≡ ahead (cs ++ c ∷ []) (from_line (k + 1 + 1) (drop (k + 1) ls))
    one_call c e = stands (Ok (Some c)) e ∙ sym (ahead_more cs c (from_line (k + 1 + 1) (drop (k + 1) ls)))
