-- What the further lines of a script mean, one line on.
use Rattle.std.proofs.Common.{◌≡◌, ℕ, ◌+◌, List, length, drop, Some, None, Ok, Err, Option, Result, sym, ap, ◌∙◌, arith}
use Rattle.std.proofs.lemmas.List.{at_drop_more, at_drop_all}
use Rattle.script.specs.declared.faults.Fault.{Fault}
use Rattle.script.specs.declared.scripts.Statement.{Statement}
use Rattle.script.specs.Words.{words}
use Rattle.script.specs.Script.{Contents, ScriptMeaning, and_further, contents_with, script_from, statement_of}
use Rattle.script.proofs.Lines.{Next}

-- One turn of the loop: m is what the whole text means, s is what is said so far, and ls are its lines, of which k are read.
module _ (m : ScriptMeaning) (s : Contents) (ls : List (List ℕ)) (k : ℕ) (h : m ≡ script_from (k + 1) s (drop k ls)) where
  pub all_said : length ls ≡ k → m ≡ Ok s
  all_said e = h ∙ at_drop_all (script_from (k + 1) s) ls k (omega (arith, e))

  -- the line at hand, and what it says
  module _ (i : ℕ) (l : List ℕ) (t : Next ls k i l) where
    stands : (a : Result (Option Statement) Fault) → statement_of s (words l) ≡ a → m ≡ and_further (k + 1) s a (λ s'. script_from (k + 1 + 1) s' (drop (k + 1) ls))
    stands a e =
        h
        ∙ at_drop_more (script_from (k + 1) s) ls k l t.within
        ∙ ap (λ x. and_further (k + 1) s (statement_of s (words x)) (λ s'. script_from (k + 1 + 1) s' (drop (k + 1) ls))) (sym t.here)
        ∙ ap (λ x. and_further (k + 1) s x (λ s'. script_from (k + 1 + 1) s' (drop (k + 1) ls))) e

    pub unread : (f : Fault) → statement_of s (words l) ≡ Err f → m ≡ Err (record { line = i + 1; fault = f })
    unread f e = rw t.place (stands (Err f) e)

    pub nothing_said : statement_of s (words l) ≡ Ok None → m ≡ script_from (k + 1 + 1) s (drop (k + 1) ls)
    nothing_said e = stands (Ok None) e

    pub one_said : (a : Statement) → statement_of s (words l) ≡ Ok (Some a) → m ≡ script_from (k + 1 + 1) (contents_with s a) (drop (k + 1) ls)
    one_said a e = stands (Ok (Some a)) e
