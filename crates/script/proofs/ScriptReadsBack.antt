-- A script that was written is read back.
use Rattle.std.proofs.Common.{◌≡◌, ℕ, ◌+◌, ◌<◌, ◌≤◌, ◌^◌, Bool, false, codes, ltb, List, [], ◌∷◌, ◌++◌, length, get_or, take, drop, map, All, IfSome, Some, None, Ok, Err, Option, Result, decimal, refl, sym, ap, ◌∙◌, subst, append_assoc, append-nil, length-append, arith}
use Rattle.std.proofs.lemmas.Bool.{cond-true}
use Rattle.std.proofs.lemmas.Bool.Decides.{Decides-ltb}
use Rattle.std.proofs.lemmas.List.{take-append-drop}
use Rattle.std.proofs.lemmas.List.Elements.{All-nil, All-cons, All-head, All-tail, All-take, All-drop}
use Rattle.machine.specs.declared.calls.Call.{Call}
use Rattle.setup.specs.declared.setups.BearerKind.{BearerKind}
use Rattle.setup.specs.declared.setups.BearerKind.TheVariants.{Ring, Mailbox}
use Rattle.setup.specs.declared.setups.BearerSetup.{BearerSetup}
use Rattle.setup.specs.declared.setups.PolicySetup.{PolicySetup}
use Rattle.setup.specs.declared.setups.PolicySetup.TheVariants.{Fixed, Backlog}
use Rattle.script.specs.declared.faults.Fault.TheVariants.{NinthBearer}
use Rattle.script.specs.declared.faults.ReadError.{ReadError}
use Rattle.script.specs.declared.scripts.Script.{Script}
use Rattle.script.specs.declared.scripts.Statement.{Statement}
use Rattle.script.specs.declared.scripts.Statement.TheVariants as statement
use Rattle.script.specs.Keywords.{keyword_of}
use Rattle.script.specs.Readings.{Reads}
use Rattle.script.specs.Results.{result_map, result_and_then}
use Rattle.script.specs.Script.{Contents, ScriptMeaning, and_further, contents_of, contents_with, first_policy, next_bearer, script_from, script_meaning, statement_by, statement_of}
use Rattle.script.specs.Setups.{bearer_of, bearer_with, policy_of}
use Rattle.script.specs.Words.{lines}
use Rattle.script.specs.Writing.{FitsFigure, FitsTypes, IsSayable, IsWritable, bearer_line, bearers_text, calls_text, first_word, kind_word, line, numbers_of, policy_text, policy_words, script_text}
use Rattle.script.proofs.Cut.{Word, line_first, word_by_test, words_of}
use Rattle.script.proofs.ReadsBack.{decimal_word, first_is_word, number_words, numbers_decimal, says}

abbrev contents : List BearerSetup → Option PolicySetup → List Call → Contents
contents bs p cs = record { bearers = bs; policy = p; calls = cs }

-- a text that stands behind s means m, whatever the number of its first line
abbrev Means : Contents → List ℕ → ScriptMeaning → Type 0
Means s text m = (n : ℕ) → script_from n s (lines text) ≡ m

-- a line that is written says t, and then comes more
one_line : (s : Contents) (t : Statement) (w : List ℕ) (ws : List (List ℕ)) (more : List ℕ) (m : ScriptMeaning) → Word w → All Word ws → statement_by s (keyword_of w) ws ≡ Ok t → Means (contents_with s t) more m → Means s (line w ws ++ more) m
one_line s t w ws more m a h e k n =
    let further = λ (x : Contents). script_from (n + 1) x (lines more) in
    ap (script_from n s) (line_first w ws more a h)
    ∙ ap (λ x. and_further n s (statement_of s x) further) (words_of w ws a h)
    ∙ ap (λ x. and_further n s (result_map Some x) further) e
    ∙ k (n + 1)

calls_mean : (bs : List BearerSetup) (p : Option PolicySetup) (cs ds : List Call) → All FitsTypes ds → Means (contents bs p cs) (calls_text ds) (Ok (contents bs p (cs ++ ds)))
calls_mean bs p cs [] h = λ n. ap (λ x. Ok (contents bs p x)) (sym (append-nil cs))
calls_mean bs p cs (d ∷ ds) h =
    let f = All-head FitsTypes d ds h in
    one_line (contents bs p cs) (statement.Call d) (first_word d) (map decimal (numbers_of d)) (calls_text ds) _ (first_is_word d) (number_words d f) (says d f (contents bs p cs))
    (subst (λ x. Means (contents bs p (cs ++ d ∷ [])) (calls_text ds) (Ok (contents bs p x))) (append_assoc cs (d ∷ []) ds) (calls_mean bs p (cs ++ d ∷ []) ds (All-tail FitsTypes d ds h)))

kind_is_word : (k : BearerKind) → Word (kind_word k)
kind_is_word Ring = word_by_test (kind_word Ring) refl
kind_is_word Mailbox = word_by_test (kind_word Mailbox) refl

below_all : (n : ℕ) → n < 2 ^ 64 → All (λ n. n < 2 ^ 64) (n ∷ [])
below_all n h = All-cons (λ n. n < 2 ^ 64) n [] h (All-nil (λ n. n < 2 ^ 64))

by_kind : (k : BearerKind) (d : ℕ) (o : Bool) → d < 2 ^ 64 → o ≡ false → bearer_of (kind_word k ∷ decimal d ∷ []) ≡ Ok (record { kind = k; depth = d; is_occupied = o })
by_kind Ring d o h e = ap (result_map (bearer_with Ring)) (numbers_decimal (d ∷ []) (below_all d h)) ∙ ap (λ x. Ok (record { kind = Ring; depth = d; is_occupied = x })) (sym e)
by_kind Mailbox d o h e = ap (result_map (bearer_with Mailbox)) (numbers_decimal (d ∷ []) (below_all d h)) ∙ ap (λ x. Ok (record { kind = Mailbox; depth = d; is_occupied = x })) (sym e)

is_next : (bs : List BearerSetup) (p : Option PolicySetup) (b : BearerSetup) → length bs < 8 → next_bearer (contents bs p []) b ≡ Ok (statement.Bearer b)
is_next bs p b h = cond-true (ltb (length bs) 8) (Ok (statement.Bearer b)) (Err NinthBearer) ((Decides-ltb (length bs) 8).1 h)

bearers_mean : (bs cs : List BearerSetup) (p : Option PolicySetup) (more : List ℕ) (m : ScriptMeaning) → All IsSayable cs → length bs + length cs ≤ 8 → Means (contents (bs ++ cs) p []) more m → Means (contents bs p []) (bearers_text cs ++ more) m
bearers_mean bs [] p more m h few k = subst (λ x. Means (contents x p []) more m) (append-nil bs) k
bearers_mean bs (b ∷ cs) p more m h few k =
    let f = All-head IsSayable b cs h in
    let said : statement_by (contents bs p []) (keyword_of (codes "bearer")) (kind_word b.kind ∷ decimal b.depth ∷ []) ≡ Ok (statement.Bearer b) =
    ap (result_and_then (next_bearer (contents bs p []))) (by_kind b.kind b.depth b.is_occupied f.depth f.vacant) ∙ is_next bs p b (omega (arith, few)) in
    let others = bearers_mean (bs ++ b ∷ []) cs p more m (All-tail IsSayable b cs h) (omega (arith, few, length-append bs (b ∷ []))) (subst (λ x. Means (contents x p []) more m) (sym (append_assoc bs (b ∷ []) cs)) k) in
    subst (λ x. Means (contents bs p []) x m) (sym (append_assoc (bearer_line b) (bearers_text cs) more))
    (one_line (contents bs p []) (statement.Bearer b) (codes "bearer") (kind_word b.kind ∷ decimal b.depth ∷ []) (bearers_text cs ++ more) m
    (word_by_test (codes "bearer") refl)
    (All-cons Word (kind_word b.kind) (decimal b.depth ∷ []) (kind_is_word b.kind) (All-cons Word (decimal b.depth) [] (decimal_word b.depth f.depth) (All-nil Word)))
    said others)

policy_said : (p : PolicySetup) → FitsFigure p → policy_of (policy_words p) ≡ Ok p
policy_said (Fixed figure) h = ap (result_map (λ ns. Fixed (get_or ns 0 0))) (numbers_decimal (figure ∷ []) (below_all figure h))
policy_said Backlog h = refl

policy_are_words : (p : PolicySetup) → FitsFigure p → All Word (policy_words p)
policy_are_words (Fixed figure) h = All-cons Word (codes "fixed") (decimal figure ∷ []) (word_by_test (codes "fixed") refl) (All-cons Word (decimal figure) [] (decimal_word figure h) (All-nil Word))
policy_are_words Backlog h = All-cons Word (codes "backlog") [] (word_by_test (codes "backlog") refl) (All-nil Word)

policy_means : (bs : List BearerSetup) (q : Option PolicySetup) (more : List ℕ) (m : ScriptMeaning) → IfSome q FitsFigure → Means (contents bs q []) more m → Means (contents bs None []) (policy_text q ++ more) m
policy_means bs None more m h k = k
policy_means bs (Some p) more m h k =
    one_line (contents bs None []) (statement.Policy p) (codes "policy") (policy_words p) more m (word_by_test (codes "policy") refl) (policy_are_words p h)
    (ap (result_and_then (first_policy (contents bs None []))) (policy_said p h)) k

text_means : (i : ℕ) (s : Contents) → IsWritable s → script_meaning (script_text i s) ≡ Ok s
text_means i s h =
    let front = take i s.bearers in
    let back = drop i s.bearers in
    let whole : front ++ back ≡ s.bearers = take-append-drop i s.bearers in
    let lengths : length front + length back ≡ length s.bearers = sym (length-append front back) ∙ ap length whole in
    let few = h.few in
    bearers_mean [] front None (policy_text s.policy ++ (bearers_text back ++ calls_text s.calls)) (Ok s) (All-take IsSayable i s.bearers h.bearers) (omega arith)
    (policy_means front s.policy (bearers_text back ++ calls_text s.calls) (Ok s) h.policy
    (bearers_mean front back s.policy (calls_text s.calls) (Ok s) (All-drop IsSayable i s.bearers h.bearers) (omega arith)
    (subst (λ x. Means (contents (front ++ back) s.policy []) (calls_text s.calls) (Ok (contents x s.policy s.calls))) whole
    (calls_mean (front ++ back) s.policy [] s.calls h.calls)))) 1

-- what `read_script` ensures of an answer that is what the text means
pub answers : (text : List ℕ) (r : Result Script ReadError) → Reads contents_of (script_meaning text) r → record { value : Reads contents_of (script_meaning text) r; faithful : (i : ℕ) (s : Contents) → IsWritable s → text ≡ script_text i s → Reads contents_of (Ok s) r }
answers text r t =
    record {
      value = t;
      faithful = λ i s h e. subst (λ (m : ScriptMeaning). Reads contents_of m r) (ap script_meaning e ∙ text_means i s h) t;
    }
