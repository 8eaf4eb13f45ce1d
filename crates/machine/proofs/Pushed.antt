-- The ledger entry by entry: what true answers keep holds of the ledger after every first part of a trace.
use Rattle.std.proofs.Common.{◌≡◌, List, [], ◌∷◌, ◌++◌, length, sym, ◌∙◌, subst, append_assoc, append-nil}
use Rattle.std.proofs.lemmas.List.Sums.{fold-append}
use Rattle.board.specs.Bearers.{Bearer}
use Rattle.machine.specs.State.{put_up}
use Rattle.policy.specs.Batches.{Batches}
use Rattle.machine.specs.Trace.{Entry, Throughout}
use Rattle.machine.specs.Ledger.{Ledger, nothing, told, depths_of, ledger}
use Rattle.machine.specs.Laws.{Truly, TrueAnswers}

-- one more entry is told to the ledger
pub ledger_push : (bs : List Bearer) (es : List Entry) (e : Entry) → ledger bs (es ++ e ∷ []) ≡ told (depths_of bs) e.asked e.answered (ledger bs es)
unfolding ledger
ledger_push bs es e = fold-append (λ l (d : Entry). told (depths_of bs) d.asked d.answered l) (nothing (length bs)) es (e ∷ [])

-- P of the entries so far and of their ledger: it holds of none and the empty ledger, and an entry that is true to the ledger keeps it
module _ (P : List Entry → Ledger → Type 0) (bs : List Bearer) (none : P [] (nothing (length bs)))
    (keep : (es : List Entry) (e : Entry) (l : Ledger) → P es l → Truly (depths_of bs) e.asked e.answered l →
    P (es ++ e ∷ []) (told (depths_of bs) e.asked e.answered l))
    (p : Batches) (es : List Entry) (t : TrueAnswers p bs es) where
  -- from the entries done so far on
  kept_from : (done before after : List Entry) → es ≡ done ++ (before ++ after) → P done (ledger bs done) → P (done ++ before) (ledger bs (done ++ before))
  kept_from done [] after h k = subst (λ l. P l (ledger bs l)) (sym (append-nil done)) k
  kept_from done (e ∷ before) after h k =
      subst (λ l. P l (ledger bs l)) (append_assoc done (e ∷ []) before)
      (kept_from (done ++ e ∷ []) before after (h ∙ sym (append_assoc done (e ∷ []) (before ++ after)))
      (subst (P (done ++ e ∷ [])) (sym (ledger_push bs done e)) (keep done e (ledger bs done) k (t done (before ++ after) e h))))

  pub told_keeps : Throughout (put_up bs) es (λ before _. P before (ledger bs before))
  unfolding ledger
  told_keeps before after h = kept_from [] before after h none
