-- The calls of a list that are made keep each law that always holds; and what is out then is what the ledger says.
use Rattle.std.proofs.Common.{◌≡◌, ℕ, List, [], ◌∷◌, map, refl, sym, ap, ◌∙◌}
use Rattle.board.specs.Bearers.{Bearer}
use Rattle.machine.specs.declared.calls.Call.{Call}
use Rattle.machine.specs.State.{State, configured, unconfigured, out_of, put_up}
use Rattle.policy.specs.Batches.{Batches, IsBounded}
use Rattle.machine.specs.Ledger.{Ledger, ledger, depths_of}
use Rattle.machine.specs.Laws.{Always, Law}
use Rattle.machine.proofs.Runs.{at_end}
use Rattle.machine.proofs.Agreement.{TallyState, Agreeing, starts_agreeing, keeps_agreeing}
use Rattle.receiver.specs.declared.receipts.Receipt.{Receipt}
use Rattle.conduct.specs.Lists.{after_list, conducted, made_calls, unspent, receipts_of, Keeps}

-- the receipts of what is out have its numbers
numbered : (ns : List ℕ) → map (λ (r : Receipt). r.number) (map unspent ns) ≡ ns
numbered [] = refl
numbered (n ∷ ns) = ap (λ ms. n ∷ ms) (numbered ns)

module _ (p : Batches) (bs : List Bearer) (cs : List Call) where
  pub keeps : (law : Law) → Always law → IsBounded p → Keeps law p bs cs
  keeps law always b = always p b bs (made_calls p (put_up bs) cs)

  pub ledger_out : map (λ (r : Receipt). r.number) (receipts_of (after_list p (put_up bs) cs)) ≡ (ledger bs (conducted p (put_up bs) cs)).columns.out
  ledger_out =
      numbered (out_of (after_list p (put_up bs) cs))
      ∙ by (after_list p (put_up bs) cs) (ledger bs (conducted p (put_up bs) cs))
      (at_end p (Agreeing p bs) (keeps_agreeing p bs) (put_up bs) (starts_agreeing p bs) (made_calls p (put_up bs) cs))
    where
      by : (t : State) (l : Ledger) → TallyState (depths_of bs) t l → out_of t ≡ l.columns.out
      by (unconfigured u) l a = ap (λ (k : Ledger). k.columns.out) (sym a.0)
      by (configured s x) l a = a.out
