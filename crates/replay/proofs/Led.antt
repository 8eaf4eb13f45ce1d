-- Turns that lead from one stage to another: where their trace ends, one more turn, the stop, and what each turn finds.
use Rattle.std.proofs.Common.{◌≡◌, List, [], ◌∷◌, ◌++◌, Some, None, refl, sym, ap, ◌∙◌, subst}
use Rattle.machine.specs.declared.calls.Call.{Call}
use Rattle.policy.specs.Batches.{Batches}
use Rattle.machine.specs.Trace.{Entry, entry, trace, end_of}
use Rattle.replay.specs.Stages.{Stage, turn, after, Leads}

module _ (p : Batches) where
  -- the trace of the calls ends with the receiver of the last stage
  pub leads_end : (x : Stage) (cs : List Call) (y : Stage) → Leads p x cs y → end_of x.receiver (trace p x.receiver cs) ≡ y.receiver
  leads_end x [] y l = ap (λ (s : Stage). s.receiver) l
  leads_end x (c ∷ cs) y l = leads_end (after p c x) cs y l.1

  -- one more turn
  pub leads_push : (x : Stage) (cs : List Call) (y : Stage) (c : Call) → Leads p x cs y → turn p y ≡ Some c → Leads p x (cs ++ c ∷ []) (after p c y)
  leads_push x [] y c l t = (ap (turn p) l ∙ t, ap (after p c) l)
  leads_push x (d ∷ cs) y c l t = (l.0, leads_push (after p d x) cs y c l.1 t)

  -- turns lead to one stop alone
  pub one_stop : (x : Stage) (cs : List Call) (y : Stage) (ds : List Call) (z : Stage) → Leads p x cs y → turn p y ≡ None → Leads p x ds z → turn p z ≡ None →
      (cs ≡ ds) × (y ≡ z)
  one_stop x [] y [] z l t m u = (refl, sym l ∙ m)
  one_stop x [] y (d ∷ ds) z l t m u = let k = sym (ap (turn p) l ∙ t) ∙ m.0 in cc k
  one_stop x (c ∷ cs) y [] z l t m u = let k = sym (ap (turn p) m ∙ u) ∙ l.0 in cc k
  one_stop x (c ∷ cs) y (d ∷ ds) z l t m u =
      let k : Some c ≡ Some d = sym l.0 ∙ m.0 in
      let e : c ≡ d = cc k in
      let r = one_stop (after p d x) cs y ds z (subst (λ b. Leads p (after p b x) cs y) e l.1) t m.1 u in
      (cc (e, r.0), r.1)

  -- what turns keep
  module _ (I : Stage → Type 0) (keep : (x : Stage) → I x → (c : Call) → turn p x ≡ Some c → I (after p c x)) where
    -- an entry of the trace is what a turn's call comes to, made at a stage of which I holds
    pub record ByTurn (e : Entry) : Type 0 where
      pub stage : Stage
      pub held : I stage
      pub is_turn : turn p stage ≡ Some e.asked
      pub is_entry : e ≡ entry p stage.receiver e.asked

    pub each_turn : (x : Stage) (cs : List Call) (y : Stage) → I x → Leads p x cs y →
        (before rest : List Entry) (e : Entry) → trace p x.receiver cs ≡ before ++ e ∷ rest → ByTurn e
    each_turn x [] y i l [] rest e h = cc h
    each_turn x [] y i l (d ∷ before) rest e h = cc h
    each_turn x (c ∷ cs) y i l [] rest e h =
        subst ByTurn (cc h) (record { stage = x; held = i; is_turn = l.0; is_entry = refl })
    each_turn x (c ∷ cs) y i l (d ∷ before) rest e h = each_turn (after p c x) cs y (keep x i c l.0) l.1 before rest e (cc h)
