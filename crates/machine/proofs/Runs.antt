-- What holds of every list of calls: an invariant of the entries so far and of the receiver, kept by whatever a call comes to.
use Rattle.std.proofs.Common.{◌≡◌, List, [], ◌∷◌, ◌++◌, Result, sym, refl, subst, append_assoc, append-nil, Err}
use Rattle.machine.specs.declared.answers.Answer.{Answer}
use Rattle.machine.specs.declared.calls.Call.{Call}
use Rattle.machine.specs.Settings.{Settings}
use Rattle.machine.specs.declared.refusals.Refusal.{Refusal}
use Rattle.machine.specs.State.{Core, State, configured, unconfigured, put_up}
use Rattle.policy.specs.Batches.{Batches}
use Rattle.machine.specs.Trace.{Entry, trace, end_of, Throughout}
use Rattle.machine.specs.Laws.{OnceConfigured, Always, RefusalsLeave}
use Rattle.machine.proofs.Moved.{Happens, happens, refused}

-- one call, and what it came to
abbrev pub entry_of : State → Call → Result Answer Refusal → State → Entry
entry_of t c r u = record { asked = c; answered = r; before = t; after = u }

module _ (p : Batches) where
  -- a trace begins with what its first call comes to, and goes on from there
  pub record Starts (t : State) (e : Entry) (rest : List Entry) : Type 0 where
    pub from : e.before ≡ t
    pub comes : Happens p t e.asked e.answered e.after
    pub calls : List Call
    pub goes_on : trace p e.after calls ≡ rest

  pub starts_with : (cs : List Call) (t : State) (e : Entry) (rest : List Entry) → trace p t cs ≡ e ∷ rest → Starts t e rest
  starts_with [] t e rest h = cc
  starts_with (c ∷ cs) t e rest h =
      subst (λ (d : Entry). Starts t d rest) (cc)
      (record { from = refl; comes = happens p c t; calls = cs; goes_on = cc })

  module _ (I : List Entry → State → Type 0)
      (keep : (es : List Entry) (t u : State) (c : Call) (r : Result Answer Refusal) → I es t → Happens p t c r u → I (es ++ entry_of t c r u ∷ []) u) where
    -- I after the entries so far, and after the first part of what follows; and what follows then is a trace
    reached_from : (before after es : List Entry) (cs : List Call) (t : State) → I es t → trace p t cs ≡ before ++ after →
        I (es ++ before) (end_of t before) × (ds : List Call) × (trace p (end_of t before) ds ≡ after)
    reached_from [] after es cs t i h = (subst (λ (l : List Entry). I l t) (sym (append-nil es)) i, cs, h)
    reached_from (e ∷ before) after es cs t i h =
        let b = starts_with cs t e (before ++ after) h in
        let j : I (es ++ e ∷ []) e.after = subst (λ (v : State). I (es ++ entry_of v e.asked e.answered e.after ∷ []) e.after) (sym b.from) (keep es t e.after e.asked e.answered i b.comes) in
        let k = reached_from before after (es ++ e ∷ []) b.calls e.after j b.goes_on in
        (subst (λ (l : List Entry). I l (end_of e.after before)) (append_assoc es (e ∷ []) before) k.0, k.1, k.2)

    -- from a start at which I holds
    module _ (t : State) (start : I [] t) (cs : List Call) where
      pub reached : (before after : List Entry) → trace p t cs ≡ before ++ after → I before (end_of t before) × (ds : List Call) × (trace p (end_of t before) ds ≡ after)
      reached before after h = reached_from before after [] cs t start h

      pub throughout : Throughout t (trace p t cs) I
      throughout before after h = (reached before after h).0

      pub at_end : I (trace p t cs) (end_of t (trace p t cs))
      at_end = throughout (trace p t cs) [] (sym (append-nil (trace p t cs)))

      -- what one call of the trace came to, with I before it
      pub record Came (before : List Entry) (e : Entry) : Type 0 where
        pub held : I before e.before
        pub comes : Happens p e.before e.asked e.answered e.after

      pub each_call : (before after : List Entry) (e : Entry) → trace p t cs ≡ before ++ e ∷ after → Came before e
      each_call before after e h =
          let r = reached before (e ∷ after) h in
          let b = starts_with r.1 (end_of t before) e after r.2 in
          record {
            held = subst (λ (v : State). I before v) (sym b.from) r.0;
            comes = subst (λ (v : State). Happens p v e.asked e.answered e.after) (sym b.from) b.comes;
          }

-- once configured, from an invariant Q of the receiver
pub if_configured : (Q : State → Type 0) {P : Settings → Core → Type 0} → ((s : Settings) (x : Core) → Q (configured s x) → P s x) → (t : State) → Q t → OnceConfigured t P
if_configured Q f (unconfigured u) q = tt
if_configured Q f (configured s x) q = f s x q

-- a refused call leaves all as it was
pub refused_same : {p : Batches} {t u : State} {c : Call} {q : Refusal} → Happens p t c (Err q) u → u ≡ t
refused_same refused = refl

pub refusals_leave : Always RefusalsLeave
refusals_leave p _ bs cs before after e r h a =
    let k = each_call p (λ _ _. Unit {0}) (λ _ _ _ _ _ _ _. tt) (put_up bs) tt cs before after e h in
    refused_same (subst (λ q. Happens p e.before e.asked q e.after) a k.comes)
