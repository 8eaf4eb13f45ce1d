-- The calls that answer before the receiver is configured, too.
use Rattle.std.proofs.Common.{◌≡◌, ℕ, Some, None, Ok, Err, Option, refl, ap, sym, ◌∙◌}
use Rattle.std.proofs.lemmas.Bool.{cond_both}
use Rattle.policy.specs.Batches.{Batches, IsBounded}
use Rattle.machine.specs.declared.answers.Answer.{Answer}
use Rattle.machine.specs.declared.calls.Call.TheVariants.{Tell}
use Rattle.machine.specs.declared.refusals.Refusal.{Refusal}
use Rattle.machine.specs.declared.refusals.Refusal.TheVariants.{NotOut}
use Rattle.machine.specs.Calls.{tell, spend}
use Rattle.machine.specs.Checks.{first_refusal}
use Rattle.machine.specs.Machine.{out_checks, call, checks_of, effect_of}
use Rattle.machine.specs.Moves.{set_gate}
use Rattle.machine.specs.Numbers.{holds}
use Rattle.machine.specs.Settings.{Settings}
use Rattle.machine.specs.State.{Core, put_up}
use Rattle.machine.proofs.Unmoved.{gate_same}
use Rattle.receiver.specs.declared.ends.End.{End}
use Rattle.receiver.specs.declared.ends.End.TheVariants.{Delivered, Discarded}
use Rattle.receiver.specs.declared.settings.Settings.{Settings as HeldSettings}
use Rattle.receiver.specs.Empty.{empty_over}
use Rattle.receiver.specs.Ends.{call_of, answer_of, one_of}
use Rattle.receiver.specs.Fields.{state_of, IsKept}
use Rattle.receiver.specs.Receivers.{Receiving, answer_to, after}
use Rattle.receiver.specs.Settings.{settings_of}
use Rattle.receiver.proofs.Called.{Comes, comes_refused, comes_accepted, answers, shows, kept_settled}

-- a number that is not out is refused, whether or not the receiver is configured
refused_as : (n : ℕ) (x : Core) (r : Refusal) → Some r ≡ first_refusal (out_checks n x) → r ≡ NotOut
refused_as n x r e = cond_both (holds n x.out) _ _ (λ (q : Option Refusal). Some r ≡ q → r ≡ NotOut) (λ _ i. cc i) (λ _ i. cc i) e

-- and no number is out before
none_out : (m n : ℕ) (x : Core) → IsKept m None x → None ≡ first_refusal (out_checks n x) → ⊥
none_out m n x k e = let f : None ≡ first_refusal (out_checks n (empty_over x.bearers)) = e ∙ ap (λ (y : Core). first_refusal (out_checks n y)) k in cc f

-- what either end is to the machine
module _ (p : Batches) (x : Core) (n : ℕ) where
  before : (end : End) → Comes p (call_of end n) (put_up x.bearers) (Err NotOut) (put_up x.bearers)
  unfolding call
  before Delivered = refl
  before Discarded = refl

  checks : (end : End) (s : Settings) → checks_of s x (call_of end n) ≡ out_checks n x
  checks Delivered s = refl
  checks Discarded s = refl

  effect : (end : End) (s : Settings) → effect_of s x p (call_of end n) ≡ (answer_of end, spend n (one_of end) x)
  effect Delivered s = refl
  effect Discarded s = refl

module _ (p : Batches) (o : Option HeldSettings) (x : Core) where
  pub tells : (m : ℕ) → IsKept m o x → Comes p Tell (state_of o x) (Ok (tell x).0) (state_of o x)
  unfolding call
  tells m k = by o k
    where
      by : (q : Option HeldSettings) → IsKept m q x → Comes p Tell (state_of q x) (Ok (tell x).0) (state_of q x)
      by None e = ap (λ (y : Core). (Ok (tell y).0, put_up x.bearers)) (sym e)
      by (Some s) k = comes_accepted p (settings_of s) x Tell x refl (gate_same (settings_of s) x x refl)

  module _ (n : ℕ) (end : End) where
    unspent : (r : Refusal) → Some r ≡ first_refusal (out_checks n x) → Comes p (call_of end n) (state_of o x) (Err r) (state_of o x)
    unspent r e = by o
      where
        by : (q : Option HeldSettings) → Comes p (call_of end n) (state_of q x) (Err r) (state_of q x)
        by None = before p x n end ∙ ap (λ (t : Refusal). (Err t, put_up x.bearers)) (sym (refused_as n x r e))
        by (Some s) = comes_refused p (settings_of s) x (call_of end n) r (e ∙ ap first_refusal (sym (checks p x n end (settings_of s))))

    -- with settings: neither used nor the hold changes, so the gate stays
    spent_settled : (s : HeldSettings) → None ≡ first_refusal (out_checks n x) →
        Comes p (call_of end n) (state_of (Some s) x) (Ok (answer_of end)) (state_of (Some s) (spend n (one_of end) x))
    spent_settled s e =
        let t : Settings = settings_of s in
        let z : Core = spend n (one_of end) x in
        comes_accepted p t x (call_of end n) z (e ∙ ap first_refusal (sym (checks p x n end t)))
        (gate_same t x z refl ∙ ap (λ (d : Answer × Core). set_gate t x d.1) (sym (effect p x n end t)))
        ∙ ap (λ (d : Answer × Core). (Ok d.0, state_of (Some s) z)) (effect p x n end t)

    spent : (m : ℕ) → IsKept m o x → None ≡ first_refusal (out_checks n x) →
        Comes p (call_of end n) (state_of o x) (Ok (answer_of end)) (state_of o (spend n (one_of end) x))
    spent m k e = by o k
      where
        by : (q : Option HeldSettings) → IsKept m q x → Comes p (call_of end n) (state_of q x) (Ok (answer_of end)) (state_of q (spend n (one_of end) x))
        by None k = absurd (none_out m n x k e)
        by (Some s) k = spent_settled s e

-- What a receiver answers and shows when a receipt of number n is spent, or not.
module _ {P : Type 0} (meaning : P → Batches) (o : Option HeldSettings) (x : Core) {y : P} {v : Receiving P} (is : record { policy = y; state = state_of o x } ≡ v)
    (n : ℕ) (end : End) where
  pub hands_back : {r : Refusal} {z : Core} → z ≡ x → Some r ≡ first_refusal (out_checks n x) →
      record { value : Err r ≡ answer_to meaning (call_of end n) v; after : record { policy = y; state = state_of o z } ≡ after meaning (call_of end n) v }
  hands_back {r = r} same failed =
      let comes = unspent (meaning y) o x n end r failed in
      record { value = answers meaning y x is refl (call_of end n) comes; after = shows meaning y x is refl (call_of end n) comes (ap (state_of o) same) }

  module _ (bounded : IsBounded (meaning y)) {most : ℕ} (greatest : (meaning y).greatest ≡ most) (k : IsKept most o x) {z : Core} (passed : None ≡ first_refusal (out_checks n x)) (did : z ≡ spend n (one_of end) x) where
    pub spends : record { value : Ok (answer_of end) ≡ answer_to meaning (call_of end n) v; after : record { policy = y; state = state_of o z } ≡ after meaning (call_of end n) v }
    spends =
        let comes = spent (meaning y) o x n end most k passed in
        record { value = answers meaning y x is refl (call_of end n) comes; after = shows meaning y x is refl (call_of end n) comes (ap (state_of o) did) }

    pub spent_kept : IsKept most o z
    spent_kept = by o k
      where
        by : (q : Option HeldSettings) → IsKept most q x → IsKept most q z
        by None k = absurd (none_out most n x k passed)
        by (Some s) k =
            kept_settled bounded greatest (call_of end n) x {s = s} refl k
            (spent_settled (meaning y) o x n end s passed ∙ ap (λ u. (Ok (answer_of end), state_of (Some s) u)) (sym did))
