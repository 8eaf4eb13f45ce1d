-- What a call comes to, by its checks and by what it does once they passed; and what a receiver then answers and shows.
use Rattle.std.proofs.Common.{◌≡◌, ℕ, ◌≤◌, Bool, length, arith, Some, None, Ok, Err, Option, Result, refl, ap, sym, ◌∙◌, subst}
use Rattle.std.specs.Option.{ok_or}
use Rattle.policy.specs.Batches.{Batches, IsBounded}
use Rattle.machine.specs.declared.answers.Answer.{Answer}
use Rattle.machine.specs.declared.calls.Call.{Call}
use Rattle.machine.specs.declared.refusals.Refusal.{Refusal}
use Rattle.machine.specs.declared.refusals.Refusal.TheVariants.{NotConfigured}
use Rattle.machine.specs.Checks.{first_refusal}
use Rattle.machine.specs.Kept.{Kept, KeptState}
use Rattle.machine.specs.Machine.{unless, checks_of, effect_of, gated, call}
use Rattle.machine.specs.Moves.{set_gate}
use Rattle.machine.specs.Settings.{Settings}
use Rattle.machine.specs.State.{Core, State, put_up, configured, is_open}
use Rattle.machine.proofs.Kept.{call_keeps}
use Rattle.machine.proofs.Moved.{Happens, happened}
use Rattle.machine.proofs.OneCall.{same_bearers}
use Rattle.receiver.specs.declared.settings.Settings.{Settings as HeldSettings}
use Rattle.receiver.specs.Fields.{state_of, IsKept}
use Rattle.receiver.specs.Receivers.{Receiving, answer_to, after, answered}
use Rattle.receiver.specs.Settings.{settings_of}

-- a call on a state comes to an answer and another state
abbrev pub Comes : Batches → Call → State → Result Answer Refusal → State → Type 0
Comes p c t r u = call p c t ≡ (r, u)

-- of a configured receiver
module _ (p : Batches) (s : Settings) (x : Core) (c : Call) where
  by_checks : (o : Option Refusal) → o ≡ first_refusal (checks_of s x c) →
      call p c (configured s x) ≡ ((unless o x (gated s x (effect_of s x p c))).0, configured s (unless o x (gated s x (effect_of s x p c))).1)
  unfolding call
  by_checks o e = ap (λ (q : Option Refusal). ((unless q x (gated s x (effect_of s x p c))).0, configured s (unless q x (gated s x (effect_of s x p c))).1)) (sym e)

  pub comes_refused : (r : Refusal) → Some r ≡ first_refusal (checks_of s x c) → Comes p c (configured s x) (Err r) (configured s x)
  comes_refused r e = by_checks (Some r) e

  pub comes_accepted : (y : Core) → None ≡ first_refusal (checks_of s x c) → y ≡ set_gate s x (effect_of s x p c).1 →
      Comes p c (configured s x) (Ok (effect_of s x p c).0) (configured s y)
  comes_accepted y e f = by_checks None e ∙ ap (λ (z : Core). (Ok (effect_of s x p c).0, configured s z)) (sym f)

-- what a receiver answers and shows then, by its fields
module _ {P : Type 0} (meaning : P → Batches) (y : P) (x : Core) {v : Receiving P} {o : Option HeldSettings} (is : record { policy = y; state = state_of o x } ≡ v) {q : Option HeldSettings} (e : o ≡ q) where
  called : (c : Call) → call (meaning v.policy) c v.state ≡ call (meaning y) c (state_of q x)
  called c = ap (λ (w : Receiving P). call (meaning w.policy) c w.state) (sym is) ∙ ap (λ (n : Option HeldSettings). call (meaning y) c (state_of n x)) e

  pub answers : {r : Result Answer Refusal} {u : State} (c : Call) → Comes (meaning y) c (state_of q x) r u → r ≡ answer_to meaning c v
  answers c comes = ap (λ (d : Result Answer Refusal × State). d.0) (sym (called c ∙ comes))

  pub shows : {r : Result Answer Refusal} {w u : State} (c : Call) → Comes (meaning y) c (state_of q x) r u → w ≡ u →
      record { policy = y; state = w } ≡ after meaning c v
  shows c comes to =
      ap (λ (u : State). record { policy = y; state = u }) (to ∙ sym (ap (λ (d : Result Answer Refusal × State). d.1) (called c ∙ comes)))
      ∙ ap (λ (p : P). record { policy = p; state = (call (meaning v.policy) c v.state).1 }) (ap (λ (w : Receiving P). w.policy) is)

  pub stays : {r : Result Answer Refusal} (c : Call) → Comes (meaning y) c (state_of q x) r (state_of q x) → v ≡ after meaning c v
  stays c comes = sym is ∙ shows c comes (ap (λ (n : Option HeldSettings). state_of n x) e)

-- what it keeps, with settings
pub settled : {m : ℕ} {s : HeldSettings} {x : Core} {o : Option HeldSettings} → o ≡ Some s → IsKept m o x → Kept m (settings_of s) x × (length x.bearers ≤ 8)
settled {m = m} {x = x} e k = subst (λ (q : Option HeldSettings). IsKept m q x) e k

-- a call keeps it, under a policy in its bounds
pub kept_by : {p : Batches} {m : ℕ} → IsBounded p → p.greatest ≡ m → (c : Call) (t u : State) {r : Result Answer Refusal} → KeptState m t → Comes p c t r u → KeptState m u
kept_by {p = p} b greatest c t u {r = r} k comes =
    let h : Happens p t c r u = happened p c t (ap (λ (d : Result Answer Refusal × State). d.0) comes) (ap (λ (d : Result Answer Refusal × State). d.1) comes) in
    subst (λ n. KeptState n u) greatest (call_keeps p b t u c r (subst (λ n. KeptState n t) (sym greatest) k) h)

pub kept_settled : {p : Batches} {m : ℕ} → IsBounded p → p.greatest ≡ m → (c : Call) (x : Core) {s : HeldSettings} {o : Option HeldSettings} {y : Core} {r : Result Answer Refusal} →
    o ≡ Some s → IsKept m o x → Comes p c (configured (settings_of s) x) r (configured (settings_of s) y) → IsKept m o y
kept_settled {p = p} {m = m} b greatest c x {s = s} {y = y} {r = r} e k comes =
    let had = settled e k in
    let t : State = configured (settings_of s) x in
    let u : State = configured (settings_of s) y in
    let h : Happens p t c r u = happened p c t (ap (λ (d : Result Answer Refusal × State). d.0) comes) (ap (λ (d : Result Answer Refusal × State). d.1) comes) in
    subst (λ (q : Option HeldSettings). IsKept m q y) (sym e) (kept_by b greatest c t u had.0 comes, omega (arith, had.1, same_bearers h))

-- the gate is set by what it was
pub gated_as : (s : Settings) (x z' : Core) {w : Bool} {y z : Core} → ((v : Core) → is_open s v ≡ w → z ≡ set_gate s v y) → w ≡ is_open s x → y ≡ z' → z ≡ set_gate s x z'
gated_as s x z' f e h = f x (sym e) ∙ ap (set_gate s x) h

-- What a call answers and shows: one that is refused,
module _ {P : Type 0} (meaning : P → Batches) (x : Core) {y : P} {v : Receiving P} {o : Option HeldSettings} (is : record { policy = y; state = state_of o x } ≡ v) where
  pub declines : {q : Option HeldSettings} → o ≡ q → (c : Call) {r : Refusal} → Comes (meaning y) c (state_of q x) (Err r) (state_of q x) →
      record { value : Err r ≡ answer_to meaning c v; after : v ≡ after meaning c v }
  declines e c comes = record { value = answers meaning y x is e c comes; after = stays meaning y x is e c comes }

  -- or whose refusal is passed on
  pub passes_on : {q : Option HeldSettings} → o ≡ q → (c : Call) {r : Refusal} → Comes (meaning y) c (state_of q x) (Err r) (state_of q x) → {R : Type 0} (as_answer : R → Answer) {a : Result R Refusal} → a ≡ Err r →
      record { value : answered as_answer a ≡ answer_to meaning c v; after : v ≡ after meaning c v }
  passes_on e c comes as_answer given = let d = declines e c comes in record { value = ap (answered as_answer) given ∙ d.value; after = d.after }

  -- with settings, by its checks and by what it does once they passed
  module _ {s : HeldSettings} (e : o ≡ Some s) (c : Call) where
    pub refuses : {R : Type 0} (as_answer : R → Answer) {a : Result R Refusal} {r : Refusal} → a ≡ Err r → Some r ≡ first_refusal (checks_of (settings_of s) x c) →
        record { value : answered as_answer a ≡ answer_to meaning c v; after : v ≡ after meaning c v }
    refuses as_answer {r = r} given failed = passes_on e c (comes_refused (meaning y) (settings_of s) x c r failed) as_answer given

    module _ (bounded : IsBounded (meaning y)) {most : ℕ} (greatest : (meaning y).greatest ≡ most) (k : IsKept most o x) {w : Bool} {m z : Core}
        (passed : None ≡ first_refusal (checks_of (settings_of s) x c)) (was : w ≡ is_open (settings_of s) x)
        (did : m ≡ (effect_of (settings_of s) x (meaning y) c).1) (set : (u : Core) → is_open (settings_of s) u ≡ w → z ≡ set_gate (settings_of s) u m) where
      comes : Comes (meaning y) c (configured (settings_of s) x) (Ok (effect_of (settings_of s) x (meaning y) c).0) (configured (settings_of s) z)
      comes = comes_accepted (meaning y) (settings_of s) x c z passed (gated_as (settings_of s) x (effect_of (settings_of s) x (meaning y) c).1 set was did)

      pub leaves_kept : IsKept most o z
      leaves_kept = kept_settled bounded greatest c x e k comes

      pub accepts : (a : Answer) → a ≡ (effect_of (settings_of s) x (meaning y) c).0 →
          record { value : Ok a ≡ answer_to meaning c v; after : record { policy = y; state = state_of o z } ≡ after meaning c v }
      accepts a given = record {
        value = ap Ok given ∙ answers meaning y x is e c comes;
        after = shows meaning y x is e c comes (ap (λ (n : Option HeldSettings). state_of n z) e);
      }

-- The settings, if there are any.
pub set : {o : Option HeldSettings} {s : HeldSettings} → Ok s ≡ ok_or o NotConfigured → o ≡ Some s
set {o = None} e = cc e
set {o = Some s} e = cc e

unset : {o : Option HeldSettings} {r : Refusal} → Err r ≡ ok_or o NotConfigured → (o ≡ None) × (r ≡ NotConfigured)
unset {o = None} e = (refl, cc e)
unset {o = Some s} e = cc e

-- a call that is refused without them
pub refuses_unset : {P : Type 0} (meaning : P → Batches) (x : Core) {y : P} {v : Receiving P} (o : Option HeldSettings) → record { policy = y; state = state_of o x } ≡ v →
    {r : Refusal} → Err r ≡ ok_or o NotConfigured → (c : Call) → Comes (meaning y) c (put_up x.bearers) (Err NotConfigured) (put_up x.bearers) →
    {R : Type 0} (as_answer : R → Answer) {a : Result R Refusal} → a ≡ Err r → record { value : answered as_answer a ≡ answer_to meaning c v; after : v ≡ after meaning c v }
refuses_unset meaning x o is e c comes as_answer given =
    let none = unset e in passes_on meaning x is none.0 c comes as_answer (given ∙ ap Err none.1)
