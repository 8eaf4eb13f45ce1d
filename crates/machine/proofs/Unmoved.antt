-- What the gate leaves as it was: all but whether bearers are armed and signal, and the end of the poll list.
use Rattle.std.proofs.Common.{◌≡◌, ℕ, Bool, false, List, [], ◌∷◌, ◌++◌, map, length, refl, ap, ◌∙◌, append_assoc, append-nil, sym}
use Rattle.std.proofs.Math.Seq.{map-set_same}
use Rattle.std.proofs.Math.ListN.{get_or-map}
use Rattle.std.proofs.lemmas.Bool.{cond_both, cond-true, cond-false}
use Rattle.board.specs.Bearers.{Bearer, absent, bearer_of, changed, any_in, after_arm, after_disarm}
use Rattle.machine.specs.Settings.{Settings}
use Rattle.machine.specs.State.{Core, waits, busy, is_open}
use Rattle.machine.specs.Moves.{arm, open_bearer, open_gate, shut_gate, set_gate}
use Rattle.machine.proofs.Basics.{on_each_keeps}
use Rattle.std.proofs.lemmas.Simd.{map-map}

pub record Unmoved (x y : Core) : Type 0 where
  pub bearers : map after_disarm y.bearers ≡ map after_disarm x.bearers
  pub clock : y.clock ≡ x.clock
  pub hold : y.hold ≡ x.hold
  pub grant : y.grant ≡ x.grant
  pub queue : y.queue ≡ x.queue
  pub out : y.out ≡ x.out
  pub counts : y.counts ≡ x.counts
  pub joined : List ℕ
  pub listed : y.listed ≡ x.listed ++ joined

-- what the bearers show apart from arming and signals is as it was: of one bearer, and of all
pub unmoved_bearer : {A : Type 0} (f : Bearer → A) → ((v : Bearer) → f (after_disarm v) ≡ f v) → (x y : Core) → Unmoved x y →
    (b : ℕ) → f (bearer_of y.bearers b) ≡ f (bearer_of x.bearers b)
unmoved_bearer f same x y u b = sym (shown y.bearers) ∙ ap (λ bs. f (bearer_of bs b)) u.bearers ∙ shown x.bearers
  where
    shown : (bs : List Bearer) → f (bearer_of (map after_disarm bs) b) ≡ f (bearer_of bs b)
    shown bs = ap f (get_or-map after_disarm bs b absent) ∙ same (bearer_of bs b)

pub unmoved_bearers : {A : Type 0} (f : Bearer → A) → ((v : Bearer) → f (after_disarm v) ≡ f v) → (x y : Core) → Unmoved x y → map f y.bearers ≡ map f x.bearers
unmoved_bearers f same x y u = sym (shown y.bearers) ∙ ap (map f) u.bearers ∙ shown x.bearers
  where
    shown : (bs : List Bearer) → map f (map after_disarm bs) ≡ map f bs
    shown [] = refl
    shown (v ∷ bs) = cc (same v, shown bs)

rearmed : (f : Bearer → Bearer) → ((v : Bearer) → after_disarm (f v) ≡ after_disarm v) → (bs : List Bearer) (b : ℕ) →
    map after_disarm (changed bs b f) ≡ map after_disarm bs
rearmed f same bs b = map-set_same after_disarm bs b (f (bearer_of bs b)) absent (same (bearer_of bs b))

-- arming leaves all else of a bearer as it was
pub armed_same : (r : Bool) (v : Bearer) → after_disarm (after_arm r v) ≡ after_disarm v
armed_same r v = cond_both v.armed _ _ (λ (w : Bearer). after_disarm w ≡ after_disarm v) (λ _. refl) (λ _. refl)

module _ (x : Core) where
  unmoved_open : (b : ℕ) (y : Core) → Unmoved x y → Unmoved x (open_bearer b y)
  unmoved_open b y u =
      cond_both (busy y b) _ _ (Unmoved x) (λ _. u)
      (λ _. cond_both (any_in (waits y.bearers b)) _ _ (Unmoved x)
      (λ _. record {
        bearers = rearmed after_disarm (λ _. refl) (arm b y).bearers b ∙ armed;
        clock = u.clock;
        hold = u.hold;
        grant = u.grant;
        queue = u.queue;
        out = u.out;
        counts = u.counts;
        joined = u.joined ++ b ∷ [];
        listed = ap (λ l. l ++ b ∷ []) u.listed ∙ append_assoc x.listed u.joined (b ∷ []);
      })
      (λ _. record {
        bearers = armed;
        clock = u.clock;
        hold = u.hold;
        grant = u.grant;
        queue = u.queue;
        out = u.out;
        counts = u.counts;
        joined = u.joined;
        listed = u.listed;
      }))
    where
      armed : map after_disarm (arm b y).bearers ≡ map after_disarm x.bearers
      armed = rearmed (after_arm false) (armed_same false) y.bearers b ∙ u.bearers

  -- another board that shows the same
  reshown : (bs : List Bearer) → map after_disarm bs ≡ map after_disarm x.bearers → Unmoved x (record x { bearers = bs })
  reshown bs e = record {
    bearers = e;
    clock = refl;
    hold = refl;
    grant = refl;
    queue = refl;
    out = refl;
    counts = refl;
    joined = [];
    listed = sym (append-nil x.listed);
  }

  unmoved_same : Unmoved x x
  unmoved_same = reshown x.bearers refl

  pub unmoved_opened : Unmoved x (open_gate x)
  unfolding open_gate
  unmoved_opened = on_each_keeps (Unmoved x) open_bearer 0 (length x.bearers) (λ b y _ u. unmoved_open b y u) x unmoved_same

  unmoved_shut : Unmoved x (shut_gate x)
  unfolding shut_gate
  unmoved_shut = reshown (map after_disarm x.bearers) (map-map after_disarm after_disarm x.bearers)

pub gate_unmoved : (s : Settings) (x y : Core) → Unmoved y (set_gate s x y)
unfolding set_gate
gate_unmoved s x y =
    cond_both (is_open s x) _ _ (Unmoved y)
    (λ _. cond_both (is_open s y) _ _ (Unmoved y) (λ _. unmoved_same y) (λ _. unmoved_shut y))
    (λ _. cond_both (is_open s y) _ _ (Unmoved y) (λ _. unmoved_opened y) (λ _. unmoved_same y))

-- where it is to stay as it is, there is nothing to set
pub gate_same : (s : Settings) (x y : Core) → is_open s y ≡ is_open s x → y ≡ set_gate s x y
unfolding set_gate
gate_same s x y e =
    cond_both (is_open s x) _ _ (λ z. y ≡ z)
    (λ o. sym (cond-true (is_open s y) _ _ (e ∙ o)))
    (λ o. sym (cond-false (is_open s y) _ _ (e ∙ o)))
