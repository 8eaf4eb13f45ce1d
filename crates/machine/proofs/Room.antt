-- What code that holds a receiver in fixed memory takes from Kept: its poll list has room.
use Rattle.std.proofs.Common.{◌≡◌, ℕ, ◌<◌, ◌≤◌, true, ◌||◌, length, Some, sym, ap, ◌∙◌, ⊎_elim, arith}
use Rattle.std.proofs.lemmas.Bool.{cases_lt}
use Rattle.board.specs.declared.packets.Packet.{Packet}
use Rattle.board.specs.Bearers.{Bearer, bearer_of, changed, after_offer}
use Rattle.board.proofs.Changes.{bearer_changed}
use Rattle.machine.specs.Kept.{Kept, KeptState}
use Rattle.machine.specs.Settings.{Settings}
use Rattle.machine.specs.State.{Grant, Core, serves, put_up}
use Rattle.machine.specs.Numbers.{times}
use Rattle.machine.specs.Laws.{Always, BoundedMemory}
use Rattle.machine.proofs.Kept.{call_keeps}
use Rattle.machine.proofs.Listed.{fits_in, room_in}
use Rattle.machine.proofs.Runs.{throughout, if_configured}

module _ (m : ℕ) (s : Settings) (x : Core) (k : Kept m s x) where
  -- the poll list, at rest
  pub listed : length x.listed ≤ length x.bearers
  listed = fits_in (length x.bearers) x.listed (λ b. omega (arith, k.tidy.once b)) (λ b i. omega (arith, k.shown b i))

  -- a bearer that is not listed
  joins : (b : ℕ) → b < length x.bearers → times b x.listed ≡ 0 → length x.listed < length x.bearers
  joins b = room_in (length x.bearers) x.listed (λ c. omega (arith, k.tidy.once c)) (λ c i. omega (arith, k.shown c i)) b

  -- where one joins it: one that was armed, or whose signal rises, and one whose grant closes
  pub joins_armed : (b : ℕ) → b < length x.bearers → ((bearer_of x.bearers b).signal || (bearer_of x.bearers b).armed) ≡ true → length x.listed < length x.bearers
  joins_armed b l e = joins b l (grind (arith, k.tidy.once b, (k.tidy.calm b).quiet))

  pub joins_signalled : (b : ℕ) (q : Packet) → b < length x.bearers → (bearer_of (changed x.bearers b (after_offer q)) b).signal ≡ true → length x.listed < length x.bearers
  joins_signalled b q l e =
      let raised : (after_offer q (bearer_of x.bearers b)).signal ≡ true = ap (λ (v : Bearer). v.signal) (sym (bearer_changed x.bearers b (after_offer q) l)) ∙ e in
      joins_armed b l (grind arith)

  pub joins_served : (g : Grant) → x.grant ≡ Some g → length x.listed < length x.bearers
  joins_served g e =
      let served : serves x.grant g.bearer ≡ true = rw e (grind arith) in
      ⊎_elim (λ i. joins g.bearer i (grind (arith, k.tidy.once g.bearer))) (λ i. absurd (grind (arith, k.shown g.bearer i))) (cases_lt g.bearer (length x.bearers))

pub bounded_memory : Always BoundedMemory
bounded_memory p bounded bs cs before after e =
    if_configured (KeptState p.greatest)
    (λ s x k. record { listed = listed p.greatest s x k; queue = k.queue; out = k.out; counted = k.counted; numbered = k.numbered; closed = k.closed }) _
    (throughout p (λ _ t. KeptState p.greatest t) (λ _. call_keeps p bounded) (put_up bs) tt cs before after e)
