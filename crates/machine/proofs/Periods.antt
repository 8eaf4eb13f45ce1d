-- The accounts of the periods: what each offered the application, and what bearers may still use in the open one.
use Rattle.std.proofs.Common.{◌≡◌, ℕ, ◌+◌, ◌<◌, ◌≤◌, cond, eqb, arith, ◌∙◌, refl, sym, Some, None, Option}
use Rattle.std.proofs.lemmas.Bool.{cond_both, leb-true}
use Rattle.machine.specs.Funded.{Accounts}
use Rattle.machine.specs.Settings.{Settings}
use Rattle.machine.specs.State.{Clock}
use Rattle.machine.specs.Moves.{is_over, next_period}
use Rattle.machine.specs.Laws.{LastRecorded}
use Rattle.machine.specs.declared.answers.Period.{Period}

-- the accounts h are the accounts f with o cycles more offered in the open period
pub record Booked (f : ℕ → ℕ) (k : Clock) (o : ℕ) (h : ℕ → ℕ) : Type 0 where
  pub each : (j : ℕ) → h j ≡ f j + cond (eqb k.closed j) o 0

-- what the open period is offered changes no record
same_record : (period : ℕ) (f h : ℕ → ℕ) (closed : ℕ) (last : Option Period) → ((j : ℕ) → j < closed → h j ≡ f j) →
    LastRecorded period f closed last → LastRecorded period h closed last
same_record period f h closed None same r = r
same_record period f h closed (Some d) same r = (r.0, r.1, r.2 ∙ sym (same r.0 (omega (arith, r.1))), r.3)

module _ (s : Settings) where
  -- the clock, with the period closed if it is over
  abbrev pub settled : Clock → Clock
  settled k = cond (is_over s k) (next_period s k) k

  module _ (most : ℕ) where
    -- time goes on in the period, with o cycles offered
    pub runs_on : {f h : ℕ → ℕ} {k l : Clock} {due left o : ℕ} → Accounts s most f k due → Booked f k o h → l.closed ≡ k.closed →
        l.offered ≡ k.offered + o → l.last ≡ k.last → l.elapsed + k.used ≡ k.elapsed + l.used + o → l.used + left + 1 ≤ most → f k.closed + o ≤ s.period → Accounts s most h l left
    runs_on {f = f} {h = h} {k = k} {l = l} a b c d r e u w = record {
      spent = grind (arith, a.spent, b.each l.closed);
      offered = grind (arith, a.offered, b.each l.closed);
      recorded = rw (c, r) (same_record s.period f h k.closed k.last (λ j i. grind (arith, b.each j)) a.recorded);
      fits = grind (arith, b.each l.closed);
      bound = u;
      before = λ j i. grind (arith, a.before j, b.each j);
      later = λ j i. grind (arith, a.later j, b.each j);
    }

    -- a period that closes offered what bearers did not use
    pub settles : {f : ℕ → ℕ} {due : ℕ} (k : Clock) → Accounts s most f k due → Accounts s most f (settled k) due
    settles {f = f} {due = due} k a = cond_both (is_over s k) _ _ (λ (l : Clock). Accounts s most f l due) (λ e. closes (leb-true s.period k.elapsed e)) (λ _. a)
      where
        closes : s.period ≤ k.elapsed → Accounts s most f (next_period s k) due
        closes i = record {
          spent = omega (arith, a.spent, a.fits, a.later (k.closed + 1));
          offered = sym (a.later (k.closed + 1) (omega arith));
          recorded = (k.closed, refl, a.offered, omega (arith, a.offered, a.fits));
          fits = omega (arith, a.later (k.closed + 1));
          bound = omega (arith, a.spent, a.fits, a.bound);
          before = λ j l. grind (arith, a.before j, a.spent, a.bound);
          later = λ j l. a.later j (omega arith);
        }
