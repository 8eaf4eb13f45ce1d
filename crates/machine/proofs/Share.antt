-- Every closed period offered the application its share, since bearers use less than the limit and the grant bound together; and what tell answers of it is true.
use Rattle.std.proofs.Common.{◌≡◌, ℕ, zero, suc, ◌+◌, ◌-◌, ◌*◌, ◌<◌, ◌≤◌, true, false, cond, ◌||◌, eqb, List, [], ◌∷◌, ◌++◌, length, get_or, Some, None, Ok, Option, Result, refl, ap, arith, sym, subst}
use Rattle.std.proofs.lemmas.Bool.{cond_both}
use Rattle.std.specs.List.{AllByRecursion}
use Rattle.std.proofs.lemmas.List.Sums.{sum_by_push}
use Rattle.std.proofs.Math.Nat.{mul-le-mul_right}
use Rattle.board.specs.Bearers.{Bearer, bearer_of, changed, after_take, after_arm, after_disarm}
use Rattle.board.specs.Costs.{class_costs, length_class, cost_of_length, highest_class_cost}
use Rattle.machine.specs.Funded.{price, due, Cheap, Funded, FundedCore}
use Rattle.machine.specs.Tidy.{TidyCore}
use Rattle.machine.specs.declared.answers.Answer.{Answer}
use Rattle.machine.specs.declared.calls.Call.{Call}
use Rattle.machine.specs.declared.refusals.Refusal.{Refusal}
use Rattle.machine.specs.State.{Grant, Core, State, configured, waits, is_open, unconfigured, put_up}
use Rattle.policy.specs.Batches.{Batches, IsBounded}
use Rattle.machine.specs.Settings.{Settings, settings_from, highest_cost, grant_bound}
use Rattle.machine.specs.Moves.{set_gate}
use Rattle.machine.specs.Calls.{next_packet}
use Rattle.machine.specs.Machine.{fresh}
use Rattle.machine.specs.Trace.{Entry, trace, end_of}
use Rattle.machine.specs.Laws.{Always, Share, cycles_of, offered_by, offered_in, closed_in, TrueRecords, TruePeriods}
use Rattle.machine.proofs.Basics.{on_changed, at_mapped}
use Rattle.machine.proofs.Loads.{TidyState}
use Rattle.machine.proofs.Tidy.{keeps_tidy}
use Rattle.machine.proofs.Moved.{behind, Move, stored, signalled, begun, emptied, taken, rescheduled, completed, worked, Happens, refused, asked_unconfigured, configures, moved, told}
use Rattle.machine.proofs.Runs.{entry_of, at_end, if_configured, Came, each_call}
use Rattle.machine.proofs.Unmoved.{Unmoved, gate_unmoved, unmoved_bearer, armed_same}
use Rattle.machine.proofs.Periods.{Booked, settled, runs_on, settles}
use Rattle.machine.specs.declared.answers.Report.{Report}
use Rattle.machine.specs.declared.answers.Answer.TheVariants.{Told}

-- no length costs more than the last class, and no bearer more than the highest cost
at_most : (m n : ℕ) (ns : List ℕ) → AllByRecursion (λ k. k ≤ m) ns → get_or ns n m ≤ m
at_most m n [] a = omega arith
at_most m zero (k ∷ ns) a = a.0
at_most m (suc n) (k ∷ ns) a = at_most m n ns a.1

length_cheap : (n : ℕ) → cost_of_length n ≤ highest_class_cost
length_cheap n = at_most highest_class_cost (length_class n) class_costs (omega arith)

cost_highest : (bs : List Bearer) (b : ℕ) → (bearer_of bs b).cost ≤ highest_cost bs
cost_highest [] b = omega arith
cost_highest (v ∷ bs) zero = omega arith
cost_highest (v ∷ bs) (suc b) = omega (arith, cost_highest bs b)

-- what one more call adds
offered_push : (j : ℕ) (es : List Entry) (e : Entry) →
    offered_in j (es ++ e ∷ []) ≡ offered_in j es + cond (eqb (closed_in e.before) j) (offered_by e.asked e.answered) 0
offered_push j es e = sum_by_push _ es e

booked : (es : List Entry) (s : Settings) (x : Core) (c : Call) (r : Result Answer Refusal) (u : State) →
    Booked (λ j. offered_in j es) x.clock (offered_by c r) (λ j. offered_in j (es ++ entry_of (configured s x) c r u ∷ []))
booked es s x c r u = record { each = λ j. offered_push j es (entry_of (configured s x) c r u) }

still_none : (es : List Entry) (e : Entry) → offered_by e.asked e.answered ≡ 0 → ((j : ℕ) → offered_in j es ≡ 0) → (j : ℕ) → offered_in j (es ++ e ∷ []) ≡ 0
still_none es e o none j = grind (arith, none j, offered_push j es e)

-- of a policy's greatest batch, and the bearers at the start
module _ (most : ℕ) (start : List Bearer) where
  cheap_changed : (bs : List Bearer) (b : ℕ) (f : Bearer → Bearer) → (f (bearer_of bs b)).cost ≡ (bearer_of bs b).cost → Cheap start bs → Cheap start (changed bs b f)
  cheap_changed bs b f e i c = on_changed (λ v. v.cost ≤ highest_cost start) bs b c f (omega (arith, i b)) (i c)

  -- x is left with the bearers bs and the grant g
  module _ {s : Settings} {f h : ℕ → ℕ} (x : Core) (i : FundedCore most start s f x) (n : Booked f x.clock 0 h)
      (bs : List Bearer) (g : Option Grant) (cheap : Cheap start bs) where
    -- no cycles go by
    kept : due start g ≤ due start x.grant → Funded most start s h bs x.clock g
    kept less = record {
      accounts = runs_on s _ i.accounts n refl (omega arith) refl (omega arith) (omega (arith, i.accounts.bound)) (omega (arith, i.accounts.fits));
      few = omega (arith, i.few);
      cheap = cheap;
      some = i.some;
    }

    -- bearers use c cycles
    charged : (c : ℕ) → due start g ≤ most * price start → x.clock.used + c + due start g + 1 ≤ s.limit + grant_bound most start →
        Funded most start s h bs (settled s (record x.clock { elapsed = x.clock.elapsed + c; used = x.clock.used + c })) g
    charged c few less = record {
      accounts = settles s _ _ (runs_on s _ i.accounts n refl (omega arith) refl (omega arith) less (omega (arith, i.accounts.fits)));
      few = few;
      cheap = cheap;
      some = i.some;
    }

  pub fresh_funded : (s : Settings) (f : ℕ → ℕ) (bs : List Bearer) → bs ≡ start → s.limit + grant_bound most bs ≤ s.period → ((j : ℕ) → f j ≡ 0) →
      FundedCore most start s f (fresh bs)
  fresh_funded s f bs e some none = record {
    accounts = record {
      spent = omega (arith, none 0);
      offered = sym (none 0);
      recorded = refl;
      fits = omega (arith, none 0);
      bound = omega arith;
      before = λ j l. absurd (omega arith);
      later = λ j _. none j;
    };
    few = omega arith;
    cheap = λ b. at_mapped (λ v. v.cost ≤ highest_cost start) _ bs b (omega arith) (omega (arith, cost_highest bs b, ap highest_cost e));
    some = subst (λ ks. s.limit + grant_bound most ks ≤ s.period) e some;
  }

  pub gate_funded : (s : Settings) (f : ℕ → ℕ) (x y : Core) → FundedCore most start s f y → FundedCore most start s f (set_gate s x y)
  gate_funded s f x y i =
      let u : Unmoved y (set_gate s x y) = gate_unmoved s x y in
      record {
        accounts = rw u.clock (rw u.grant i.accounts);
        few = rw u.grant i.few;
        some = i.some;
        cheap = λ b. omega (arith, i.cheap b, unmoved_bearer (λ v. v.cost) (λ _. refl) y (set_gate s x y) u b);
      }

module _ (p : Batches) (start : List Bearer) where
  module _ (bounded : IsBounded p) (s : Settings) (f h : ℕ → ℕ) (x : Core) (t : TidyCore (is_open s x) x) (i : FundedCore p.greatest start s f x) where
    -- a bearer that signals was armed, so the gate is open
    below_limit : (b : ℕ) → ((bearer_of x.bearers b).signal || (bearer_of x.bearers b).armed) ≡ true → x.clock.used < s.limit
    below_limit b e = grind (arith, (t.calm b).quiet, λ (shut : is_open s x ≡ false). t.shut shut b)

    quota_due : (b w : ℕ) → p.quota b w * price start ≤ p.greatest * price start
    quota_due b w = mul-le-mul_right (price start) (bounded.most b w)

    -- the price start of one packet is no longer due
    one_fewer : (g : Grant) (m : ℕ) → x.grant ≡ Some g → (g.left ≡ 0 → ⊥) → m ≤ g.left - 1 → m * price start + price start ≤ due start x.grant
    one_fewer g m e some less = omega (arith, ap (due start) e, mul-le-mul_right {m = m + 1} {n = g.left} (price start) (omega (arith, some, less)))

    pub move_funded : (c : Call) (a : Answer) (y : Core) → Move s p x c a y → Booked f x.clock (cycles_of c) h → FundedCore p.greatest start s h y
    move_funded _ _ _ (stored {b = b} {n = size} {t = tag} l r e _) n =
        kept p.greatest start x i n _ x.grant (cheap_changed p.greatest start x.bearers b (behind (next_packet size tag x)) refl i.cheap) (omega arith)
    move_funded _ _ _ (signalled {b = b} {n = size} {t = tag} l r e _) n =
        charged p.greatest start x i n _ x.grant (cheap_changed p.greatest start x.bearers b (λ v. after_disarm (behind (next_packet size tag x) v)) refl i.cheap) 60
        i.few (omega (arith, i.few, below_limit b e))
    move_funded _ _ _ (begun {b = b} g e u z _) n =
        charged p.greatest start x i n x.bearers _ i.cheap 80 (quota_due b _) (omega (arith, quota_due b (length (waits x.bearers b))))
    move_funded _ _ _ (emptied {g = g} e w some _) n = kept p.greatest start x i n _ _ (cheap_changed p.greatest start x.bearers g.bearer after_take refl i.cheap) (omega arith)
    move_funded _ _ _ (taken {g = g} {q = q} {m = m} e w some less r _) n =
        charged p.greatest start x i n _ _ (cheap_changed p.greatest start x.bearers g.bearer after_take refl i.cheap) ((bearer_of x.bearers g.bearer).cost + cost_of_length q.length)
        (omega (arith, i.few, one_fewer g m e some less))
        (omega (arith, i.accounts.bound, i.cheap g.bearer, length_cheap q.length, one_fewer g m e some less))
    move_funded _ _ _ (rescheduled e _) n = kept p.greatest start x i n x.bearers None i.cheap (omega arith)
    move_funded _ _ _ (completed {g = g} {o = o} e w r _) n =
        kept p.greatest start x i n _ None
        (cond_both o _ _ (Cheap start)
        (λ _. cheap_changed p.greatest start x.bearers g.bearer (after_arm false) (ap (λ (v : Bearer). v.cost) (armed_same false (bearer_of x.bearers g.bearer))) i.cheap)
        (λ _. i.cheap))
        (omega arith)
    move_funded _ _ _ (worked r _) n = record {
      accounts = settles s _ _ (runs_on s _ i.accounts n refl (omega arith) refl (omega arith) i.accounts.bound (omega (arith, i.accounts.spent)));
      few = i.few;
      cheap = i.cheap;
      some = i.some;
    }
    move_funded _ _ _ _ n = kept p.greatest start x i n x.bearers x.grant i.cheap (omega arith)

  -- until it is configured, a receiver has the bearers of the start, and nothing was offered
  abbrev Fair : List Entry → State → Type 0
  Fair es (unconfigured u) = (u.bearers ≡ start) × ((j : ℕ) → offered_in j es ≡ 0)
  Fair es (configured s x) = FundedCore p.greatest start s (λ j. offered_in j es) x

  keeps_fair : IsBounded p → (es : List Entry) (t u : State) (c : Call) (r : Result Answer Refusal) →
      TidyState t → Fair es t → Happens p t c r u → Fair (es ++ entry_of t c r u ∷ []) u
  keeps_fair bounded es _ _ _ _ t i (refused {t = unconfigured u}) = (i.0, still_none es _ refl i.1)
  keeps_fair bounded es _ _ _ _ t i asked_unconfigured = (i.0, still_none es _ refl i.1)
  keeps_fair bounded es _ _ _ _ t i (configures {u = u} {n = n} _ _ some) = fresh_funded p.greatest start (settings_from n) _ u.bearers i.0 some (still_none es _ refl i.1)
  keeps_fair bounded es _ _ c r t i (refused {t = configured s x}) =
      kept p.greatest start x i (booked es s x c r (configured s x)) x.bearers x.grant i.cheap (omega arith)
  keeps_fair bounded es _ _ _ _ t i (moved {s = s} {x = x} {y = y} {c = c} {a = a} m) =
      gate_funded p.greatest start s _ x y (move_funded bounded s _ _ x t i c a y m (booked es s x c (Ok a) (configured s (set_gate s x y))))

-- over every list of calls, with all tidy
module _ (p : Batches) (bounded : IsBounded p) (bs : List Bearer) (cs : List Call) where
  abbrev TidyFair : List Entry → State → Type 0
  TidyFair es t = TidyState t × Fair p bs es t

  keeps_both : (es : List Entry) (t u : State) (c : Call) (r : Result Answer Refusal) → TidyFair es t → Happens p t c r u → TidyFair (es ++ entry_of t c r u ∷ []) u
  keeps_both es t u c r i h = (keeps_tidy p t u c r i.0 h, keeps_fair p bs bounded es t u c r i.0 i.1 h)

  starts_fair : TidyFair [] (put_up bs)
  starts_fair = (tt, (refl, λ _. refl))

  fair_end : TidyFair (trace p (put_up bs) cs) (end_of (put_up bs) (trace p (put_up bs) cs))
  fair_end = at_end p TidyFair keeps_both (put_up bs) starts_fair cs

  fair_before : (before after : List Entry) (e : Entry) → trace p (put_up bs) cs ≡ before ++ e ∷ after → Came p TidyFair keeps_both (put_up bs) starts_fair cs before e
  fair_before = each_call p TidyFair keeps_both (put_up bs) starts_fair cs

pub share : Always Share
share p bounded bs cs = if_configured (Fair p bs (trace p (put_up bs) cs)) (λ s x i. record { some = i.some; each = i.accounts.before }) _ (fair_end p bounded bs cs).1

-- what tell answers of periods
told_periods : (p : Batches) (bs : List Bearer) (es : List Entry) {t u : State} {c : Call} {r : Report} → Fair p bs es t → Happens p t c (Ok (Told r)) u →
    TruePeriods es t r
told_periods p bs es i asked_unconfigured = (refl, refl)
told_periods p bs es i (moved told) = (refl, i.accounts.recorded)

pub true_records : Always TrueRecords
true_records p bounded bs cs before after e r h a =
    let k = fair_before p bounded bs cs before after e h in
    told_periods p bs before k.held.1 (subst (λ d. Happens p e.before e.asked d e.after) a k.comes)
