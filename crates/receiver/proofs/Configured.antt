-- What configure comes to.
use Rattle.std.proofs.Common.{◌≡◌, ℕ, true, false, cond, List, [], ◌∷◌, ◌++◌, map, Some, None, Ok, Err, Option, refl, ap, sym, ◌∙◌}
use Rattle.std.specs.Option.{is_some}
use Rattle.std.proofs.lemmas.Bool.{cond_both}
use Rattle.board.specs.Bearers.{Bearer, any_in, after_arm, after_disarm}
use Rattle.machine.specs.declared.answers.Answer.TheVariants.{Configured}
use Rattle.machine.specs.declared.calls.Call.TheVariants.{Configure}
use Rattle.machine.specs.declared.calls.RawSettings.{RawSettings}
use Rattle.machine.specs.declared.refusals.Refusal.{Refusal}
use Rattle.machine.specs.declared.refusals.Refusal.TheVariants.{AlreadyConfigured}
use Rattle.machine.specs.Checks.{Check, first_refusal}
use Rattle.machine.specs.Settings.{Settings, settings_from, settings_checks}
use Rattle.machine.specs.State.{Core, configured, waits, put_up}
use Rattle.policy.specs.Batches.{Batches}
use Rattle.machine.specs.Machine.{unless, fresh, share_check, waiting_checks, configure_checks, call}
use Rattle.machine.proofs.Moved.{all_passed}
use Rattle.machine.proofs.Tidy.{none_waits}
use Rattle.receiver.specs.declared.settings.Settings.{Settings as HeldSettings}
use Rattle.receiver.specs.Fields.{state_of}
use Rattle.receiver.specs.Empty.{empty_over}
use Rattle.receiver.proofs.Called.{Comes}

-- checks that all passed, or of which one failed, with more behind them
passed_on : (cs ds : List Check) → None ≡ first_refusal cs → first_refusal (cs ++ ds) ≡ first_refusal ds
passed_on [] ds e = refl
passed_on (c ∷ cs) ds e =
    cond_both c.0 _ _ (λ (o : Option Refusal). None ≡ o → first_refusal ((c ∷ cs) ++ ds) ≡ first_refusal ds) (λ t h. ap (λ b. cond b (first_refusal (cs ++ ds)) (Some c.1)) t ∙ passed_on cs ds h) (λ _ h. cc h) e

failed_before : (cs ds : List Check) (r : Refusal) → Some r ≡ first_refusal cs → first_refusal (cs ++ ds) ≡ Some r
failed_before [] ds r e = cc e
failed_before (c ∷ cs) ds r e =
    cond_both c.0 _ _ (λ (o : Option Refusal). Some r ≡ o → first_refusal ((c ∷ cs) ++ ds) ≡ Some r)
    (λ t h. ap (λ b. cond b (first_refusal (cs ++ ds)) (Some c.1)) t ∙ failed_before cs ds r h)
    (λ f h. ap (λ b. cond b (first_refusal (cs ++ ds)) (Some c.1)) f ∙ sym h) e

module _ (p : Batches) (n : RawSettings) (bs : List Bearer) where
  abbrev pub share_checks : List Check
  share_checks = share_check p.greatest (settings_from n) bs ∷ []

  by_checks : (o : Option Refusal) → first_refusal (configure_checks p n bs) ≡ o →
      call p (Configure n) (put_up bs) ≡ unless o (put_up bs) (Configured, configured (settings_from n) (fresh bs))
  unfolding call
  by_checks o e = ap (λ q. unless q (put_up bs) (Configured, configured (settings_from n) (fresh bs))) e

  pub out_of_range : (r : Refusal) → Some r ≡ first_refusal (settings_checks n) → Comes p (Configure n) (put_up bs) (Err r) (put_up bs)
  out_of_range r e = by_checks (Some r) (failed_before (settings_checks n) (waiting_checks 0 bs ++ share_checks) r e)

  module _ (ranges : None ≡ first_refusal (settings_checks n)) where
    pub packet_waits : (r : Refusal) → Some r ≡ first_refusal (waiting_checks 0 bs) → Comes p (Configure n) (put_up bs) (Err r) (put_up bs)
    packet_waits r e = by_checks (Some r) (passed_on (settings_checks n) (waiting_checks 0 bs ++ share_checks) ranges ∙ failed_before (waiting_checks 0 bs) share_checks r e)

    module _ (empty : None ≡ first_refusal (waiting_checks 0 bs)) where
      at_share : first_refusal (configure_checks p n bs) ≡ first_refusal share_checks
      at_share = passed_on (settings_checks n) (waiting_checks 0 bs ++ share_checks) ranges ∙ passed_on (waiting_checks 0 bs) share_checks empty

      pub no_share : (r : Refusal) → Some r ≡ first_refusal share_checks → Comes p (Configure n) (put_up bs) (Err r) (put_up bs)
      no_share r e = by_checks (Some r) (at_share ∙ sym e)

      pub configures : None ≡ first_refusal share_checks → Comes p (Configure n) (put_up bs) (Ok Configured) (configured (settings_from n) (fresh bs))
      configures e = by_checks None (at_share ∙ sym e)

pub nothing_waits : (bs : List Bearer) → None ≡ first_refusal (waiting_checks 0 bs) → (b : ℕ) → any_in (waits bs b) ≡ false
nothing_waits bs e b = ap any_in (none_waits 0 bs b (all_passed (waiting_checks 0 bs) (sym e)))

-- every bearer of an empty receiver armed
pub rearmed : (x y : Core) → x ≡ empty_over x.bearers → y ≡ record x { bearers = map (λ (v : Bearer). after_arm false (after_disarm v)) x.bearers } → y ≡ fresh x.bearers
rearmed x y e f = f ∙ ap (λ (z : Core). record z { bearers = map (λ (v : Bearer). after_arm false (after_disarm v)) x.bearers }) e

-- whether there are settings
pub unconfigured : (o : Option HeldSettings) → false ≡ is_some o → o ≡ None
unconfigured None e = refl
unconfigured (Some s) e = cc e

pub configured_already : (p : Batches) (n : RawSettings) (o : Option HeldSettings) (x : Core) → true ≡ is_some o → Comes p (Configure n) (state_of o x) (Err AlreadyConfigured) (state_of o x)
unfolding call
configured_already p n None x e = cc e
configured_already p n (Some s) x e = refl

pub same_share : {g m : ℕ} {s t : Settings} (bs : List Bearer) → m ≡ g → s ≡ t → first_refusal (share_check g s bs ∷ []) ≡ first_refusal (share_check m t bs ∷ [])
same_share {g = g} {m = m} {s = s} bs e f =
    ap (λ k. first_refusal (share_check k s bs ∷ [])) (sym e) ∙ ap (λ (k : Settings). first_refusal (share_check m k bs ∷ [])) f
