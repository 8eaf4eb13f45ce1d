-- Whether arming raises a signal makes no difference: the receiver arms where nothing waits, or disarms at once.
use Rattle.std.proofs.Common.{◌≡◌, ℕ, Bool, true, false, List, ap, sym, ◌∙◌}
use Rattle.std.proofs.lemmas.Bool.{cond-true, cond-false}
use Rattle.board.specs.Bearers.{Bearer, bearer_of, changed, any_in, after_arm, after_disarm}
use Rattle.board.proofs.Changes.{changed_twice}
use Rattle.machine.proofs.Unmoved.{armed_same}
use Rattle.machine.specs.State.{Core, waits, busy}
use Rattle.machine.specs.Moves.{join, open_bearer}

armed_disarmed : (r : Bool) (v : Bearer) → after_disarm (after_arm r v) ≡ after_disarm (after_arm false v)
armed_disarmed r v = armed_same r v ∙ sym (armed_same false v)

disarmed_again : (r : Bool) (bs : List Bearer) (b : ℕ) → changed (changed bs b (after_arm r)) b after_disarm ≡ changed (changed bs b (after_arm false)) b after_disarm
disarmed_again r bs b =
    changed_twice bs b (after_arm r) after_disarm
    ∙ ap (λ (v : Bearer). changed bs b (λ _. v)) (armed_disarmed r (bearer_of bs b))
    ∙ sym (changed_twice bs b (after_arm false) after_disarm)

pub opened_listed : (x y : Core) (b : ℕ) (r : Bool) → busy x b ≡ false → any_in (waits x.bearers b) ≡ true →
    y ≡ join b (record x { bearers = changed (changed x.bearers b (after_arm r)) b after_disarm }) → y ≡ open_bearer b x
opened_listed x y b r free waiting e =
    e ∙ ap (λ (bs : List Bearer). join b (record x { bearers = bs })) (disarmed_again r x.bearers b)
    ∙ sym (cond-false (busy x b) _ _ free ∙ cond-true (any_in (waits x.bearers b)) _ _ waiting)
