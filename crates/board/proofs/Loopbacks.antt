-- A packet's way through a bearer that is armed before it and disarmed behind it.
use Rattle.std.proofs.Common.{◌≡◌, ℕ, Bool, List, set, ap, ◌∙◌, arith}
use Rattle.board.specs.declared.packets.Packet.{Packet}
use Rattle.board.specs.Bearers.{Bearer, bearer_of, changed, after_offer, after_take, after_arm, after_disarm}
use Rattle.board.proofs.Changes.{changed_twice}

-- so arming before an offer does not show once the bearer is disarmed
armed_offer : (p : Packet) (raises : Bool) (x : Bearer) → after_disarm (after_offer p (after_arm raises x)) ≡ after_disarm (after_offer p x)
armed_offer p raises x = grind arith

module _ (bs bs₁ bs₂ bs₃ bs₄ : List Bearer) (b : ℕ) (p : Packet) (raises : Bool) where
  pub loops_after : bs₁ ≡ changed bs b (after_arm raises) → bs₂ ≡ changed bs₁ b (after_offer p) → bs₃ ≡ changed bs₂ b after_take → bs₄ ≡ changed bs₃ b after_disarm →
      bs₄ ≡ changed bs b (λ x. after_disarm (after_take (after_offer p x)))
  loops_after e₁ e₂ e₃ e₄ =
      e₄
      ∙ ap (λ z. changed z b after_disarm)
      (e₃
      ∙ ap (λ z. changed z b after_take) (e₂ ∙ ap (λ z. changed z b (after_offer p)) e₁ ∙ changed_twice bs b (after_arm raises) (after_offer p))
      ∙ changed_twice bs b (λ x. after_offer p (after_arm raises x)) after_take)
      ∙ changed_twice bs b (λ x. after_take (after_offer p (after_arm raises x))) after_disarm
      ∙ ap (λ x. set bs b (after_take x)) (armed_offer p raises (bearer_of bs b))
