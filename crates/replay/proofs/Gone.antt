-- Whether packets are on their way is seen from the counts: as many are gone as were numbered.
use Rattle.std.proofs.Common.{◌≡◌, ℕ, ◌+◌, not, ◌&&◌, eqb, ltb, List, [], ◌∷◌, length, refl, sym, ap, ◌∙◌, arith}
use Rattle.std.specs.List.{list_any, sum_by}
use Rattle.std.proofs.lemmas.Bool.Decides.{eqb_tells, leb_tells}
use Rattle.std.proofs.lemmas.Grind.{common_steps}
use Rattle.std.proofs.lemmas.List.Sums.{sum_by-cons}
use Rattle.board.specs.Bearers.{Bearer, any_in}
use Rattle.machine.specs.Laws.{accounted}
use Rattle.machine.specs.State.{Core}
use Rattle.replay.specs.Stages.{holds_none}

-- some packet waits in a bearer if any do in all together
some_wait : (bs : List Bearer) → list_any (λ (v : Bearer). any_in v.waiting) bs ≡ ltb 0 (sum_by (λ (v : Bearer). length v.waiting) bs)
some_wait [] = refl
some_wait (v ∷ bs) = grind (arith, common_steps, some_wait bs, sum_by-cons, leb_tells)

-- so many wait, are queued and are out; and so many are gone
none_left : (w q o gone numbered : ℕ) → w + q + o + gone ≡ numbered → eqb gone numbered ≡ (not (ltb 0 w) && (not (ltb 0 q) && not (ltb 0 o)))
none_left w q o gone numbered e = grind (arith, common_steps, leb_tells, eqb_tells)

pub all_gone : (x : Core) → accounted x.bearers x.queue x.out x.counts ≡ x.counts.numbered →
    eqb (x.counts.delivered + x.counts.bearer_full + x.counts.queue_full + x.counts.discarded) x.counts.numbered ≡ holds_none x
all_gone x e =
    let w : ℕ = sum_by (λ (v : Bearer). length v.waiting) x.bearers in
    none_left w (length x.queue) (length x.out) _ x.counts.numbered (omega (arith, e))
    ∙ ap (λ b. not b && (not (any_in x.queue) && not (any_in x.out))) (sym (some_wait x.bearers))
