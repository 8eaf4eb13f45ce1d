-- A board in a pair: where each of its bearers stands among the pair's.
use Rattle.std.proofs.Common.{◌≡◌, ℕ, ◌+◌, ◌-◌, ◌<◌, ◌≤◌, min, List, length, sym, Some}
use Rattle.std.proofs.lemmas.List.{length-take, length-append, get_or-take, get_or_append_left, get_or-append_right, set-append_left, set-append_right}
use Rattle.std.proofs.Math.Seq.{take-set-lt}
use Rattle.board.specs.declared.pairs.Side.TheVariants.{First, Second}
use Rattle.board.specs.Bearers.{Bearer, absent}
use Rattle.board.specs.Pairs.{both, Stands}

module _ (us vs : List Bearer) where
  pub length_both : length (both us vs) ≡ min 8 (length us + length vs)
  length_both = simp (length-take, length-append)

  pub in_first : (b : ℕ) → b < length us → b < 8 → Stands us vs b (Some (First b))
  in_first b h l = (rw (get_or-take, get_or_append_left), λ x. rw (← set-append_left, take-set-lt))

  pub in_second : (b n : ℕ) → n ≡ length us → n ≤ b → b < 8 → Stands us vs b (Some (Second (b - n)))
  in_second b n e h l = (
    rw get_or-take (get_or-append_right us vs n b absent (sym e) h),
    λ x. rw (← set-append_right us vs n b x (sym e) h, take-set-lt),
  )
