-- Two boards as one.
use Rattle.std.specs.Prelude.{◌≡◌, ℕ, List, ◌++◌, take, Option, None, Some, slice_set, IsSomeAnd}
use Rattle.board.specs.declared.pairs.Side.{Side}
use Rattle.board.specs.declared.pairs.Side.TheVariants.{First, Second}
use Rattle.board.specs.Bearers.{Bearer, absent, bearer_of}

-- the first's bearers and then the second's, eight at most
abbrev pub both : List Bearer → List Bearer → List Bearer
both us vs = take 8 (us ++ vs)

-- where the pair's bearer b stands: that one is what the pair shows as b, and a change of b is a change of it alone
abbrev pub Stands : List Bearer → List Bearer → ℕ → Option Side → Type 0
Stands us vs b (Some (First k)) =
    (bearer_of (both us vs) b ≡ bearer_of us k) × ((x : Bearer) → both (slice_set us k x) vs ≡ slice_set (both us vs) b x)
Stands us vs b (Some (Second k)) =
    (bearer_of (both us vs) b ≡ bearer_of vs k) × ((x : Bearer) → both us (slice_set vs k x) ≡ slice_set (both us vs) b x)
Stands us vs b None =
    (bearer_of (both us vs) b ≡ absent) × ((x : Bearer) → both us vs ≡ slice_set (both us vs) b x)

-- what came of a call that is passed on: what the board where the bearer stands gives, by its number there, and nothing where it stands nowhere
abbrev pub PassedOn : {R : Type 0} → (ℕ → R → Type 0) → (ℕ → R → Type 0) → Option R → Option Side → Type 0
PassedOn first second r (Some (First k)) = IsSomeAnd r (first k)
PassedOn first second r (Some (Second k)) = IsSomeAnd r (second k)
PassedOn first second r None = r ≡ None
