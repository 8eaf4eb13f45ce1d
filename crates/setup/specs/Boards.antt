-- The bearers of boards whose kinds are known only when a program runs.
use Rattle.std.specs.Prelude.{List, [], ◌∷◌, Some, None, Option}
use Rattle.board.specs.Bearers.{Bearer}
use Rattle.board.specs.Pairs.{both}
use Rattle.board.specs.Shown.{mailbox_bearer, ring_bearer}
use Rattle.setup.specs.declared.bearers.AnyBearer.{AnyBearer}
use Rattle.setup.specs.declared.bearers.AnyBearer.TheVariants.{Ring, Mailbox}
use Rattle.setup.specs.declared.nested.Before.{Before}
use Rattle.setup.specs.declared.nested.Before.TheVariants.{Alone, Others}

-- of one bearer, of any kind
abbrev pub any_bearer : AnyBearer → List Bearer
any_bearer (Ring x) = ring_bearer x ∷ []
any_bearer (Mailbox x) = mailbox_bearer x ∷ []

-- of a bearer alone, or before others
abbrev pub nested_bearers : {B : Type 0} → (B → List Bearer) → Before B → List Bearer
nested_bearers bearers (Alone x) = any_bearer x
nested_bearers bearers (Others p) = both (any_bearer p.0) (bearers p.1)

-- of a board, if there is one
abbrev pub optional_bearers : {B : Type 0} → (B → List Bearer) → Option B → List Bearer
optional_bearers bearers None = []
optional_bearers bearers (Some b) = bearers b
