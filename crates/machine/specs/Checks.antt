-- Checks: what has to hold for a call to be accepted.
use Rattle.std.specs.Prelude.{ℕ, Bool, cond, ◌&&◌, List, [], ◌∷◌, Some, None, Option, nat_le}
use Rattle.machine.specs.declared.refusals.Refusal.{Refusal}

abbrev pub in_range : ℕ → ℕ → ℕ → Bool
in_range low high n = nat_le low n && nat_le n high

-- what has to hold, and the refusal where it does not
abbrev pub Check : Type 0
Check = Bool × Refusal

-- the refusal of the first check that fails, if any does
abbrev pub first_refusal : List Check → Option Refusal
first_refusal [] = None
first_refusal (c ∷ cs) = cond c.0 (first_refusal cs) (Some c.1)
