-- What a batch policy means: its quota for a bearer and the packets waiting there, and its greatest batch.
use Rattle.std.specs.Prelude.{ℕ, ◌≤◌}

pub record Batches : Type 0 where
  pub quota : ℕ → ℕ → ℕ
  pub greatest : ℕ

-- what every policy keeps: a quota is 1 to M, and M is at most 64
pub record IsBounded (p : Batches) : Type 0 where
  pub least : (b w : ℕ) → 1 ≤ p.quota b w
  pub most : (b w : ℕ) → p.quota b w ≤ p.greatest
  pub small : p.greatest ≤ 64
