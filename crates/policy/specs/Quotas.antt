-- The quotas of the two policies, over plain numbers, and what the policies mean by them.
use Rattle.std.specs.Prelude.{ℕ, ◌+◌, ◌/◌, min, max}
use Rattle.policy.specs.Batches.{Batches}

-- a figure cut into 1 to 16
abbrev pub cut_figure : ℕ → ℕ
cut_figure n = max 1 (min n 16)

-- one more than half of the packets that wait, with the fraction dropped, and at most 8
abbrev pub backlog_quota : ℕ → ℕ
backlog_quota n = min 8 (1 + n / 2)

-- the fixed policy of a figure, and the backlog policy
abbrev pub fixed_batches : ℕ → Batches
fixed_batches figure = record { quota = λ b w. figure; greatest = 16 }

abbrev pub backlog_batches : Batches
backlog_batches = record { quota = λ b w. backlog_quota w; greatest = 8 }
