-- What a file holds, as every format has to tell it.
use Rattle.std.specs.Prelude.{ℕ, zero, suc, List, [], ◌∷◌, Some, None, Ok, Err, Option, Result}
use Rattle.capture.specs.declared.packets.Record.{Record}
use Rattle.capture.specs.declared.refusals.Refusal.{Refusal}

-- The records that tell of packets, in the order of the file; and why it is read no further, unless they end where it does.
pub record Contents : Type 0 where
  pub records : List Record
  pub fault : Option Refusal

-- What a format says of a place in a file: the first record and the place behind it, the file's end, or a refusal.
abbrev pub Split : Type 0 → Type 0
Split P = Result (Option (Record × P)) Refusal

-- that record, and what is held from the place behind it on
abbrev pub contents_by : {P : Type 0} → (P → Contents) → Split P → Contents
contents_by from (Ok (Some x)) = record { records = x.0 ∷ (from x.1).records; fault = (from x.1).fault }
contents_by from (Ok None) = record { records = []; fault = None }
contents_by from (Err f) = record { records = []; fault = Some f }

-- what is held from a place on, in at most n records
unfoldable pub contents_within : {P : Type 0} → (P → Split P) → ℕ → P → Contents
contents_within split zero p = record { records = []; fault = None }
contents_within split (suc n) p = contents_by (contents_within split n) (split p)
