-- One more row of a table of records.
use Rattle.std.proofs.Common.{◌≡◌, ℕ, ◌+◌, List, ◌∷◌, ◌++◌, drop, Some, sym, ap, ◌∙◌, append_assoc}
use Rattle.std.proofs.lemmas.List.{drop_more}
use Rattle.std.proofs.lemmas.Option.{slice_get_within, get_or_from_slice_get}
use Rattle.std.specs.List.{slice_get}
use Rattle.machine.specs.declared.answers.Period.{Period}
use Rattle.table.specs.Text.{row, table}
use Rattle.replay.specs.Tables.{period_row, period_rows}

-- what is written, and the rows that are left, give the whole
pub row_written : (ds : List Period) (i : ℕ) (d : Period) (done text whole : List ℕ) → slice_get ds i ≡ Some d →
    done ++ table (period_rows i (drop i ds)) ≡ whole → text ≡ done ++ row (period_row i d) → text ++ table (period_rows (i + 1) (drop (i + 1) ds)) ≡ whole
row_written ds i d done text whole here left now =
    let more : drop i ds ≡ d ∷ drop (i + 1) ds =
    drop_more ds i d (slice_get_within ds i d here) ∙ ap (λ e. e ∷ drop (i + 1) ds) (get_or_from_slice_get ds i d d here) in
    ap (λ t. t ++ table (period_rows (i + 1) (drop (i + 1) ds))) now
    ∙ append_assoc done (row (period_row i d)) (table (period_rows (i + 1) (drop (i + 1) ds)))
    ∙ sym (ap (λ es. done ++ table (period_rows i es)) more) ∙ left
