-- The two tables of a replay.
use Rattle.std.specs.Prelude.{ℕ, ◌+◌, List, [], ◌∷◌}
use Rattle.capture.specs.declared.packets.Captured.{Captured}
use Rattle.machine.specs.declared.answers.Period.{Period}
use Rattle.table.specs.declared.fields.Field.{Field}
use Rattle.table.specs.declared.fields.Field.TheVariants.{Number, Word}
use Rattle.table.specs.declared.fields.Word.{Word as TableWord}
use Rattle.table.specs.declared.fields.Word.TheVariants as word
use Rattle.table.specs.Text.{table}
use Rattle.replay.specs.declared.fates.Fallen.{Fallen}
use Rattle.replay.specs.declared.fates.Fate.{Fate}
use Rattle.replay.specs.declared.fates.Fate.TheVariants.{Delivered, BearerFull, QueueFull, Waiting, Pending}

abbrev pub word_of : Fate → TableWord
word_of Delivered = word.Delivered
word_of BearerFull = word.BearerFull
word_of QueueFull = word.QueueFull
word_of Waiting = word.Waiting
word_of Pending = word.Pending

-- a row for each packet of the capture, counted from i, with what became of it
abbrev pub packet_row : ℕ → Captured → Fallen → List Field
packet_row i q f = Number i ∷ Number q.bearer ∷ Number q.length ∷ Word (word_of f.fate) ∷ Number f.period ∷ []

abbrev pub packet_rows : ℕ → List Captured → List Fallen → List (List Field)
packet_rows i (q ∷ qs) (f ∷ fs) = packet_row i q f ∷ packet_rows (i + 1) qs fs
packet_rows i _ _ = []

abbrev pub packet_heading : List Field
packet_heading = Word word.Packet ∷ Word word.Bearer ∷ Word word.Length ∷ Word word.Fate ∷ Word word.Period ∷ []

abbrev pub packets_table : List Captured → List Fallen → List ℕ
packets_table qs fs = table (packet_heading ∷ packet_rows 0 qs fs)

-- a row for each closed period, counted from i
abbrev pub period_row : ℕ → Period → List Field
period_row i d = Number i ∷ Number d.network ∷ Number d.offered ∷ []

abbrev pub period_rows : ℕ → List Period → List (List Field)
period_rows i [] = []
period_rows i (d ∷ ds) = period_row i d ∷ period_rows (i + 1) ds

abbrev pub period_heading : List Field
period_heading = Word word.Period ∷ Word word.Network ∷ Word word.Application ∷ []

abbrev pub periods_table : List Period → List ℕ
periods_table ds = table (period_heading ∷ period_rows 0 ds)
