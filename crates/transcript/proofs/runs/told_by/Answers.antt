use Rattle.transcript.proofs.runs.told_by.Goals as goal

-- the fixed policy's figure is the one that was cut
pub returns-in-Fixed : goal.returns-in-Fixed
returns-in-Fixed g c = record { value = rw (c.in-Fixed.is, ← c.fixed.ensures.value) c.told.ensures.value }
