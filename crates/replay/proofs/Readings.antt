-- What a capture that is read keeps: at most 1,024 packets, each shown, of a length that fits, and less than a second after the first.
use Rattle.std.proofs.Common.{◌≡◌, ℕ, ◌≤◌, List, [], ◌∷◌, length, Ok, arith}
use Rattle.std.specs.List.{AllByRecursion}
use Rattle.capture.specs.declared.packets.Captured.{Captured}
use Rattle.capture.specs.Captures.{meaning}
use Rattle.capture.specs.Limits.{IsAdmissible}
use Rattle.capture.proofs.Admission.{meaning_kept}
use Rattle.replay.specs.Fit.{Readable}
use Rattle.replay.specs.Stages.{first_stamp}

all_readable : (shown first : ℕ) (ps : List Captured) → AllByRecursion (IsAdmissible shown first) ps → AllByRecursion (Readable shown first) ps
all_readable shown first [] a = tt
all_readable shown first (p ∷ ps) a =
    let h = a.0 in
    (record { bearer = h.bearer; least = h.least; most = h.most; soon = omega (arith, h.early) }, all_readable shown first ps a.1)

module _ (shown : ℕ) (bytes : List ℕ) (ps : List Captured) where
  pub readable : meaning shown bytes ≡ Ok ps → AllByRecursion (Readable shown (first_stamp ps)) ps
  readable h = all_readable shown (first_stamp ps) ps (meaning_kept shown bytes ps h).admissible

  pub few : meaning shown bytes ≡ Ok ps → length ps ≤ 1024
  few h = (meaning_kept shown bytes ps h).few
