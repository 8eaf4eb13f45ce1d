-- What is said of a replay: a line of words and numbers.
use Rattle.std.specs.Prelude.{ℕ, cond, List, ◌++◌, Ok, Err, Result, codes, decimal, ◌==◌}
use Rattle.capture.specs.declared.refusals.Refusal.{Refusal}
use Rattle.capture.specs.Refusals.{number, place, reason}
use Rattle.replay.specs.declared.answers.FateCounts.{FateCounts}
use Rattle.replay.specs.declared.answers.Figures.{Figures}

-- so many of a thing, which takes an s if they are not one
abbrev pub several : ℕ → List ℕ → List ℕ
several n thing = decimal n ++ (codes " " ++ cond (n == 1) thing (thing ++ codes "s"))

abbrev pub fates : FateCounts → List ℕ
fates n =
    decimal n.delivered ++ (codes " delivered, " ++ (decimal n.bearer_full
    ++ (codes " bearer-full, " ++ (decimal n.queue_full ++ (codes " queue-full, " ++ (decimal n.waiting
    ++ (codes " waiting, " ++ (decimal n.pending ++ codes " pending"))))))))

abbrev pub figured : Figures → List ℕ
figured f =
    several f.packets (codes "packet") ++ (codes ", " ++ (several f.turns (codes "turn")
    ++ (codes ", " ++ (several f.periods (codes "period") ++ (codes "; " ++ fates f.fates)))))

abbrev pub refused : Refusal → List ℕ
refused f = codes "the capture is refused with " ++ (decimal (number f) ++ (codes ", place " ++ (decimal (place f) ++ (codes ": " ++ reason f))))

abbrev pub words : Result Figures Refusal → List ℕ
words (Ok f) = figured f
words (Err f) = refused f
