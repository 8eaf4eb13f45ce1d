-- What is still to be read means, one packet on.
use Rattle.std.proofs.Common.{◌≡◌, List, [], ◌∷◌, ◌++◌, Some, None, Ok, Err, IsOk, Option, Result, refl, sym, ap, ◌∙◌, append_assoc, append-nil}
use Rattle.capture.specs.declared.limits.Limits.{Limits}
use Rattle.capture.specs.declared.packets.Captured.{Captured}
use Rattle.capture.specs.declared.packets.Record.{Record}
use Rattle.capture.specs.declared.refusals.Refusal.{Refusal}
use Rattle.capture.specs.Captures.{Meaning, Reading, ahead, and_then, meaning_of, rest, some_packet, item_of, item, reading_after}
use Rattle.capture.specs.Limits.{admission, limits_after}

ahead_more : (ps : List Captured) (p : Captured) (m : Meaning) → ahead (ps ++ p ∷ []) m ≡ ahead ps (ahead (p ∷ []) m)
ahead_more ps p (Ok qs) = ap {B = Meaning} Ok (append_assoc ps (p ∷ []) qs)
ahead_more ps p (Err f) = refl

ahead_all : (ps : List Captured) → ahead ps (Ok []) ≡ Ok ps
ahead_all ps = ap {B = Meaning} Ok (append-nil ps)

pub ahead_read : (ps : List Captured) (m : Meaning) → IsOk m → IsOk (ahead ps m)
ahead_read ps (Ok qs) e = refl
ahead_read ps (Err f) e = cc e

-- what one call of a reader answers, and then what the rest means
abbrev then : Result (Option Captured) Refusal → Meaning → Meaning
then (Ok (Some p)) m = ahead (p ∷ []) m
then (Ok None) m = Ok []
then (Err f) m = Err f

rest_next : (r : Reading) → rest r ≡ then (item r) (rest (reading_after (item r) r))
rest_next r = by r.limits r.contents.records r.contents.fault
  where
    admitted : (l : Limits) (x : Record) (xs : List Record) (e : Option Refusal) (a : Result Captured Refusal) →
        and_then a (meaning_of (limits_after a l) xs e)
        ≡ then (some_packet a) (rest (reading_after (some_packet a) (record { contents = record { records = x ∷ xs; fault = e }; limits = l })))
    admitted l x xs e (Ok p) = refl
    admitted l x xs e (Err f) = refl

    by : (l : Limits) (xs : List Record) (e : Option Refusal) →
        meaning_of l xs e ≡ then (item_of l xs e) (rest (reading_after (item_of l xs e) (record { contents = record { records = xs; fault = e }; limits = l })))
    by l [] None = refl
    by l [] (Some f) = refl
    by l (x ∷ xs) e = admitted l x xs e (admission l x)

-- One turn of the loop: m is what the whole capture means, ps are the packets read so far, and o is what was asked of r.
module _ (m : Meaning) (ps : List Captured) (r : Reading) (h : m ≡ ahead ps (rest r)) where
  turned : (o : Result (Option Captured) Refusal) → o ≡ item r → m ≡ ahead ps (then o (rest (reading_after o r)))
  turned o e = h ∙ ap (ahead ps) (rest_next r ∙ ap (λ o. then o (rest (reading_after o r))) (sym e))

  pub rest_refused : (f : Refusal) → Err f ≡ item r → m ≡ Err f
  rest_refused f e = turned (Err f) e

  pub rest_end : (o : Option Captured) → o ≡ None → Ok o ≡ item r → m ≡ Ok ps
  rest_end o n e = turned (Ok None) (rw n at e) ∙ ahead_all ps

  pub rest_packet : (s : Reading) (o : Option Captured) (p : Captured) → o ≡ Some p → Ok o ≡ item r → s ≡ reading_after (Ok o) r → m ≡ ahead (ps ++ p ∷ []) (rest s)
  rest_packet s o p n e g =
      let b : s ≡ reading_after (Ok (Some p)) r = rw n at g in
      rw b (turned (Ok (Some p)) (rw n at e) ∙ sym (ahead_more ps p (rest (reading_after (Ok (Some p)) r))))
