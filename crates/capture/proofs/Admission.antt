-- The checks of any capture: what they let through is what the rules ask for.
use Rattle.std.proofs.Common.{◌≡◌, ℕ, ◌≤◌, nat_lt, List, [], ◌∷◌, map, length, Some, None, Ok, Err, Option, Result, unwrap_or, refl, subst, arith}
use Rattle.std.proofs.lemmas.Bool.{cond_both}
use Rattle.std.proofs.lemmas.Bool.Decides.{nat_tests}
use Rattle.std.specs.List.{AllByRecursion}
use Rattle.capture.specs.declared.limits.Limits.{Limits}
use Rattle.capture.specs.declared.packets.Captured.{Captured}
use Rattle.capture.specs.declared.packets.Record.{Record}
use Rattle.capture.specs.declared.refusals.Refusal.{Refusal}
use Rattle.capture.specs.declared.refusals.Refusal.TheVariants.{TooLong}
use Rattle.capture.specs.Captures.{Meaning, first_stamp, contents, reading_of, and_then, meaning_of, meaning_from, meaning}
use Rattle.capture.specs.Contents.{Contents}
use Rattle.capture.specs.Limits.{IsAdmissible, start_limits, admission, limits_after}

-- what holds of a packet that is admitted
record Passed (l : Limits) (x : Record) (p : Captured) : Type 0 where
  is : p ≡ x.packet
  room : 1 ≤ l.room
  admissible : IsAdmissible l.shown (unwrap_or l.first p.microseconds) p

passed : (l : Limits) (x : Record) (p : Captured) → admission l x ≡ Ok p → Passed l x p
passed l x p e = record {
  is = grind arith;
  room = grind arith;
  admissible = record {
    bearer = grind (arith, nat_tests);
    early = grind (arith, nat_tests);
    least = grind (arith, nat_tests);
    most = grind (arith, nat_tests);
  };
}

-- and the other way round
admits : (l : Limits) (x : Record) → 1 ≤ l.room → IsAdmissible l.shown (unwrap_or l.first x.packet.microseconds) x.packet → admission l x ≡ Ok x.packet
admits l x r a = grind (arith, nat_tests)

abbrev pub packets_of : List Record → List Captured
packets_of xs = map (λ (x : Record). x.packet) xs

-- records that keep the rules are admitted, each of them
pub admits_all : (l : Limits) (xs : List Record) → length xs ≤ l.room →
    AllByRecursion (IsAdmissible l.shown (unwrap_or l.first (first_stamp (packets_of xs)))) (packets_of xs) →
    meaning_of l xs None ≡ Ok (packets_of xs)
admits_all l [] r a = refl
admits_all l (x ∷ xs) r a =
    let e = admits l x (omega arith) a.0 in
    rw e (rw (admits_all (limits_after (Ok x.packet) l) xs (omega arith) a.1))

-- what is kept of records that are admitted
pub record Kept (l : Limits) (ps : List Captured) : Type 0 where
  pub few : length ps ≤ l.room
  pub admissible : AllByRecursion (IsAdmissible l.shown (unwrap_or l.first (first_stamp ps))) ps

kept_ahead : (l : Limits) (x : Record) (p : Captured) (qs : List Captured) → Passed l x p → Kept (limits_after (Ok p) l) qs → Kept l (p ∷ qs)
kept_ahead l x p qs t k = record { few = omega (arith, t.room, k.few); admissible = (t.admissible, k.admissible) }

kept : (l : Limits) (xs : List Record) (e : Option Refusal) (ps : List Captured) → meaning_of l xs e ≡ Ok ps → Kept l ps
kept l [] None ps h =
    let e : [] ≡ ps = cc in
    subst (Kept l) e (record { few = omega arith; admissible = tt })
kept l [] (Some f) ps h = cc h
kept l (x ∷ xs) e ps h = by (λ p qs g. kept (limits_after (Ok p) l) xs e qs g) (admission l x) refl h
  where
    packet_kept : (p : Captured) → Passed l x p → (m : Meaning) → ((qs : List Captured) → m ≡ Ok qs → Kept (limits_after (Ok p) l) qs) → and_then (Ok p) m ≡ Ok ps → Kept l ps
    packet_kept p t (Ok qs) k h =
        let e : p ∷ qs ≡ ps = cc in
        subst (Kept l) e (kept_ahead l x p qs t (k qs refl))
    packet_kept p t (Err f) k h = cc h

    by : ((p : Captured) (qs : List Captured) → meaning_of (limits_after (Ok p) l) xs e ≡ Ok qs → Kept (limits_after (Ok p) l) qs) →
        (a : Result Captured Refusal) → admission l x ≡ a → and_then a (meaning_of (limits_after a l) xs e) ≡ Ok ps → Kept l ps
    by k (Ok p) t h = packet_kept p (passed l x p t) (meaning_of (limits_after (Ok p) l) xs e) (k p) h
    by k (Err f) t h = cc h

-- what is kept of a capture that is read, whatever its format
module _ (shown : ℕ) (bs : List ℕ) (ps : List Captured) where
  contents_kept : (c : Result Contents Refusal) → meaning_from (reading_of (Ok (start_limits shown)) c) ≡ Ok ps → Kept (start_limits shown) ps
  contents_kept (Ok c) h = kept (start_limits shown) c.records c.fault ps h
  contents_kept (Err f) h = cc h

  pub meaning_kept : meaning shown bs ≡ Ok ps → Kept (start_limits shown) ps
  meaning_kept =
      cond_both (nat_lt 65536 (length bs)) (Err TooLong) (Ok (start_limits shown)) (λ (l : Result Limits Refusal). meaning_from (reading_of l (contents bs)) ≡ Ok ps → Kept (start_limits shown) ps)
      (λ _ h. cc h) (λ _ h. contents_kept (contents bs) h)
