-- What is held from a place on, one record on.
use Rattle.std.proofs.Common.{◌≡◌, ℕ, zero, suc, ◌-◌, ◌<◌, ◌≤◌, length, Some, None, Ok, Err, refl, ap, ◌∙◌, arith}
use Rattle.std.proofs.lemmas.Bool.Decides.{nat_tests}
use Rattle.capture.specs.declared.packets.Record.{Record}
use Rattle.capture.specs.Contents.{Contents, Split, contents_by, contents_within}
use Rattle.capture.specs.Savefile.{Records, split_first, contents_from}

-- A format: with nothing left a place is the end, and behind a record less is left.
module _ {P : Type 0} (split : P → Split P) (left : P → ℕ) (ends : (p : P) → left p ≡ 0 → split p ≡ Ok None) (falls : (p : P) (x : Record × P) → split p ≡ Ok (Some x) → left x.1 < left p) where
  -- only from behind a record does the rest count
  by_alike : (s : Split P) (f g : P → Contents) → ((x : Record × P) → s ≡ Ok (Some x) → f x.1 ≡ g x.1) → contents_by f s ≡ contents_by g s
  by_alike (Ok (Some x)) f g h = ap (λ (c : Contents). contents_by (λ _. c) (Ok (Some x))) (h x refl)
  by_alike (Ok None) f g h = refl
  by_alike (Err e) f g h = refl

  -- more records than are left make no difference
  enough : (n m : ℕ) (p : P) → left p ≤ n → left p ≤ m → contents_within split n p ≡ contents_within split m p
  unfolding contents_within
  enough zero zero p h k = refl
  enough zero (suc m) p h k = rw (ends p (omega arith))
  enough (suc n) zero p h k = rw (ends p (omega arith))
  enough (suc n) (suc m) p h k =
      by_alike (split p) (contents_within split n) (contents_within split m)
      (λ x e. let f = falls p x e in enough n m x.1 (omega arith) (omega arith))

  contents_within-left : (p : P) → contents_within split (left p) p ≡ contents_by (λ q. contents_within split (left q) q) (split p)
  unfolding contents_within
  contents_within-left p =
      enough (left p) (suc (left p)) p (omega arith) (omega arith)
      ∙ by_alike (split p) (contents_within split (left p)) (λ q. contents_within split (left q) q)
      (λ x e. let f = falls p x e in enough (left p) (left x.1) x.1 (omega arith) (omega arith))

savefile_ends : (r : Records) → length r.bytes - r.at ≡ 0 → split_first r ≡ Ok None
savefile_ends r h = grind (arith, nat_tests)

savefile_falls : (r : Records) (x : Record × Records) → split_first r ≡ Ok (Some x) → length x.1.bytes - x.1.at < length r.bytes - r.at
savefile_falls r x e = grind (arith, nat_tests)

pub contents_from_next : (r : Records) → contents_from r ≡ contents_by contents_from (split_first r)
contents_from_next r = contents_within-left split_first (λ (r : Records). length r.bytes - r.at) savefile_ends savefile_falls r
