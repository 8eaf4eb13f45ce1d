-- A text in memory: what a write leaves, and one write behind another.
use Rattle.std.proofs.Common.{◌≡◌, ℕ, ◌+◌, ◌<◌, ◌≤◌, List, [], ◌∷◌, ◌++◌, length, set, sym, refl, add_assoc, arith}
use lib.Seq.{paste}
use Rattle.std.proofs.lemmas.List.{append_assoc, drop-set, length-append, take-set-le}
use Rattle.std.proofs.lemmas.List.Edits.{paste_all, paste-paste}
use Rattle.table.specs.Memory.{written}

-- the library's word for it
pub written_paste : (m : List ℕ) (at : ℕ) (bs : List ℕ) → written m at bs ≡ paste m at bs (length bs)
unfolding written
written_paste m at bs = sym (paste_all m at bs (length bs) refl)

-- a text and another one behind it are the two written as one
pub written_written : (m : List ℕ) (at : ℕ) (xs ys : List ℕ) → at ≤ length m → written (written m at xs) (at + length xs) ys ≡ written m at (xs ++ ys)
written_written m at xs ys h =
    simp (written_paste, length-append) (paste-paste m at xs ys (length xs) (length ys) refl refl h)

-- a text, written from its end: the last byte first
pub written_push : (m : List ℕ) (at : ℕ) (xs : List ℕ) (x : ℕ) → at + length xs < length m → written m at (xs ++ x ∷ []) ≡ written (set m (at + length xs) x) at xs
unfolding written
written_push m at xs x h =
    let within : at ≤ at + length xs = omega arith in
    simp (append_assoc, length-append, take-set-le at m (at + length xs) x within, drop-set m (at + length xs) x h, add_assoc)
