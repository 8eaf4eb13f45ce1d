-- A file that keeps the rules reads back as the packets that were noted.
use Rattle.std.proofs.Common.{◌≡◌, ℕ, ◌+◌, ◌^◌, ◌<◌, ◌≤◌, List, [], ◌∷◌, ◌++◌, map, length, get_or, drop, Some, None, Ok, Err, IfErr, Result, Vec, All, sym, refl, ap, ◌∙◌, subst, arith}
use Rattle.std.specs.declared.alloc.Global.{Global}
use Rattle.std.specs.List.{flat_map, AllByRecursion}
use Rattle.std.proofs.lemmas.List.{append_assoc, length-append, length-drop, get_or-drop, drop-drop, drop_at}
use Rattle.std.proofs.lemmas.List.Elements.{All-head, All-tail, recursion_from_All}
use Rattle.std.proofs.Math.Seq.{drop-append_seam}
use Rattle.std.proofs.lemmas.Bool.Decides.{nat_tests}
use Rattle.capture.specs.declared.orders.ByteOrder.{ByteOrder}
use Rattle.capture.specs.declared.orders.ByteOrder.TheVariants.{Big, Little}
use Rattle.capture.specs.declared.packets.Captured.{Captured}
use Rattle.capture.specs.declared.packets.Record.{Record}
use Rattle.capture.specs.declared.refusals.ReadError.{ReadError}
use Rattle.capture.specs.declared.refusals.ReadError.TheVariants.{Memory, Refused}
use Rattle.capture.specs.Answers.{IsAnswerTo}
use Rattle.capture.specs.Captures.{Meaning, contents, reading_of, meaning, meaning_from, first_stamp}
use Rattle.capture.specs.Contents.{Contents, contents_by}
use Rattle.capture.specs.Limits.{IsAdmissible, start_limits, first_limits}
use Rattle.capture.specs.Numbers.{byte, word}
use Rattle.capture.specs.Savefile as savefile
use Rattle.capture.specs.Savefile.{Records, end, split_first, contents_from, header_order, records_in, contents_of}
use Rattle.capture.specs.Writing.{Note, File, IsWritable, KeepsRules, two, four, note_bytes, file_bytes, packet, packets}
use Rattle.capture.proofs.Admission.{packets_of, admits_all}
use Rattle.capture.proofs.OneOn.{contents_from_next}

-- What stands at j in bs, as `drop j bs`.
module _ (bs : List ℕ) (j : ℕ) where
  byte_at : (ys : List ℕ) (i k : ℕ) → drop j bs ≡ ys → i ≡ j + k → byte bs i ≡ get_or ys k 0
  byte_at ys i k e h = ap (λ i. byte bs i) h ∙ sym (get_or-drop j bs k 0) ∙ ap (λ ys. get_or ys k 0) e

  bytes_at : {a b c d : ℕ} {ys : List ℕ} → drop j bs ≡ a ∷ b ∷ c ∷ d ∷ ys → (byte bs j ≡ a) × (byte bs (j + 1) ≡ b) × (byte bs (j + 2) ≡ c) × (byte bs (j + 3) ≡ d)
  bytes_at e =
      (byte_at _ j 0 e (omega arith), byte_at _ (j + 1) 1 e refl, byte_at _ (j + 2) 2 e refl, byte_at _ (j + 3) 3 e refl)

  -- a number reads back
  word_at : (o : ByteOrder) (n : ℕ) (ys : List ℕ) → n < 2 ^ 32 → drop j bs ≡ four o n ++ ys → word o bs j ≡ n
  word_at Big n ys h e = omega (arith, bytes_at e)
  word_at Little n ys h e = omega (arith, bytes_at e)

  -- and what stands past it
  past : (xs ys : List ℕ) (i : ℕ) → drop j bs ≡ xs ++ ys → j + length xs ≡ i → drop i bs ≡ ys
  past xs ys i e h = rw (← h, ← drop-drop (length xs) j bs, e) (drop-append_seam xs ys)

  past_word : (o : ByteOrder) (n : ℕ) (ys : List ℕ) (i : ℕ) → drop j bs ≡ four o n ++ ys → j + 4 ≡ i → drop i bs ≡ ys
  past_word Big n ys i e h = past (four Big n) ys i e h
  past_word Little n ys i e h = past (four Little n) ys i e h

  fits : (xs ys : List ℕ) → drop j bs ≡ xs ++ ys → 0 < length xs → j + length xs ≤ length bs
  fits xs ys e h = omega (arith, length-drop j bs, length-append xs ys, ap length e)

-- notes as the records that they are read as, from an offset on
abbrev placed : ℕ → List Note → List Record
placed at [] = []
placed at (x ∷ xs) = record { at = at; packet = packet x } ∷ placed (at + 16 + (length x.others + 1)) xs

packets_placed : (at : ℕ) (xs : List Note) → packets_of (placed at xs) ≡ map packet xs
packets_placed at [] = refl
packets_placed at (x ∷ xs) = ap (λ ps. packet x ∷ ps) (packets_placed (at + 16 + (length x.others + 1)) xs)

length-placed : (at : ℕ) (xs : List Note) → length (placed at xs) ≡ length xs
length-placed at [] = refl
length-placed at (x ∷ xs) = omega (arith, length-placed (at + 16 + (length x.others + 1)) xs)

-- its numbers have 32 bits
record Fits (x : Note) : Type 0 where
  writable : IsWritable x
  original : x.original ≤ 385

-- xs is what is left to read
record Left (r : Records) (xs : List Note) : Type 0 where
  here : drop r.at r.bytes ≡ flat_map (note_bytes r.order) xs
  small : length r.bytes ≤ 65536
  fits : AllByRecursion Fits xs

-- the first record is x, and ys stands behind it
record Stands (r : Records) (x : Note) (ys : List ℕ) : Type 0 where
  seconds : savefile.seconds r ≡ x.seconds
  micros : savefile.micros r ≡ x.micros
  captured : savefile.captured_length r ≡ length x.others + 1
  original : savefile.original_length r ≡ x.original
  bearer : savefile.bearer r ≡ x.bearer
  within : end r ≤ length r.bytes
  next : drop (end r) r.bytes ≡ ys

left_none : (r : Records) → Left r [] → split_first r ≡ Ok None
left_none r l =
    let h : length r.bytes ≤ r.at = omega (arith, length-drop r.at r.bytes, ap length l.here) in
    grind (arith, nat_tests)

module _ (r : Records) (x : Note) (xs : List Note) (l : Left r (x ∷ xs)) where
  stands : Stands r x (flat_map (note_bytes r.order) xs)
  stands =
      let here = l.fits.0 in
      let bs = r.bytes in
      let o = r.order in
      let i = r.at in
      let octets = x.bearer ∷ x.others in
      let ys = flat_map (note_bytes o) xs in
      let e₀ = simp append_assoc at l.here in
      let e₄ = past_word bs i o x.seconds _ (i + 4) e₀ refl in
      let e₈ = past_word bs (i + 4) o x.micros _ (i + 8) e₄ (omega arith) in
      let e₁₂ = past_word bs (i + 8) o (length x.others + 1) _ (i + 12) e₈ (omega arith) in
      let e₁₆ = past_word bs (i + 12) o x.original _ (i + 16) e₁₂ (omega arith) in
      let f = fits bs (i + 16) octets ys e₁₆ (omega arith) in
      let c = word_at bs (i + 8) o (length x.others + 1) _ (omega arith) e₈ in
      record {
        seconds = word_at bs i o _ _ here.writable.seconds e₀;
        micros = word_at bs (i + 4) o _ _ here.writable.micros e₄;
        captured = c;
        original = word_at bs (i + 12) o _ _ (omega arith) e₁₂;
        bearer = byte_at bs (i + 16) _ (i + 16) 0 e₁₆ (omega arith);
        within = omega arith;
        next = past bs (i + 16) octets ys (end r) e₁₆ (omega arith);
      }

  abbrev behind : Records
  behind = record r { at = r.at + 16 + (length x.others + 1) }

  left_first : split_first r ≡ Ok (Some (record { at = r.at; packet = packet x }, behind))
  left_first =
      let s = stands in
      let p : savefile.packet r ≡ packet x = rw (s.seconds, s.micros, s.original, s.bearer) in
      grind (arith, nat_tests)

  left_behind : Left behind xs
  left_behind =
      let s = stands in
      let e : end r ≡ r.at + 16 + (length x.others + 1) = omega (arith, s.captured) in
      record { here = rw e at s.next; small = l.small; fits = l.fits.1 }

contents_left : (r : Records) (xs : List Note) → Left r xs → contents_from r ≡ record { records = placed r.at xs; fault = None }
contents_left r [] l = contents_from_next r ∙ ap (contents_by contents_from) (left_none r l)
contents_left r (x ∷ xs) l =
    contents_from_next r ∙ ap (contents_by contents_from) (left_first r x xs l)
    ∙ ap (λ (c : Contents). contents_by (λ (_ : Records). c) (Ok (Some (record { at = r.at; packet = packet x }, r))))
    (contents_left (behind r x xs l) xs (left_behind r x xs l))

-- The header, in either byte order.
header_read : (o : ByteOrder) (ys : List ℕ) → 16 ≤ length ys → header_order (four o 0xA1B2C3D4 ++ (two o 2 ++ (two o 4 ++ ys))) ≡ Some o
header_read Big ys h = grind (arith, nat_tests)
header_read Little ys h = grind (arith, nat_tests)

past_header : (o : ByteOrder) (us ys : List ℕ) → length us ≡ 16 → drop 24 (four o 0xA1B2C3D4 ++ (two o 2 ++ (two o 4 ++ (us ++ ys)))) ≡ ys
past_header Big us ys h = drop_at us ys 16 h
past_header Little us ys h = drop_at us ys 16 h

-- the lengths of what the rules let through have 32 bits
all_fit : (shown first : ℕ) (xs : List Note) → All IsWritable xs → AllByRecursion (IsAdmissible shown first) (map packet xs) → AllByRecursion Fits xs
all_fit shown first [] w a = tt
all_fit shown first (x ∷ xs) w a =
    let m = a.0.most in
    (record { writable = All-head IsWritable x xs w; original = omega arith }, all_fit shown first xs (All-tail IsWritable x xs w) a.1)

module _ (shown : ℕ) (f : File) (k : KeepsRules shown f) where
  admissible : AllByRecursion (IsAdmissible shown (first_stamp (packets f))) (packets f)
  admissible = recursion_from_All (IsAdmissible shown (first_stamp (packets f))) (packets f) k.admissible

  file_contents : contents (file_bytes f) ≡ Ok (record { records = placed 24 f.notes; fault = None })
  unfolding contents
  file_contents =
      let bs = file_bytes f in
      let ys = flat_map (note_bytes f.order) f.notes in
      let h = header_read f.order (f.unread ++ ys) (omega (arith, k.header, length-append f.unread ys)) in
      let left = contents_left (record { bytes = bs; order = f.order; at = 24 }) f.notes
      (record { here = past_header f.order f.unread ys k.header; small = k.small; fits = all_fit shown (first_stamp (packets f)) f.notes k.writable admissible }) in
      ap (λ o. contents_of (records_in bs o)) h ∙ ap {B = Result Contents _} Ok left

  pub reads_back : meaning shown (file_bytes f) ≡ Ok (packets f)
  reads_back =
      let l = start_limits shown in
      let small : first_limits shown (file_bytes f) ≡ Ok l = grind (arith, nat_tests, k.small) in
      let same = packets_placed 24 f.notes in
      ap (λ l. meaning_from (reading_of l (contents (file_bytes f)))) small
      ∙ ap (λ c. meaning_from (reading_of (Ok l) c)) file_contents
      ∙ admits_all l (placed 24 f.notes) (omega (arith, k.few, length-placed 24 f.notes))
      (subst (λ ps. AllByRecursion (IsAdmissible shown (first_stamp ps)) ps) (sym same) admissible)
      ∙ ap {B = Meaning} Ok same

-- an answer to a refused capture is its refusal
answer_refused : (m : Meaning) (r : Result (Vec Captured Global) ReadError) → IsAnswerTo m r → IfErr m (λ f. r ≡ Err (Refused f))
answer_refused (Ok ps) r t = tt
answer_refused (Err f) (Ok ps) t = cc t
answer_refused (Err f) (Err (Refused g)) t = cc t
answer_refused (Err f) (Err Memory) t = cc t

-- what `read` ensures of an answer to what the file means
pub answers : (shown : ℕ) (bs : List ℕ) (r : Result (Vec Captured Global) ReadError) → IsAnswerTo (meaning shown bs) r → record { value : IsAnswerTo (meaning shown bs) r; refused : IfErr (meaning shown bs) (λ f. r ≡ Err (Refused f)); faithful : (f : File) → KeepsRules shown f → bs ≡ file_bytes f → IsAnswerTo (Ok (packets f)) r }
answers shown bs r t =
    record {
      value = t;
      refused = answer_refused (meaning shown bs) r t;
      faithful = λ f k e. subst (λ (m : Meaning). IsAnswerTo m r) (ap (meaning shown) e ∙ reads_back shown f k) t;
    }
