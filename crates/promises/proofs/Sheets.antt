-- The round trip of a link sheet, over the calls: what is read of what was written, and what is written of what was read. Assumes nothing.
use Rattle.std.specs.Prelude.{ℕ, ◌+◌, ◌*◌, ◌-◌, ◌^◌, ◌≤◌, ◌<◌, ◌≡◌, refl, Bool, not, List, ◌++◌, eqb, length, take, drop}
use Rattle.std.proofs.Common.{sym, ap, ◌∙◌, arith, take_at}
use Rattle.rules.specs.Sets.{word}
use Rattle.rules.specs.Outcome.{Outcome, refused, accepted, refuse, and_then}
use Rattle.rules.specs.Sheet.{Sheet, read_sheet, write_sheet, link_count}
use Rattle.rules.specs.Calls.{Read, Written, reading, read_answer, write_answer, read_call, write_call}
use Rattle.sheet_laws.proofs.Pairs.{refuse_accepted}
use Rattle.sheet_laws.proofs.Accepted.{then_accepted}
use Rattle.sheet_laws.proofs.RoundTrip.{reads_back, writes_back, pairs_alone}
use Rattle.calls.specs.Refused.{Numbered, reading_numbered, write_numbered}

-- ---- an answer with the number 0 is of an outcome that was accepted

wrote : (buffer : List ℕ) (o : Outcome (List ℕ)) → Numbered o → (write_answer buffer o).number ≡ 0
    → (bytes : List ℕ) × (o ≡ accepted bytes) × (write_answer buffer o ≡ record { number = 0; size = length bytes; buffer = bytes ++ drop (length bytes) buffer })
unfolding write_answer
wrote buffer (refused n p) h z = absurd (omega (arith, h.0))
wrote buffer (accepted bytes) h z = (bytes, refl, refl)

got : (table : List ℕ) (o : Outcome Sheet) → Numbered o → (read_answer table o).number ≡ 0
    → (r : Sheet) × (o ≡ accepted r) × (read_answer table o ≡ record { number = 0; boxes = r.boxes; links = r.links; table = r.table })
unfolding read_answer
got table (refused n p) h z = absurd (omega (arith, h.0))
got table (accepted r) h z = (r, refl, refl)

-- what was read with a table to fill was read without one
then_was : (c : Bool) (o : Outcome Sheet) (r : Sheet) → and_then o (λ q. refuse c 12 0 (accepted q)) ≡ accepted r → o ≡ accepted r
then_was c o r e = let (q, g, h) = then_accepted o _ e in g ∙ (refuse_accepted c 12 0 _ h).1

-- "Reading a written sheet gives the table back"
pub write_read : (n : ℕ) (t buffer table : List ℕ) → ((i : ℕ) → word t i < 2 ^ 16) → length table ≡ 16
    → (write_call n t buffer).number ≡ 0
    → read_call (take (write_call n t buffer).size (write_call n t buffer).buffer) table ≡ record { number = 0; boxes = n; links = link_count 16 t; table = t }
unfolding write_call read_call reading read_answer and_then refuse
write_read n t buffer table small long z =
    let (bytes, e, w) = wrote buffer (write_sheet 16 n t (length buffer)) (write_numbered 16 n t (length buffer)) z in
    let same : take (write_answer buffer (write_sheet 16 n t (length buffer))).size (write_answer buffer (write_sheet 16 n t (length buffer))).buffer ≡ bytes
    = ap (λ (x : Written). take x.size x.buffer) w ∙ take_at bytes (drop (length bytes) buffer) (length bytes) refl in
    rw (same, reads_back 16 n t (length buffer) bytes small e, long)

-- "Writing a read one gives its last B bytes"
pub read_write : (s table buffer : List ℕ) (r : Read) → r ≡ read_call s table → r.number ≡ 0 → 4 + 2 * r.links ≤ length buffer
    → let bytes = drop (length s - (4 + 2 * r.links)) s in
    write_call r.boxes r.table buffer ≡ record { number = 0; size = length bytes; buffer = bytes ++ drop (length bytes) buffer }
unfolding read_call write_call write_answer reading
read_write s table buffer r e z room =
    let (q, o, was) = got table (reading 16 s table) (reading_numbered 16 s table) (ap (λ (x : Read). x.number) (sym e) ∙ z) in
    let is : r ≡ record { number = 0; boxes = q.boxes; links = q.links; table = q.table } = e ∙ was in
    let back : write_sheet 16 q.boxes q.table (length buffer) ≡ accepted (drop (length s - (4 + 2 * q.links)) s)
    = writes_back 16 s q (length buffer) (then_was (not (eqb (length table) 16)) (read_sheet 16 s) q o) (rw is at room) in
    rw (is, back)

-- "Bytes before them belong to other programs and have no effect": where B points into s, refusals included
pub read_front : (front s table : List ℕ) → 4 ≤ length s → word s (length s - 4) ≤ length s → read_call (front ++ s) table ≡ read_call s table
unfolding read_call reading
read_front front s table h k = rw (pairs_alone 16 front s h k)
