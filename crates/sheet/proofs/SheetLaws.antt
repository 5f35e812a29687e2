-- Reading a sheet, test by test: what `read_sheet` of the rules answers where the tests before hold, and what follows for `parse`.
-- Assumes nothing.
use Prim.Native.Nat.{ℕ, ◌+◌, ◌-◌, ◌*◌, ◌<◌, ◌≤◌}
use native.Mathlib.Omega.{arith}
use mathlib.Core.Path.{◌≡◌, refl, sym, ap, ◌∙◌}
use mathlib.Core.Bool.{Bool, not, ◌||◌, cond}
use mathlib.Core.List.{List}
use lib.Dec.{eqb, ltb}
use lib.ListN.{length, get_or, take, drop}
use Rattle.std.proofs.lemmas.List.{get_or-drop, take_rest, drop-take}
use borrow.Author.Tests.{lt-ltb, le-ltb}
use Rattle.rules.specs.Outcome.{Outcome, refused, accepted, refuse, and_then}
use Rattle.rules.specs.Sheet.{Sheet, pairs, pair_bytes, read_sheet}
use Rattle.calls.specs.Refused.{Numbered, pairs_numbered, sheet_numbered}
use Rattle.sheet.specs.Answers.{Pairs, Parsed, trailer_number, Trailed, no_links, no_sheet, pairs_answer, parsed_answer, ParsedFrom}
use Rattle.sheet.proofs.RefusalLaws.{passes, stays}
use Rattle.sheet.proofs.PairLaws.{was_accepted, was_refused}

-- a refused sheet
pub refusing : (s : List ℕ) (r : Parsed) (k p : ℕ) → r ≡ no_sheet k → 1 ≤ k → read_sheet 16 s ≡ refused k p → ParsedFrom s r
unfolding parsed_answer
refusing s r k p e l q = record {
  read = rw q e;
  boxes_some = λ z. let y : k ≡ 0 = sym (ap (λ (x : Parsed). x.number) e) ∙ z in absurd (omega arith);
  boxes_most_lem = rw e (omega arith);
  links_most = rw e (omega arith);
}

pub short : (s : List ℕ) → length s < 4 → read_sheet 16 s ≡ refused 1 0
unfolding read_sheet refuse
short s h = rw (lt-ltb (length s) 4 h)

-- B, P, N and version stand in the last four bytes
pub record Trailer (s : List ℕ) (b p n v : ℕ) : Type 0 where
  pub long : 4 ≤ length s
  pub back : b ≡ get_or s (length s - 4) 0
  pub links : p ≡ get_or s (length s - 3) 0
  pub boxes : n ≡ get_or s (length s - 2) 0
  pub version : v ≡ get_or s (length s - 1) 0

-- as the last four bytes, cut off
pub trailer_of : (s last : List ℕ) (b p n v : ℕ) → 4 ≤ length s → last ≡ drop (length s - 4) s → b ≡ get_or last 0 0 → p ≡ get_or last 1 0 → n ≡ get_or last 2 0
    → v ≡ get_or last 3 0 → Trailer s b p n v
trailer_of s last b p n v h e eb ep en ev =
    let i : length s - 4 + 0 ≡ length s - 4 = omega arith in
    let j : length s - 4 + 1 ≡ length s - 3 = omega arith in
    let k : length s - 4 + 2 ≡ length s - 2 = omega arith in
    let l : length s - 4 + 3 ≡ length s - 1 = omega arith in
    record {
      long = h;
      back = rw (eb, e, get_or-drop (length s - 4) s 0 0, i) refl;
      links = rw (ep, e, get_or-drop (length s - 4) s 1 0, j) refl;
      boxes = rw (en, e, get_or-drop (length s - 4) s 2 0, k) refl;
      version = rw (ev, e, get_or-drop (length s - 4) s 3 0, l) refl;
    }

-- ---- the tests 2 to 5 in a row

abbrev number : Bool → Bool → Bool → Bool → ℕ
number w x y z = cond w 2 (cond x 3 (cond y 4 (cond z 5 0)))

module _ {A : Type 0} (o : Outcome A) (w x y z : Bool) where
  none : number w x y z ≡ 0 → refuse w 2 0 (refuse x 3 0 (refuse y 4 0 (refuse z 5 0 o))) ≡ o
  none =
      passes 0 w 2 (cond x 3 (cond y 4 (cond z 5 0))) o _ (omega arith)
      (passes 0 x 3 (cond y 4 (cond z 5 0)) o _ (omega arith) (passes 0 y 4 (cond z 5 0) o _ (omega arith) (passes 0 z 5 0 o o (omega arith) (λ e. refl))))

  some : (number w x y z ≡ 0 → ⊥) → refuse w 2 0 (refuse x 3 0 (refuse y 4 0 (refuse z 5 0 o))) ≡ refused (number w x y z) 0
  some =
      stays 0 w 2 (cond x 3 (cond y 4 (cond z 5 0))) _ (stays 0 x 3 (cond y 4 (cond z 5 0)) _ (stays 0 y 4 (cond z 5 0) _ (stays 0 z 5 0 o (λ f. absurd (f refl)))))

abbrev tests : ℕ → ℕ → ℕ → ℕ → ℕ → Outcome Sheet → Outcome Sheet
tests e b p n v o =
    refuse (not (eqb v 1)) 2 0
    (refuse (eqb n 0 || ltb 16 n) 3 0 (refuse (ltb 120 p) 4 0 (refuse (not (eqb b (4 + 2 * p)) || ltb e b) 5 0 o)))

module _ (e b p n v : ℕ) (o : Outcome Sheet) where
  tests_none : trailer_number e b p n v ≡ 0 → tests e b p n v o ≡ o
  unfolding trailer_number
  tests_none = none o (not (eqb v 1)) (eqb n 0 || ltb 16 n) (ltb 120 p) (not (eqb b (4 + 2 * p)) || ltb e b)

  tests_some : (trailer_number e b p n v ≡ 0 → ⊥) → tests e b p n v o ≡ refused (trailer_number e b p n v) 0
  unfolding trailer_number
  tests_some = some o (not (eqb v 1)) (eqb n 0 || ltb 16 n) (ltb 120 p) (not (eqb b (4 + 2 * p)) || ltb e b)

-- ---- a sheet with a trailer, and the number k that the trailer is refused with

abbrev sheet_of : ℕ → ℕ → Outcome (List ℕ) → Outcome Sheet
sheet_of n p o = and_then o (λ t. accepted (record { boxes = n; links = p; table = t }))

module _ {s : List ℕ} {b p n v k : ℕ} (t : Trailer s b p n v) (ek : k ≡ trailer_number (length s) b p n v) where
  by_tests : read_sheet 16 s ≡ tests (length s) b p n v (sheet_of n p (pairs n 0 0 0 (pair_bytes b s) no_links))
  unfolding read_sheet refuse
  by_tests = rw (le-ltb (length s) 4 t.long, ← t.back, ← t.links, ← t.boxes, ← t.version)

  pub refuses_trailer : (r : Parsed) → r ≡ no_sheet k → (k ≡ 0 → ⊥) → ParsedFrom s r
  refuses_trailer r e f = refusing s r k 0 e (omega (arith, f)) (by_tests ∙ rw ek (tests_some (length s) b p n v _ (λ z. f (ek ∙ z))))

  -- the part that the code cuts out of what stands before the trailer is the rules', and q is what the pair reader answers on it
  module _ (z : k ≡ 0) (h : Trailed (length s) b p n) (before part : List ℕ) (eb : before ≡ take (length s - 4) s)
      (ep : part ≡ take (length before - (length s - b)) (drop (length s - b) before)) (q : Pairs) (eq : q ≡ pairs_answer (pairs n 0 0 0 part no_links)) where
    part_is : part ≡ pair_bytes b s
    unfolding pair_bytes
    part_is =
        let c : length s - 4 ≡ (length s - b) + (b - 4) = omega (arith, h.back, h.within) in
        ep ∙ take_rest before (length s - b) ∙ rw (eb, c) (drop-take (length s - b) (b - 4) s)

    by_pairs : read_sheet 16 s ≡ sheet_of n p (pairs n 0 0 0 part no_links)
    by_pairs = rw (by_tests, tests_none (length s) b p n v _ (sym ek ∙ z), part_is)

    pub refuses_pair : (r : Parsed) → r ≡ no_sheet q.number → (q.number ≡ 0 → ⊥) → ParsedFrom s r
    unfolding and_then
    refuses_pair r e f =
        let (i, w) = was_refused q _ eq f in
        refusing s r q.number i e (omega (arith, f)) (by_pairs ∙ ap (sheet_of n p) w)

    pub accepts : q.number ≡ 0 → ParsedFrom s (record { number = 0; boxes = n; links = p; table = q.table })
    unfolding and_then parsed_answer
    accepts y =
        let w : pairs n 0 0 0 part no_links ≡ accepted q.table = was_accepted q _ (pairs_numbered n 0 0 0 part no_links) eq y in
        record {
          read = rw (by_pairs, w);
          boxes_some = λ x. h.boxes_some;
          boxes_most_lem = h.boxes_most_lem;
          links_most = h.links_most;
        }

-- ---- what a caller of `parse` has: the rules' outcome

back_accepted : (r : Parsed) (o : Outcome Sheet) → Numbered o → r ≡ parsed_answer o → r.number ≡ 0
    → o ≡ accepted (record { boxes = r.boxes; links = r.links; table = r.table })
unfolding parsed_answer
back_accepted r (refused k p) m e z = let y : k ≡ 0 = sym (ap (λ (x : Parsed). x.number) e) ∙ z in absurd (omega (arith, m.0))
back_accepted r (accepted q) m e z = rw e

back_refused : (r : Parsed) (o : Outcome Sheet) → r ≡ parsed_answer o → (r.number ≡ 0 → ⊥) → (p : ℕ) × (o ≡ refused r.number p)
unfolding parsed_answer
back_refused r (refused k p) e f = (p, rw e)
back_refused r (accepted q) e f = absurd (f (ap (λ (x : Parsed). x.number) e))

module _ {s : List ℕ} {r : Parsed} (h : ParsedFrom s r) where
  pub sheet_accepted : r.number ≡ 0 → read_sheet 16 s ≡ accepted (record { boxes = r.boxes; links = r.links; table = r.table })
  sheet_accepted z = back_accepted r (read_sheet 16 s) (sheet_numbered 16 s) h.read z

  pub sheet_refused : (r.number ≡ 0 → ⊥) → (p : ℕ) × (read_sheet 16 s ≡ refused r.number p)
  sheet_refused f = back_refused r (read_sheet 16 s) h.read f
