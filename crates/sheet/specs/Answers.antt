-- The answers of this crate's functions as the outcomes of the rules. Definitions alone.
use Rattle.std.specs.Prelude.{ℕ, ◌+◌, ◌*◌, ◌≤◌, ◌≡◌, not, ◌||◌, cond, List, Result, Ok, Err, eqb, ltb, leb, replicate}
use Rattle.rules.specs.Outcome.{Outcome, refused, accepted}
use Rattle.rules.specs.Sheet.{Sheet, above, read_sheet}
use Rattle.refusals.specs.declared.Refusal.{Refusal}
use Rattle.refusals.specs.Numbers.{number}
use Rattle.sheet.specs.declared.Sheet.{Sheet as Found}

-- the number that the pair (c, d) is refused with after (a, b), 0 where it is not
unfoldable pub pair_number : ℕ → ℕ → ℕ → ℕ → ℕ → ℕ
pair_number n a b c d = cond (leb n c || leb n d) 6 (cond (leb d c) 7 (cond (not (above a b c d)) 8 0))

-- the number that a trailer is refused with, 0 where it is not; e is the sheet's length
unfoldable pub trailer_number : ℕ → ℕ → ℕ → ℕ → ℕ → ℕ
trailer_number e b p n v = cond (not (eqb v 1)) 2 (cond (eqb n 0 || ltb 16 n) 3 (cond (ltb 120 p) 4 (cond (not (eqb b (4 + 2 * p)) || ltb e b) 5 0)))

-- what is then known of it
pub record Trailed (e b p n : ℕ) : Type 0 where
  pub boxes_some : 1 ≤ n
  pub boxes_most_lem : n ≤ 16
  pub links_most : p ≤ 120
  pub back : b ≡ 4 + 2 * p
  pub within : b ≤ e

-- a table of 16 without a link
abbrev pub no_links : List ℕ
no_links = replicate 16 0

-- what the pairs give: a refusal's number with no links, or 0 and the table
pub record Pairs : Type 0 where
  pub number : ℕ
  pub table : List ℕ

unfoldable pub pairs_answer : Outcome (List ℕ) → Pairs
pairs_answer (refused n p) = record { number = n; table = no_links }
pairs_answer (accepted t) = record { number = 0; table = t }

-- the same of what the code's reader gives
abbrev pub pairs_of : Result (List ℕ) Refusal → Pairs
pairs_of (Ok t) = record { number = 0; table = t }
pairs_of (Err e) = record { number = number e; table = no_links }

-- what a sheet gives: 0, N, P and the link set of each box; or the number that it is refused with, and zeros
pub record Parsed : Type 0 where
  pub number : ℕ
  pub boxes : ℕ
  pub links : ℕ
  pub table : List ℕ

-- a refusal's number, and zeros
abbrev pub no_sheet : ℕ → Parsed
no_sheet n = record { number = n; boxes = 0; links = 0; table = no_links }

-- 0 and the sheet where it is accepted; the refusal's number and zeros where it is not
unfoldable pub parsed_answer : Outcome Sheet → Parsed
parsed_answer (refused n p) = no_sheet n
parsed_answer (accepted r) = record { number = 0; boxes = r.boxes; links = r.links; table = r.table }

-- the same of what `parse` gives
abbrev pub parsed_of : Result Found Refusal → Parsed
parsed_of (Ok r) = record { number = 0; boxes = r.boxes; links = r.links; table = r.table }
parsed_of (Err e) = no_sheet (number e)

-- What `parse` gives: the sheet as the rules read it. The bounds follow from that, and are what its callers compute with.
pub record ParsedFrom (sheet : List ℕ) (r : Parsed) : Type 0 where
  pub read : r ≡ parsed_answer (read_sheet 16 sheet)
  pub boxes_some : r.number ≡ 0 → 1 ≤ r.boxes
  pub boxes_most_lem : r.boxes ≤ 16
  pub links_most : r.links ≤ 120
