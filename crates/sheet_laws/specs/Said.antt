-- What the statements about a sheet's numbers, table and links are said with. Definitions alone.
use Rattle.std.specs.Prelude.{ℕ, suc, ◌+◌, ◌≤◌, ◌<◌, ◌≡◌, true, List, [], ◌∷◌, ◌⊎◌, ◌↔◌}
use Rattle.rules.specs.Sets.{mem, word}
use Rattle.rules.specs.Sheet.{Sheet, most_links, link_count}
use Rattle.rules.specs.Rest.{Table}
use Rattle.sheet_laws.specs.Conditions.{Line, line, First, None, Cond6, Cond7, Cond8, first, second}

-- ---- the numbers

-- an answer's number says which line applies first
pub record Counted (number : ℕ) (ls : List Line) : Type 0 where
  pub zero_none : (number ≡ 0) ↔ None ls
  pub first_number : (n : ℕ) → (number ≡ suc n) ↔ ((p : ℕ) × First ls (suc n) p)

-- "pair by pair 6 to 8": at the first place where one of them applies, and there the first of them
abbrev pub lines_at : List ℕ → ℕ → List Line
lines_at s i = line 6 i (Cond6 s i) ∷ line 7 i (Cond7 s i) ∷ line 8 i (Cond8 s i) ∷ []

pub record FirstPair (s : List ℕ) (i m n p : ℕ) : Type 0 where
  pub from : i ≤ p
  pub until : p < i + m
  pub before : (j : ℕ) → i ≤ j → j < p → None (lines_at s j)
  pub there : First (lines_at s p) n p

-- ---- the table of an accepted sheet, in plain words

-- the table of a read sheet: a link table of w boxes, that names no box of N or above and has exactly P links
pub record Told (w : ℕ) (r : Sheet) : Type 0 where
  pub some_box : 1 ≤ r.boxes
  pub few_boxes : r.boxes ≤ w
  pub few_links : r.links ≤ most_links w
  pub table_good : Table w r.table
  pub empty_past : (i : ℕ) → r.boxes ≤ i → word r.table i ≡ 0
  pub names_below : (i j : ℕ) → mem j (word r.table i) ≡ true → j < r.boxes
  pub links_all : link_count w r.table ≡ r.links

-- pair k names the boxes i and j, in either order
abbrev pub Joins : List ℕ → ℕ → ℕ → ℕ → Type 0
Joins s k i j = ((first s k ≡ i) × (second s k ≡ j)) ⊎ ((first s k ≡ j) × (second s k ≡ i))
