-- When each number is given, in the words of document 01's table ("Numbers given when the hub refuses"), and the order of the numbers. Definitions alone:
-- a reader must believe these. Refusals has the theorems: the answer's number is that of the first line that applies, and it is accepted where none does.
use Rattle.std.specs.Prelude.{ℕ, zero, suc, ◌+◌, ◌-◌, ◌*◌, ◌^◌, ◌≤◌, ◌<◌, ◌≡◌, true, List, [], ◌∷◌, ◌++◌, ◌⊎◌, ◌≢◌, length}
use Rattle.rules.specs.Sets.{mem, word}
use Rattle.rules.specs.Sheet.{most_links, link_count}

-- ---- the lines of the table

-- a line: its number, the place where it is looked at, and when it applies there
pub record Line : Type 1 where
  pub number : ℕ
  pub place : ℕ
  pub applies : Type 0

abbrev pub line : ℕ → ℕ → Type 0 → Line
line n p c = record { number = n; place = p; applies = c }

-- the first line that applies has number n and place p
abbrev pub First : List Line → ℕ → ℕ → Type 0
First [] n p = ⊥
First (l ∷ ls) n p = (l.applies × (n ≡ l.number) × (p ≡ l.place)) ⊎ ((l.applies → ⊥) × First ls n p)

-- no line applies
abbrev pub None : List Line → Type 0
None [] = Unit {0}
None (l ∷ ls) = (l.applies → ⊥) × None ls

-- ---- the sheet: "The last four bytes are the trailer: B, P, N, version."

abbrev pub B : List ℕ → ℕ
B s = word s (length s - 4)

abbrev pub P : List ℕ → ℕ
P s = word s (length s - 3)

abbrev pub N : List ℕ → ℕ
N s = word s (length s - 2)

abbrev pub version : List ℕ → ℕ
version s = word s (length s - 1)

-- pair i, two bytes: "the first pair stands B bytes before the end"
abbrev pub first : List ℕ → ℕ → ℕ
first s i = word s (length s - B s + 2 * i)

abbrev pub second : List ℕ → ℕ → ℕ
second s i = word s (length s - B s + 2 * i + 1)

-- "by first box and then by second": the pair (c, d) is above (a, b)
abbrev pub Above : ℕ → ℕ → ℕ → ℕ → Type 0
Above a b c d = (a < c) ⊎ ((a ≡ c) × (b < d))

-- 1: "sheet shorter than 4 bytes"
abbrev pub Cond1 : List ℕ → Type 0
Cond1 s = length s < 4

-- 2: "version not 1"
abbrev pub Cond2 : List ℕ → Type 0
Cond2 s = version s ≢ 1

-- 3: "N is 0 or above 16"
abbrev pub Cond3 : ℕ → ℕ → Type 0
Cond3 w n = (n ≡ 0) ⊎ (w < n)

-- 4: "P above 120"
abbrev pub Cond4 : ℕ → List ℕ → Type 0
Cond4 w s = most_links w < P s

-- 5: "B not 4 + 2P, or B beyond the file's start"
abbrev pub Cond5 : List ℕ → Type 0
Cond5 s = (B s ≢ 4 + 2 * P s) ⊎ (length s < B s)

-- 6: "a pair names a box of N or above"
abbrev pub Cond6 : List ℕ → ℕ → Type 0
Cond6 s i = (N s ≤ first s i) ⊎ (N s ≤ second s i)

-- 7: "first of the pair not lower than second"
abbrev pub Cond7 : List ℕ → ℕ → Type 0
Cond7 s i = first s i < second s i → ⊥

-- 8: "pair not above the one before"; before the first there is none
abbrev pub Cond8 : List ℕ → ℕ → Type 0
Cond8 s zero = ⊥
Cond8 s (suc i) = Above (first s i) (second s i) (first s (suc i)) (second s (suc i)) → ⊥

-- "1 to 5, then pair by pair 6 to 8"
abbrev pub pair_lines : List ℕ → ℕ → ℕ → List Line
pair_lines s i zero = []
pair_lines s i (suc m) = line 6 i (Cond6 s i) ∷ line 7 i (Cond7 s i) ∷ line 8 i (Cond8 s i) ∷ pair_lines s (suc i) m

abbrev pub sheet_lines : ℕ → List ℕ → List Line
sheet_lines w s =
    line 1 0 (Cond1 s)
    ∷ line 2 0 (Cond2 s)
    ∷ line 3 0 (Cond3 w (N s))
    ∷ line 4 0 (Cond4 w s)
    ∷ line 5 0 (Cond5 s)
    ∷ pair_lines s 0 (P s)

-- ---- reading: "sheet first", then 12, "link table not 16 words"

abbrev pub Cond12 : ℕ → List ℕ → Type 0
Cond12 w table = length table ≢ w

abbrev pub read_lines : ℕ → List ℕ → List ℕ → List Line
read_lines w s table = sheet_lines w s ++ (line 12 0 (Cond12 w table) ∷ [])

-- ---- "Writing tests 3, 14, 15."

-- each word of the table is a set of boxes below w, as every word of 16 bits is of the boxes below 16: the theorems on writing are of such tables
abbrev pub Words : ℕ → List ℕ → Type 0
Words w t = (i : ℕ) → word t i < 2 ^ w

-- the table links box i to box j
abbrev pub Linked : List ℕ → ℕ → ℕ → Type 0
Linked t i j = mem j (word t i) ≡ true

-- 14: "table to write: not 16 words, not the same both ways, a box linked to itself, or a box of N or above"
abbrev pub NotSame : List ℕ → Type 0
NotSame t = (i : ℕ) × (j : ℕ) × Linked t i j × (Linked t j i → ⊥)

abbrev pub ToItself : List ℕ → Type 0
ToItself t = (i : ℕ) × Linked t i i

abbrev pub TooHigh : ℕ → List ℕ → Type 0
TooHigh n t = (i : ℕ) × (j : ℕ) × Linked t i j × ((n ≤ i) ⊎ (n ≤ j))

abbrev pub Cond14 : ℕ → ℕ → List ℕ → Type 0
Cond14 w n t = (length t ≢ w) ⊎ (NotSame t ⊎ (ToItself t ⊎ TooHigh n t))

-- 15: "buffer to write is below 4 + 2P bytes"
abbrev pub Cond15 : ℕ → List ℕ → ℕ → Type 0
Cond15 w t size = size < 4 + 2 * link_count w t

abbrev pub write_lines : ℕ → ℕ → List ℕ → ℕ → List Line
write_lines w n t size = line 3 0 (Cond3 w n) ∷ line 14 0 (Cond14 w n t) ∷ line 15 0 (Cond15 w t size) ∷ []
