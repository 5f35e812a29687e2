-- When a run or a drain gives each number, in the words of document 01's table ("Numbers given when the hub refuses"), and the order of the numbers: the
-- sheet's lines, which are those of the crate sheet_laws, then these. Definitions alone: a reader must believe these. Demands has the theorem.
use Rattle.std.specs.Prelude.{ℕ, zero, suc, ◌+◌, ◌*◌, ◌/◌, ◌%◌, ◌≤◌, ◌<◌, ◌≡◌, true, List, [], ◌∷◌, ◌++◌, ◌⊎◌, ◌≢◌, length}
use Rattle.rules.specs.Sets.{mem, word}
use Rattle.sheet_laws.specs.Conditions.{Line, line, N, Linked, sheet_lines}
use Rattle.promises.specs.Said.{Call, listed, drained, table_of, hub_of}

-- "A list of deliveries is pairs of bytes (a, b)."
abbrev pub first_of : List ℕ → ℕ → ℕ
first_of list i = word list (2 * i)

abbrev pub second_of : List ℕ → ℕ → ℕ
second_of list i = word list (2 * i + 1)

-- 9: "list of odd length or over 60,000 bytes"
abbrev pub Cond9 : List ℕ → Type 0
Cond9 list = (length list % 2 ≡ 1) ⊎ (60000 < length list)

-- 10: "list or start set names a box of N or above"
abbrev pub Cond10 : List ℕ → List ℕ → ℕ → Type 0
Cond10 sheet list i = (N sheet ≤ first_of list i) ⊎ (N sheet ≤ second_of list i)

abbrev pub Cond10Set : List ℕ → ℕ → Type 0
Cond10Set sheet starts = (k : ℕ) × (N sheet ≤ k) × (mem k starts ≡ true)

-- 11: "list names two different boxes without a link"
abbrev pub Cond11 : List ℕ → List ℕ → ℕ → Type 0
Cond11 sheet list i = (first_of list i ≢ second_of list i) × (Linked (table_of sheet) (first_of list i) (second_of list i) → ⊥)

-- 12: "board below 66N words"
abbrev pub Cond12 : List ℕ → List ℕ → Type 0
Cond12 sheet board = length board < 66 * N sheet

-- 13: "a message would be the 21st waiting on one wire and its receiving queue together"
abbrev pub Cond13 : List ℕ → Call → Type 0
Cond13 sheet call = (hub_of sheet call).full ≡ true

-- "then 9, then list pairs one by one 10 and 11": m pairs from place i on
abbrev pub list_lines : List ℕ → List ℕ → ℕ → ℕ → List Line
list_lines sheet list i zero = []
list_lines sheet list i (suc m) = line 10 i (Cond10 sheet list i) ∷ line 11 i (Cond11 sheet list i) ∷ list_lines sheet list (suc i) m

-- a start set has no 9 and no 11
abbrev pub ask_lines : List ℕ → Call → List Line
ask_lines sheet (listed list) = line 9 0 (Cond9 list) ∷ list_lines sheet list 0 (length list / 2)
ask_lines sheet (drained starts budget) = line 10 0 (Cond10Set sheet starts) ∷ []

-- "The order is the table's, sheet first: 1 to 5, then pair by pair 6 to 8, then 9, then list pairs one by one 10 and 11, then 12, then 13 as it happens."
abbrev pub call_lines : List ℕ → Call → List ℕ → List Line
call_lines sheet call board = sheet_lines 16 sheet ++ (ask_lines sheet call ++ (line 12 0 (Cond12 sheet board) ∷ line 13 0 (Cond13 sheet call) ∷ []))
