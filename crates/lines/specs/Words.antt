-- The word of a refusal. Document 01: "The printing program groups the numbers by range: 1 to 5 "sheet", 6 to 8 "pair", 9 to 11 "list",
-- 12 to 15 "room"." Definitions alone.
use Rattle.std.specs.Prelude.{ℕ, cond, List as Bytes, [], ◌∷◌, ltb}
use Rattle.lines.specs.declared.Word.{Word}
use Rattle.lines.specs.declared.Word.TheVariants.{Sheet, Pair, List, Room, Nothing}

-- no other number is ever given
abbrev pub word_of : ℕ → Word
word_of n = cond (ltb n 1) Nothing (cond (ltb n 6) Sheet (cond (ltb n 9) Pair (cond (ltb n 12) List (cond (ltb n 16) Room Nothing))))

-- in ASCII, and the end of the line
abbrev pub word_line : Word → Bytes ℕ
word_line Sheet = 115 ∷ 104 ∷ 101 ∷ 101 ∷ 116 ∷ 10 ∷ []
word_line Pair = 112 ∷ 97 ∷ 105 ∷ 114 ∷ 10 ∷ []
word_line List = 108 ∷ 105 ∷ 115 ∷ 116 ∷ 10 ∷ []
word_line Room = 114 ∷ 111 ∷ 111 ∷ 109 ∷ 10 ∷ []
word_line Nothing = 10 ∷ []
