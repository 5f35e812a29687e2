-- The lines of the printing program's text, as bytes. Document 01, end of "Sample hubs". Definitions alone.
use Rattle.std.specs.Prelude.{ℕ, suc, ◌^◌, List, [], ◌∷◌, ◌++◌, ltb}
use Rattle.io.specs.Digits.{last_digits}
use Rattle.rules.specs.Sets.{least}
use Rattle.lines.specs.Words.{word_of, word_line}

-- ---- numbers and words, in ASCII

-- a number below 10^20 with its decimal digits, no zero in front
unfoldable pub decimal : ℕ → List ℕ
decimal n = last_digits 10 (suc (least 20 (λ k. ltb n (10 ^ suc k)))) n

-- a number, and what stands after it: 32 is a space, 10 the end of a line
unfoldable pub field : ℕ → ℕ → List ℕ
field n end = decimal n ++ (end ∷ [])

abbrev pub boxes_word : List ℕ
boxes_word = 98 ∷ 111 ∷ 120 ∷ 101 ∷ 115 ∷ 32 ∷ []

abbrev pub links_word : List ℕ
links_word = 108 ∷ 105 ∷ 110 ∷ 107 ∷ 115 ∷ 32 ∷ []

abbrev pub moved_word : List ℕ
moved_word = 109 ∷ 111 ∷ 118 ∷ 101 ∷ 100 ∷ 32 ∷ []

abbrev pub refused_word : List ℕ
refused_word = 114 ∷ 101 ∷ 102 ∷ 117 ∷ 115 ∷ 101 ∷ 100 ∷ 32 ∷ []

-- ---- lines

-- "The first line gives N, P and moved."
unfoldable pub heading : ℕ → ℕ → ℕ → List ℕ
heading n p moved = boxes_word ++ field n 32 ++ links_word ++ field p 32 ++ moved_word ++ field moved 10

-- "Each later line is box, origin .., hops, neighbour it comes from"
unfoldable pub line : ℕ → ℕ → ℕ → ℕ → List ℕ
line i j hops from = field i 32 ++ field j 32 ++ field hops 32 ++ field from 10

-- "A refusal prints one line, as `refused 8 pair`."
unfoldable pub refusal : ℕ → List ℕ
refusal number = refused_word ++ field number 32 ++ word_line (word_of number)
