-- A list's check as one number, and a start set as a list. Definitions alone.
use Rattle.std.specs.Prelude.{ℕ, ◌%◌, not, ◌&&◌, ◌||◌, cond, List, [], ◌∷◌, eqb, ltb, leb, length, take}
use Rattle.rules.specs.Sets.{mem, word, each}
use Rattle.lists.specs.declared.starts.Starts.{Starts}
use Rattle.rules.specs.Calls.{longest_list}

-- the number that a pair of the list is refused with, 0 where it is not
unfoldable pub pair_number : ℕ → List ℕ → ℕ → ℕ → ℕ
pair_number n t a b = cond (leb n a || leb n b) 10 (cond (not (eqb a b) && not (mem b (word t a))) 11 0)

-- that of the first pair that has one
unfoldable pub pairs_number : ℕ → List ℕ → List ℕ → ℕ
pairs_number n t [] = 0
pairs_number n t (a ∷ []) = 0
pairs_number n t (a ∷ b ∷ l) = let k = pair_number n t a b in cond (eqb k 0) (pairs_number n t l) k

unfoldable pub list_number : ℕ → List ℕ → List ℕ → ℕ
list_number n t l = cond (eqb (length l % 2) 1 || ltb longest_list (length l)) 9 (pairs_number n t l)

-- a set of boxes to start, as the pairs of a list, ascending
unfoldable pub start_pairs : ℕ → ℕ → List ℕ
start_pairs n s = each n (λ i. cond (mem i s) (i ∷ i ∷ []) [])

-- the list that such a set is kept as
abbrev pub list_of : Starts → List ℕ
list_of s = take s.len s.room
