-- The parts of writing that the code has a function for, as the rules' definitions have them inside. Definitions alone.
use Rattle.std.specs.Prelude.{ℕ, Bool, not, ◌&&◌, ◌||◌, cond, List, [], ◌∷◌, eqb, ltb}
use Rattle.rules.specs.Sets.{mem, word, each}

-- where j is in the link set of i: the same the other way, not the box itself, and both below n
abbrev pub link_proper : ℕ → List ℕ → ℕ → ℕ → Bool
link_proper n t i j = not (mem j (word t i)) || (mem i (word t j) && (not (eqb i j) && (ltb i n && ltb j n)))

-- the pair (i, j) is written
abbrev pub is_link : List ℕ → ℕ → ℕ → Bool
is_link t i j = ltb i j && mem j (word t i)

-- its bytes
abbrev pub pair_of : List ℕ → ℕ → ℕ → List ℕ
pair_of t i j = cond (is_link t i j) (i ∷ j ∷ []) []

-- the bytes of the pairs (i, j) with j below k
abbrev pub row_bytes : ℕ → List ℕ → ℕ → List ℕ
row_bytes k t i = each k (pair_of t i)
