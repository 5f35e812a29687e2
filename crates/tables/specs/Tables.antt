-- The three tables that a run carries from turn to turn, in the words of the store before the wires'. Definitions alone; the laws are in proofs/Laws.
use Rattle.std.specs.Prelude.{ℕ, zero, suc, ◌+◌, ◌%◌, ◌≡◌, List, [], ◌∷◌, set}
use Rattle.rules.specs.Sets.{word}
use Rattle.wires.specs.Wires.{sixteen, waiting, none}

-- Read so that it is a set of 16 boxes, whatever the word is.
unfoldable pub entry_of : List ℕ → ℕ → ℕ
entry_of s k = word s k % 65536

unfoldable pub with_entry : List ℕ → ℕ → ℕ → List ℕ
with_entry s k x = set s k x

-- n entries from k on
unfoldable pub entries : List ℕ → ℕ → ℕ → List ℕ
entries s k zero = []
entries s k (suc n) = entry_of s k ∷ entries s (k + 1) n

-- by box: its link set; the links whose queue holds a message; the boxes to which it has messages under way
abbrev pub links_of : List ℕ → List ℕ
links_of s = entries s 0 16

abbrev pub heard_of : List ℕ → List ℕ
heard_of s = entries s 16 16

abbrev pub busy_of : List ℕ → List ℕ
busy_of s = entries s 32 16

abbrev pub with_heard : List ℕ → ℕ → ℕ → List ℕ
with_heard s b x = with_entry s (16 + b) x

abbrev pub with_busy : List ℕ → ℕ → ℕ → List ℕ
with_busy s a x = with_entry s (32 + a) x

-- What a store of an entry promises: the words exactly, and that every wire is as it was.
pub record Entered (s s' u : List ℕ) : Type 0 where
  pub words : s' ≡ u
  pub wires : (i : ℕ) → waiting sixteen s' i ≡ waiting sixteen s i

-- ---- the store of a sleeping hub

-- the first n entries are those of the link table t
unfoldable pub lay_to : List ℕ → ℕ → List ℕ → List ℕ
lay_to t zero s = s
lay_to t (suc n) s = with_entry (lay_to t n s) n (word t n)

unfoldable pub laid : List ℕ → List ℕ
laid t = lay_to t 16 (none sixteen)
