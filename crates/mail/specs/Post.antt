-- What goes out of one box in a turn, as code puts it on the wires: the store and the counts after it. Written with the store's own definitions.
-- Definitions alone; that they come to the rules' `send_all` is in Shows.
use Rattle.std.specs.Prelude.{ℕ, ◌+◌, ◌%◌, Bool, true, cond, List}
use Rattle.rules.specs.Sets.{word, for_each}
use Rattle.rules.specs.Box.{notspt, neighbors}
use Rattle.wires.specs.Wires.{sixteen, has_room, pushed}
use Rattle.wires.specs.Words.{word_of}

-- the store, how many were sent so far (as a 32-bit number), and whether one found no room
pub record Posted : Type 0 where
  pub store : List ℕ
  pub sent : ℕ
  pub full : Bool

-- one word joins wire i
unfoldable pub post_word : ℕ → ℕ → Posted → Posted
post_word i x p =
    cond (has_room sixteen p.store i)
    (record { store = pushed sixteen p.store i x; sent = (p.sent + 1) % 4294967296; full = p.full })
    (record { store = pushed sixteen p.store i x; sent = p.sent; full = true })

-- the lists of the origins in a set, those below n, ascending
unfoldable pub post_lists : ℕ → ℕ → List ℕ → ℕ → Posted → Posted
post_lists i origins known n p = for_each origins (λ k. post_word i (word_of (neighbors k (word known k)))) n p

unfoldable pub post_if : Bool → ℕ → ℕ → Posted → Posted
post_if c i s p = cond c (post_word i (word_of (notspt s)) p) p
