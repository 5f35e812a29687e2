-- The words of the promises: what a reader of Promises has to know beside the rules. Definitions alone.
-- w is the number of boxes, t the link table, room the most messages that wait on one wire and its receiving queue together.
use Rattle.std.specs.Prelude.{ℕ, ◌+◌, ◌<◌, ◌≡◌, Bool, true, false, ◌&&◌, ◌||◌, List, [], ◌∷◌, ◌⊎◌, eqb}
use Rattle.rules.specs.Sets.{mem, word, bit, set_of, sum}
use Rattle.rules.specs.Box.{Msg, notspt, neighbors, asleep}
use Rattle.rules.specs.Hub.{Hub, sleeping, start, deliver}
use Rattle.rules.specs.Rest.{reached, at_rest, sent_at_rest}

-- a hub that starts and deliveries lead to from the sleeping one, in any order
pub data Reached (w room : ℕ) (t : List ℕ) : Hub → Type 0 where
  begin : Reached w room t (sleeping w)
  starts : {h : Hub} (i : ℕ) → i < w → Reached w room t h → Reached w room t (start w room t i h)
  delivers : {h : Hub} (a b : ℕ) → Reached w room t h → Reached w room t (deliver w room t a b h)

-- what is checked of a list before its first pair is done: every pair names boxes below w, and two different boxes only where there is a link
abbrev pub Names : ℕ → List ℕ → List ℕ → Type 0
Names w t [] = Unit {0}
Names w t (a ∷ []) = Unit {0}
Names w t (a ∷ b ∷ l) = ((a < w) × (b < w)) × ((a ≡ b) ⊎ (mem b (word t a) ≡ true)) × Names w t l

-- the list starts box k, and the set of the boxes that it starts: "a = b starts box a"
unfoldable pub asks : ℕ → List ℕ → Bool
asks k [] = false
asks k (a ∷ []) = false
asks k (a ∷ b ∷ l) = (eqb a b && eqb a k) || asks k l

unfoldable pub starts_of : ℕ → List ℕ → ℕ
starts_of w l = set_of w (λ k. asks k l)

-- how often Neighbors(k) stands in a run of messages
unfoldable pub tally : ℕ → List Msg → ℕ
tally k [] = 0
tally k (notspt s ∷ c) = tally k c
tally k (neighbors j s ∷ c) = bit (eqb k j) + tally k c

-- how often box j has used Neighbors(k)
unfoldable pub handed : ℕ → Hub → ℕ → ℕ → ℕ
handed w h j k = sum w (λ i. tally k (h.wires i j).taken)

-- a run of messages with no list in it
abbrev pub SetsOnly : List Msg → Type 0
SetsOnly [] = Unit {0}
SetsOnly (notspt s ∷ l) = SetsOnly l
SetsOnly (neighbors k s ∷ l) = ⊥

-- a hub at rest in which the boxes of x were started: the boxes of their groups have stopped, all others sleep, and the counts are what the sheet fixes
pub record Final (w : ℕ) (t : List ℕ) (x : ℕ) (h : Hub) : Type 0 where
  pub stopped : (i : ℕ) → i < w → reached w t x i ≡ true → h.boxes i ≡ at_rest w t i
  pub sleep : (i : ℕ) → i < w → reached w t x i ≡ false → h.boxes i ≡ asleep w
  pub sent : h.sent ≡ sent_at_rest w t x
  pub moved : h.moved ≡ sent_at_rest w t x

-- two hubs with the same boxes and the same counts
pub record Alike (w : ℕ) (g h : Hub) : Type 0 where
  pub boxes : (i : ℕ) → i < w → g.boxes i ≡ h.boxes i
  pub sent : g.sent ≡ h.sent
  pub moved : g.moved ≡ h.moved
