-- What the printing program prints, as bytes. Document 01, end of "Sample hubs". Definitions alone.
use Rattle.std.specs.Prelude.{ℕ, ◌+◌, ◌-◌, ◌*◌, ◌^◌, cond, List, [], ◌++◌, eqb, ltb, length, replicate}
use Rattle.rules.specs.Sets.{mem, word, least, each}
use Rattle.rules.specs.Outcome.{Outcome, refused, accepted}
use Rattle.rules.specs.Sheet.{Sheet, read_sheet}
use Rattle.rules.specs.Hub.{block_words}
use Rattle.rules.specs.Calls.{Ran, drain_call, boxes_most}
use Rattle.lines.specs.Lines.{heading, line, refusal}

-- ---- routes, from the board

-- the first of a table's words that has the origin; 16 where none has. The table stands at a place of the board.
unfoldable pub first_with : List ℕ → ℕ → ℕ → ℕ
first_with board at j = least boxes_most (λ k. mem j (word board (at + k)))

-- Nodes stands after state and HOP, and In_SPT after Nodes
abbrev pub nodes_at : ℕ → ℕ
nodes_at i = block_words boxes_most * i + 2

abbrev pub in_spt_at : ℕ → ℕ
in_spt_at i = block_words boxes_most * i + 18

-- the line of box i for the origin j, where j is another member of its group: "Nodes(d) is the set of boxes at d hops", "In_SPT(J): the origins
-- K .. for which J is the .. neighbour"
unfoldable pub route : List ℕ → ℕ → ℕ → List ℕ
route board i j =
    let hops = first_with board (nodes_at i) j in
    cond (eqb i j) [] (cond (ltb hops boxes_most) (line i j hops (first_with board (in_spt_at i) j)) [])

-- "box ascending, then origin"
unfoldable pub routes : List ℕ → ℕ → List ℕ
routes board n = each n (λ i. each n (route board i))

-- ---- the whole text

-- N and P of a sheet that was read, 0 for one that was refused
unfoldable pub boxes_of : Outcome Sheet → ℕ
boxes_of (refused n p) = 0
boxes_of (accepted r) = r.boxes

unfoldable pub links_of : Outcome Sheet → ℕ
links_of (refused n p) = 0
links_of (accepted r) = r.links

-- "4,560 suffices for every sheet"
abbrev pub budget : ℕ
budget = 4560

-- what is printed of a drain's answer
unfoldable pub answered : ℕ → ℕ → Ran → List ℕ
answered n p a = cond (eqb a.number 0) (heading n p a.moved ++ routes a.board n) (refusal a.number)

-- "Reads a sheet .., starts every box, drains, and prints"
unfoldable pub printed : List ℕ → List ℕ
printed sheet =
    let n = boxes_of (read_sheet boxes_most sheet) in
    answered n (links_of (read_sheet boxes_most sheet)) (drain_call sheet (2 ^ n - 1) budget (replicate (block_words boxes_most * boxes_most) 0))

-- a buffer of so many bytes holds every text
abbrev pub text_most : ℕ
text_most = 4096

-- what is put into a lent buffer: nothing where it is shorter than that
unfoldable pub printed_in : List ℕ → List ℕ → List ℕ
printed_in sheet text = cond (ltb (length text) text_most) [] (printed sheet)
