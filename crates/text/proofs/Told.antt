-- A law that docs/PORT.md names. Assumes nothing.
use Rattle.std.proofs.Common.{ℕ, ◌<◌, ◌≡◌, sym, ◌∙◌, List}
use Rattle.lines.specs.Lines.{line}
use Rattle.text.specs.Text.{first_with, nodes_at, in_spt_at, route}
use Rattle.text.proofs.TextLaws.{route_line}

-- the line of a route, of the numbers that the code found
pub route_found : (board : List ℕ) (i j hops from : ℕ) → (i ≡ j → ⊥) → hops ≡ first_with board (nodes_at i) j → hops < 16 → from ≡ first_with board (in_spt_at i) j
    → route board i j ≡ line i j hops from
route_found board i j hops from other h l f = route_line board i j other (rw h at l) ∙ sym (rw (h, f))
