-- What code has gathered in a round, beside the store that it was taken from. Definitions alone.
use Rattle.std.specs.Prelude.{ℕ, ◌≡◌, true, false, List, Option, MatchOption}
use Rattle.wires.specs.Wires.{sixteen, front}
use Rattle.wires.specs.Words.{origin_of, set_of}
use Rattle.mail.specs.declared.Gathered.{Gathered}
use Rattle.mail.specs.Gather.{Got, list_at}

abbrev pub got : List ℕ → List ℕ → ℕ → List ℕ → ℕ → Got
got s heads listed lists heard = record { store = s; heads = heads; listed = listed; lists = lists; heard = heard }

abbrev pub got_of : List ℕ → Gathered → Got
got_of s g = got s g.heads g.listed g.lists g.heard

-- the origin and the links of the list at the head of the queue of wire i, or that none stands there
abbrev pub Listed : Option (ℕ × ℕ) → List ℕ → ℕ → Type 0
Listed r s i = MatchOption r (list_at s i ≡ false) (λ l. (list_at s i ≡ true) × ((l.0 ≡ origin_of (front sixteen s i)) × (l.1 ≡ set_of (front sixteen s i))))
