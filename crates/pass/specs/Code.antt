-- What the code's own types say in the words of the definitions. Definitions alone.
use Rattle.std.specs.Prelude.{ℕ, true, false, List, Option, Some, None}
use Rattle.turn.specs.declared.Carried.{Carried}
use Rattle.turn.specs.Turn.{Put}
use Rattle.turn.specs.Parts.{Receiver}
use Rattle.turn.specs.Code.{counted}
use Rattle.pass.specs.declared.Seen.{Seen}
use Rattle.pass.specs.Pass.{Glance, seen_as, carried_on}

-- what was seen of the receiver r; nothing, where its record would be touched
abbrev pub seen_by : Receiver → Option Seen → Glance
seen_by r (Some k) = seen_as true k.moved k.heard
seen_by r None = seen_as false false r.heard

-- what code carries by value where the list has so many pairs, beside the store that has its tables
abbrev pub carried_with : List ℕ → Carried → ℕ → Put
carried_with s c pairs = carried_on s (counted c pairs)
