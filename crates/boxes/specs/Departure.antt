-- What goes out, as the step speaks of it: whether a round was done, and by link what it sends. The code's departure has that where there was a round, and
-- shows as one. Definitions alone.
use Rattle.std.specs.Prelude.{ℕ, Bool, List, Option, Some, None, replicate}
use Rattle.std.specs.Option.{is_some}
use Rattle.boxes.specs.declared.Departure.{Departure as Went}
use Rattle.boxes.specs.declared.Sent.{Sent}

pub record Departure : Type 0 where
  pub own : ℕ
  pub «from» : ℕ
  pub heard : ℕ
  pub sets : List ℕ
  pub origins : List ℕ
  pub neighbors : List ℕ
  pub moved : Bool
  pub wakes : Bool
  pub round : Bool
  pub stops : Bool

abbrev pub sets_sent : Option Sent → List ℕ
sets_sent None = replicate 16 0
sets_sent (Some s) = s.sets

abbrev pub origins_sent : Option Sent → List ℕ
origins_sent None = replicate 16 0
origins_sent (Some s) = s.origins

abbrev pub shown_departure : Went → Departure
shown_departure o = record {
  own = o.own;
  «from» = o.«from»;
  heard = o.heard;
  sets = sets_sent o.round;
  origins = origins_sent o.round;
  neighbors = o.neighbors;
  moved = o.moved;
  wakes = o.wakes;
  round = is_some o.round;
  stops = o.stops;
}
