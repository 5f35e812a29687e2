-- What has come for a box, as the step speaks of it: whether a round is done, and the sets at the heads. The code's arrival has those sets where there is a
-- round, and shows as one. Definitions alone; that the heads do not count where there is no round is `step_still` of Laws.
use Rattle.std.specs.Prelude.{ℕ, Bool, List, Option, Some, None, replicate}
use Rattle.std.specs.Option.{is_some}
use Rattle.boxes.specs.declared.Arrival.{Arrival as Came}

pub record Arrival : Type 0 where
  pub own : ℕ
  pub «from» : ℕ
  pub links : ℕ
  pub listed : ℕ
  pub heard : ℕ
  pub heads : List ℕ
  pub lists : List ℕ
  pub moved : Bool
  pub wakes : Bool
  pub round : Bool

abbrev pub heads_of : Option (List ℕ) → List ℕ
heads_of None = replicate 16 0
heads_of (Some t) = t

abbrev pub shown_arrival : Came → Arrival
shown_arrival a = record {
  own = a.own;
  «from» = a.«from»;
  links = a.links;
  listed = a.listed;
  heard = a.heard;
  heads = heads_of a.heads;
  lists = a.lists;
  moved = a.moved;
  wakes = a.wakes;
  round = is_some a.heads;
}
