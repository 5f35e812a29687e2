-- The refusals' numbers, and the number of an answer that may be one. Document 01, "Numbers given when the hub refuses". Definitions alone.
use Rattle.std.specs.Prelude.{ℕ, Result, Ok, Err}
use Rattle.refusals.specs.declared.Refusal.{Refusal}
use Rattle.refusals.specs.declared.Refusal.TheVariants.{
  ShortSheet,
  Version,
  Boxes,
  Links,
  Back,
  PairBox,
  PairTurned,
  PairOrder,
  ListLength,
  ListBox,
  ListLink,
  Room,
  WireFull,
  Table,
  Buffer,
}

abbrev pub number : Refusal → ℕ
number ShortSheet = 1
number Version = 2
number Boxes = 3
number Links = 4
number Back = 5
number PairBox = 6
number PairTurned = 7
number PairOrder = 8
number ListLength = 9
number ListBox = 10
number ListLink = 11
number Room = 12
number WireFull = 13
number Table = 14
number Buffer = 15

-- "0 where the call was done": the number of an answer that is a refusal, or what was asked for
abbrev pub number_of : {A : Type 0} → Result A Refusal → ℕ
number_of (Ok a) = 0
number_of (Err e) = number e
