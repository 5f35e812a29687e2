-- "0 where the call was done", and nowhere else: no refusal has that number. Assumes nothing.
use Rattle.std.specs.Prelude.{◌≤◌, ◌≢◌}
use Rattle.std.proofs.Common.{arith}
use Rattle.refusals.specs.declared.Refusal.{Refusal}
use Rattle.refusals.specs.declared.Refusal.TheVariants.{
  ShortSheet,
  Version,
  Boxes,
  Links,
  Back,
  PairBox,
  PairTurned,
  PairOrder,
  ListLength,
  ListBox,
  ListLink,
  Room,
  WireFull,
  Table,
  Buffer,
}
use Rattle.refusals.specs.Numbers.{number}

pub number_in_table : (e : Refusal) → (1 ≤ number e) × (number e ≤ 15)
number_in_table ShortSheet = (omega arith, omega arith)
number_in_table Version = (omega arith, omega arith)
number_in_table Boxes = (omega arith, omega arith)
number_in_table Links = (omega arith, omega arith)
number_in_table Back = (omega arith, omega arith)
number_in_table PairBox = (omega arith, omega arith)
number_in_table PairTurned = (omega arith, omega arith)
number_in_table PairOrder = (omega arith, omega arith)
number_in_table ListLength = (omega arith, omega arith)
number_in_table ListBox = (omega arith, omega arith)
number_in_table ListLink = (omega arith, omega arith)
number_in_table Room = (omega arith, omega arith)
number_in_table WireFull = (omega arith, omega arith)
number_in_table Table = (omega arith, omega arith)
number_in_table Buffer = (omega arith, omega arith)

pub number_some : (e : Refusal) → number e ≢ 0
number_some e z = let h = number_in_table e in absurd (omega (arith, h.0))
