-- The last bytes of an input, and a tail as bytes with a length beside them; the code's tail shows as one. Definitions alone.
use Rattle.std.specs.Prelude.{ℕ, ◌-◌, ◌≤◌, ◌≡◌, List, ◌++◌, length, take, drop}
use Rattle.tail.specs.declared.Tail.{Tail as TailCode}

-- bytes, of which the first len are what is held
pub record Tail : Type 0 where
  pub bytes : List ℕ
  pub len : ℕ

-- the last n of the list, or all of it where it is shorter
abbrev pub last_of : ℕ → List ℕ → List ℕ
last_of n l = drop (length l - n) l

-- what a tail holds
abbrev pub held : Tail → List ℕ
held t = take t.len t.bytes

-- r holds the last 244 bytes of what t held followed by the list
pub record Keeps (t : Tail) (l : List ℕ) (r : Tail) : Type 0 where
  pub holds : held r ≡ last_of 244 (held t ++ l)
  pub within : r.len ≤ 244

-- ---- the tail as the code has it

abbrev pub shown : TailCode → Tail
shown t = record { bytes = t.bytes; len = t.len }
