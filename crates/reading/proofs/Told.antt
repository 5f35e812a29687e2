-- Laws that docs/PORT.md names. Assumes nothing.
use Prim.Native.Nat.{ℕ, ◌*◌, ◌≤◌}
use native.Mathlib.Omega.{arith}
use native.Mathlib.Nat.{mul-le-mul}
use mathlib.Core.Path.{◌≡◌}
use mathlib.Core.List.{List, ◌++◌, append-nil}
use mir.Syntax.{w32}
use mir.Val.{Fits}
use lib.ListN.{length, take, drop, drop_of_length-le}
use lib.Seq.{take_all}

-- a product of two small numbers fits 32 bits: at most 240 wires, and fewer than 64 identities on each
pub fits_small : {a b : ℕ} → a ≤ 240 → b ≤ 64 → Fits w32 (a * b)
fits_small h k = let l = mul-le-mul h k in omega arith

-- a list copied over another, word by word: all are copied
pub copy_all : (t d : List ℕ) (n : ℕ) → length t ≡ n → length d ≡ n → take n t ++ drop n d ≡ t
copy_all t d n h l = rw (take_all n t (omega arith), drop_of_length-le d {i = n} (omega arith), append-nil)
