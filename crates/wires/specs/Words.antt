-- A message as one word: NOTSPT with the set s is the number s, and Neighbors(k) with the link set s is (k + 1) * 65536 + s.
-- A set of boxes is a 16-bit number, so the two never meet. Definitions, and that reading a word gives back the message that was written.
-- Assumes nothing.
use Rattle.std.specs.Prelude.{ℕ, ◌+◌, ◌*◌, ◌/◌, ◌%◌, ◌<◌, ◌≡◌, Bool, true, cond, leb}
use Rattle.std.proofs.Common.{arith, ap₂, le-leb}
use Rattle.std.proofs.lemmas.Bool.{lt-leb}
use Rattle.rules.specs.Box.{Msg, notspt, neighbors}

abbrev pub word_of : Msg → ℕ
word_of (notspt s) = s
word_of (neighbors k s) = (k + 1) * 65536 + s

abbrev pub is_list : ℕ → Bool
is_list x = leb 65536 x

abbrev pub set_of : ℕ → ℕ
set_of x = x % 65536

-- the set of a message, of either kind
abbrev pub set_in : Msg → ℕ
set_in (notspt s) = s
set_in (neighbors k s) = s

-- the upper half is the origin and 1; what is read is a box, whatever the word is
abbrev pub origin_of : ℕ → ℕ
origin_of x = (x / 65536 + 15) % 16

unfoldable pub msg_of : ℕ → Msg
msg_of x = cond (is_list x) (neighbors (origin_of x) (set_of x)) (notspt (set_of x))

-- a message of at most 16 boxes
abbrev pub Small : Msg → Type 0
Small (notspt s) = s < 65536
Small (neighbors k s) = (k < 16) × (s < 65536)

-- reading a word gives back the message that was written
pub round_trip : (m : Msg) → Small m → msg_of (word_of m) ≡ m
unfolding msg_of
round_trip (notspt s) h =
    let e : s % 65536 ≡ s = omega arith in
    rw (lt-leb 65536 s h, e)
round_trip (neighbors k s) h =
    let s_low : s < 65536 = h.1 in
    let k_low : k < 16 = h.0 in
    let l : leb 65536 ((k + 1) * 65536 + s) ≡ true = le-leb 65536 ((k + 1) * 65536 + s) (omega arith) in
    let e : ((k + 1) * 65536 + s) % 65536 ≡ s = omega arith in
    let d : ((k + 1) * 65536 + s) / 65536 ≡ k + 1 = omega arith in
    let o : (k + 1 + 15) % 16 ≡ k = omega arith in
    rw (l, d) (ap₂ neighbors o e)
