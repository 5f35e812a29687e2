-- The code's messages beside the rules' and beside their words. Definitions, and that a message reads as the rules' message of its word. Assumes nothing.
use Rattle.std.specs.Prelude.{ℕ, ◌≡◌, ◌≢◌, true, false, Option, Some, None}
use Rattle.std.proofs.Common.{arith}
use Rattle.rules.specs.Box.{Msg, notspt, neighbors}
use Rattle.wires.specs.Words.{is_list, origin_of, set_of, set_in, Small, msg_of}
use Rattle.wires.specs.declared.Message.{Message}
use Rattle.wires.specs.declared.Message.TheVariants.{Notspt, Neighbors}

-- the rules' message
abbrev pub said : Message → Msg
said (Notspt s) = notspt s
said (Neighbors k s) = neighbors k s

-- the message that a word reads as, whatever the word is
abbrev pub Reads : Message → ℕ → Type 0
Reads (Notspt s) x = (is_list x ≡ false) × (s ≡ set_of x)
Reads (Neighbors k s) x = (is_list x ≡ true) × ((k ≡ origin_of x) × (s ≡ set_of x))

-- what a call answers where n messages wait: none of none, and else the message in the word x
abbrev pub Tells : Option Message → ℕ → ℕ → Type 0
Tells None n x = n ≡ 0
Tells (Some m) n x = (n ≢ 0) × Reads m x

-- read so, it is the rules' message of the word
pub reads_said : (m : Message) (x : ℕ) → Reads m x → said m ≡ msg_of x
unfolding msg_of
reads_said (Notspt s) x h = rw (h.0, h.1)
reads_said (Neighbors k s) x h = rw (h.0, h.1.0, h.1.1)

-- so is its set
pub reads_set : (m : Message) (x : ℕ) → Reads m x → set_in (said m) ≡ set_of x
reads_set (Notspt s) x h = h.1
reads_set (Neighbors k s) x h = h.1.1

-- and it is a message of at most 16 boxes
pub reads_small : (m : Message) (x : ℕ) → Reads m x → Small (said m)
reads_small (Notspt s) x h = omega (arith, h.1)
reads_small (Neighbors k s) x h = (omega (arith, h.1.0), omega (arith, h.1.1))
