-- The text of what the printing program keeps is the text of all that it reads: `kept_prints`, `chunks_print`. Assumes nothing.
use Rattle.std.specs.Prelude.{ℕ, ◌≡◌, List, []}
use Rattle.std.proofs.Common.{arith, ap, ◌∙◌}
use Rattle.rules.specs.Sheet.{read_sheet}
use Rattle.rules.specs.Calls.{boxes_most, drain_call}
use Rattle.sheet_laws.proofs.RoundTrip.{last_enough}
use Rattle.tail.specs.Last.{Tail, last_of, held}
use Rattle.tail.specs.Chunks.{all_of, KeepsEach, chunks_kept}
use Rattle.text.specs.Text.{printed}

-- an input has no part in its text but by what is read of it
reads_alone : (a b : List ℕ) → read_sheet boxes_most a ≡ read_sheet boxes_most b → printed a ≡ printed b
unfolding printed drain_call
reads_alone a b e = rw e

-- "Of a longer input only the last 244 bytes need be kept": the text of any input is that of its last 244 bytes
pub kept_prints : (input : List ℕ) → printed (last_of 244 input) ≡ printed input
kept_prints input = reads_alone _ _ (last_enough boxes_most _ input (omega arith))

-- and of an input that is read chunk by chunk, into a tail that holds nothing at first
pub chunks_print : {t r : Tail} {chunks : List (List ℕ)} → held t ≡ [] → KeepsEach t chunks r → printed (held r) ≡ printed (all_of chunks)
chunks_print {chunks = chunks} e ks = ap printed (chunks_kept e ks) ∙ kept_prints (all_of chunks)
