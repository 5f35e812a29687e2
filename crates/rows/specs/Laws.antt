-- The row after `deliver_at`: the receiver's record is the new one, and every other is as it was. Assumes nothing.
use Rattle.std.specs.Prelude.{ℕ, ◌<◌, ◌≡◌, List, length, set, get_or}
use Rattle.std.proofs.Common.{ap, ◌∙◌, get_or-set_same, get_or-set_other}
use Rattle.std.proofs.lemmas.List.{map-set, get_or-map}
use Rattle.boxes.specs.declared.Record.{Record as Kept}
use Rattle.boxes.specs.Arrival.{Arrival}
use Rattle.boxes.specs.Departure.{Departure}
use Rattle.boxes.specs.Record.{Record, shown, shown_row, blank}
use Rattle.boxes.specs.Step.{step_def}

-- a delivery to box b leaves every other record as it was
pub others_kept : (row : List Record) (b k : ℕ) (x : Record) → (k ≡ b → ⊥) → get_or (set row b x) k blank ≡ get_or row k blank
others_kept row b k x d = get_or-set_other row b k x blank d

pub receiver_set : (row : List Record) (b : ℕ) (x : Record) → b < length row → get_or (set row b x) b blank ≡ x
receiver_set row b x l = get_or-set_same row b x blank l

-- ---- the row as the code has it: what a record shows is read and stored where the record is

module _ (row : List Kept) (b : ℕ) (d : Kept) (a : Arrival) (l : b < length row) where
  shown_at : get_or (shown_row row) b blank ≡ shown (get_or row b d)
  shown_at = get_or-map shown row b d blank l

  pub row_stored : (x : Kept) → shown x ≡ (step_def (shown (get_or row b d)) a).«record» → shown_row (set row b x) ≡ set (shown_row row) b (step_def (get_or (shown_row row) b blank) a).«record»
  row_stored x e = map-set shown row b x ∙ rw shown_at (ap (set (shown_row row) b) e)

  pub row_told : (o : Departure) → o ≡ (step_def (shown (get_or row b d)) a).out → o ≡ (step_def (get_or (shown_row row) b blank) a).out
  row_told o e = rw shown_at e
