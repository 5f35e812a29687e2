-- "A refusal returns its number, zero counts, not finished, and touches no lent board, table or buffer." "Acceptance answers 0", and nothing else does.
-- Assumes nothing.
use Rattle.std.specs.Prelude.{ℕ, suc, ◌≤◌, ◌≡◌, refl, Bool, true, false, List, [], ◌∷◌, ◌≢◌, length}
use Rattle.std.proofs.Common.{arith}
use Rattle.rules.specs.Outcome.{Outcome, refused, accepted, refuse, and_then}
use Rattle.rules.specs.Sheet.{Sheet, pairs, read_sheet, write_sheet}
use Rattle.rules.specs.Hub.{Hub}
use Rattle.rules.specs.Calls.{Ran, reading, read_answer, write_answer, allowance_answer, hub_answer, check_pairs, fitting, running, draining, on_sheet, read_call, write_call, allowance_call, run_call, drain_call}

-- ---- a refusal leaves nothing of the answer, and the lent words as they were

read_untouched : (table : List ℕ) (o : Outcome Sheet) → (read_answer table o).number ≢ 0
    → ((read_answer table o).boxes ≡ 0) × ((read_answer table o).links ≡ 0) × ((read_answer table o).table ≡ table)
unfolding read_answer
read_untouched table (refused n p) z = (refl, refl, refl)
read_untouched table (accepted r) z = absurd (z refl)

pub refused_read : (sheet table : List ℕ) → (read_call sheet table).number ≢ 0
    → ((read_call sheet table).boxes ≡ 0) × ((read_call sheet table).links ≡ 0) × ((read_call sheet table).table ≡ table)
unfolding read_call
refused_read sheet table = read_untouched table (reading 16 sheet table)

write_untouched : (buffer : List ℕ) (o : Outcome (List ℕ)) → (write_answer buffer o).number ≢ 0
    → ((write_answer buffer o).size ≡ 0) × ((write_answer buffer o).buffer ≡ buffer)
unfolding write_answer
write_untouched buffer (refused n p) z = (refl, refl)
write_untouched buffer (accepted r) z = absurd (z refl)

pub refused_write : (boxes : ℕ) (table buffer : List ℕ) → (write_call boxes table buffer).number ≢ 0
    → ((write_call boxes table buffer).size ≡ 0) × ((write_call boxes table buffer).buffer ≡ buffer)
unfolding write_call
refused_write boxes table buffer = write_untouched buffer (write_sheet 16 boxes table (length buffer))

allowance_none : (o : Outcome Sheet) → (allowance_answer o).number ≢ 0 → (allowance_answer o).identities ≡ 0
unfolding allowance_answer
allowance_none (refused n p) z = refl
allowance_none (accepted r) z = absurd (z refl)

pub refused_allowance : (sheet : List ℕ) → (allowance_call sheet).number ≢ 0 → (allowance_call sheet).identities ≡ 0
unfolding allowance_call
refused_allowance sheet = allowance_none (read_sheet 16 sheet)

pub record Untouched (lent : List ℕ) (r : Ran) : Type 0 where
  pub sent : r.sent ≡ 0
  pub moved : r.moved ≡ 0
  pub under_way : r.under_way ≡ 0
  pub finished : r.finished ≡ false
  pub board : r.board ≡ lent

hub_untouched : (w n : ℕ) (board : List ℕ) (o : Outcome Hub) → (hub_answer w n board o).number ≢ 0 → Untouched board (hub_answer w n board o)
unfolding hub_answer
hub_untouched w n board (refused m p) z = record { sent = refl; moved = refl; under_way = refl; finished = refl; board = refl }
hub_untouched w n board (accepted h) z = absurd (z refl)

sheet_untouched : (w : ℕ) (board : List ℕ) (f : Sheet → Outcome Hub) (o : Outcome Sheet) → (on_sheet w board f o).number ≢ 0 → Untouched board (on_sheet w board f o)
unfolding on_sheet
sheet_untouched w board f (refused m p) z = hub_untouched w 0 board (refused m p) z
sheet_untouched w board f (accepted r) z = hub_untouched w r.boxes board (f r) z

pub refused_run : (sheet list board : List ℕ) → (run_call sheet list board).number ≢ 0 → Untouched board (run_call sheet list board)
unfolding run_call
refused_run sheet list board = sheet_untouched 16 board (running 16 20 list board) (read_sheet 16 sheet)

pub refused_drain : (sheet : List ℕ) (starts budget : ℕ) (board : List ℕ) → (drain_call sheet starts budget board).number ≢ 0
    → Untouched board (drain_call sheet starts budget board)
unfolding drain_call
refused_drain sheet starts budget board = sheet_untouched 16 board (draining 16 20 starts budget board) (read_sheet 16 sheet)

-- ---- every refusal has a number of document 01's table, 1 to 15

abbrev pub InTable : ℕ → Type 0
InTable n = (1 ≤ n) × (n ≤ 15)

abbrev pub Numbered : {A : Type 0} → Outcome A → Type 0
Numbered (refused n p) = InTable n
Numbered (accepted a) = Unit {0}

refuse_numbered : {A : Type 0} (c : Bool) (n p : ℕ) (o : Outcome A) → InTable n → Numbered o → Numbered (refuse c n p o)
unfolding refuse
refuse_numbered true n p o z h = z
refuse_numbered false n p o z h = h

then_numbered : {A B : Type 0} (o : Outcome A) (f : A → Outcome B) → Numbered o → ((a : A) → Numbered (f a)) → Numbered (and_then o f)
unfolding and_then
then_numbered (refused n p) f h g = h
then_numbered (accepted a) f h g = g a

pub pairs_numbered : (n i a b : ℕ) (l t : List ℕ) → Numbered (pairs n i a b l t)
unfolding pairs
pairs_numbered n i a b [] t = tt
pairs_numbered n i a b (c ∷ []) t = tt
pairs_numbered n i a b (c ∷ d ∷ l) t =
    refuse_numbered _ 6 i _ (omega arith, omega arith) (refuse_numbered _ 7 i _ (omega arith, omega arith) (refuse_numbered _ 8 i _ (omega arith, omega arith) (pairs_numbered n (suc i) c d l _)))

pub sheet_numbered : (w : ℕ) (s : List ℕ) → Numbered (read_sheet w s)
unfolding read_sheet
sheet_numbered w s =
    refuse_numbered _ 1 0 _ (omega arith, omega arith) (refuse_numbered _ 2 0 _ (omega arith, omega arith) (refuse_numbered _ 3 0 _ (omega arith, omega arith)
    (refuse_numbered _ 4 0 _ (omega arith, omega arith) (refuse_numbered _ 5 0 _ (omega arith, omega arith) (then_numbered _ _ (pairs_numbered _ 0 0 0 _ _) (λ t. tt))))))

pub reading_numbered : (w : ℕ) (s table : List ℕ) → Numbered (reading w s table)
unfolding reading
reading_numbered w s table = then_numbered (read_sheet w s) _ (sheet_numbered w s) (λ r. refuse_numbered _ 12 0 _ (omega arith, omega arith) tt)

pub write_numbered : (w n : ℕ) (t : List ℕ) (size : ℕ) → Numbered (write_sheet w n t size)
unfolding write_sheet
write_numbered w n t size = refuse_numbered _ 3 0 _ (omega arith, omega arith) (refuse_numbered _ 14 0 _ (omega arith, omega arith) (refuse_numbered _ 15 0 _ (omega arith, omega arith) tt))

check_numbered : {A : Type 0} (n : ℕ) (t : List ℕ) (i : ℕ) (l : List ℕ) (o : Outcome A) → Numbered o → Numbered (check_pairs n t i l o)
unfolding check_pairs
check_numbered n t i [] o h = h
check_numbered n t i (a ∷ []) o h = h
check_numbered n t i (a ∷ b ∷ l) o h = refuse_numbered _ 10 i _ (omega arith, omega arith) (refuse_numbered _ 11 i _ (omega arith, omega arith) (check_numbered n t (suc i) l o h))

fitting_numbered : (w n : ℕ) (board : List ℕ) (h : Hub) → Numbered (fitting w n board h)
unfolding fitting
fitting_numbered w n board h = refuse_numbered _ 12 0 _ (omega arith, omega arith) (refuse_numbered _ 13 0 _ (omega arith, omega arith) tt)

pub running_numbered : (w room : ℕ) (list board : List ℕ) (r : Sheet) → Numbered (running w room list board r)
unfolding running
running_numbered w room list board r = refuse_numbered _ 9 0 _ (omega arith, omega arith) (check_numbered r.boxes r.table 0 list _ (fitting_numbered w r.boxes board _))

pub draining_numbered : (w room starts budget : ℕ) (board : List ℕ) (r : Sheet) → Numbered (draining w room starts budget board r)
unfolding draining
draining_numbered w room starts budget board r = refuse_numbered _ 10 0 _ (omega arith, omega arith) (fitting_numbered w r.boxes board _)

-- ---- so has every answer: 0, or a number of the table

read_within : (table : List ℕ) (o : Outcome Sheet) → Numbered o → (read_answer table o).number ≤ 15
unfolding read_answer
read_within table (refused n p) h = h.1
read_within table (accepted r) h = omega arith

pub read_most : (sheet table : List ℕ) → (read_call sheet table).number ≤ 15
unfolding read_call
read_most sheet table = read_within table (reading 16 sheet table) (reading_numbered 16 sheet table)

write_within : (buffer : List ℕ) (o : Outcome (List ℕ)) → Numbered o → (write_answer buffer o).number ≤ 15
unfolding write_answer
write_within buffer (refused n p) h = h.1
write_within buffer (accepted r) h = omega arith

pub write_most : (boxes : ℕ) (table buffer : List ℕ) → (write_call boxes table buffer).number ≤ 15
unfolding write_call
write_most boxes table buffer = write_within buffer _ (write_numbered 16 boxes table (length buffer))

allowance_within : (o : Outcome Sheet) → Numbered o → (allowance_answer o).number ≤ 15
unfolding allowance_answer
allowance_within (refused n p) h = h.1
allowance_within (accepted r) h = omega arith

pub allowance_most : (sheet : List ℕ) → (allowance_call sheet).number ≤ 15
unfolding allowance_call
allowance_most sheet = allowance_within (read_sheet 16 sheet) (sheet_numbered 16 sheet)

hub_within : (w n : ℕ) (board : List ℕ) (o : Outcome Hub) → Numbered o → (hub_answer w n board o).number ≤ 15
unfolding hub_answer
hub_within w n board (refused m p) h = h.1
hub_within w n board (accepted a) h = omega arith

sheet_within : (w : ℕ) (board : List ℕ) (f : Sheet → Outcome Hub) (o : Outcome Sheet) → Numbered o → ((r : Sheet) → Numbered (f r)) → (on_sheet w board f o).number ≤ 15
unfolding on_sheet
sheet_within w board f (refused m p) h g = hub_within w 0 board (refused m p) h
sheet_within w board f (accepted r) h g = hub_within w r.boxes board (f r) (g r)

pub run_most : (sheet list board : List ℕ) → (run_call sheet list board).number ≤ 15
unfolding run_call
run_most sheet list board = sheet_within 16 board _ (read_sheet 16 sheet) (sheet_numbered 16 sheet) (running_numbered 16 20 list board)

pub drain_most : (sheet : List ℕ) (starts budget : ℕ) (board : List ℕ) → (drain_call sheet starts budget board).number ≤ 15
unfolding drain_call
drain_most sheet starts budget board = sheet_within 16 board _ (read_sheet 16 sheet) (sheet_numbered 16 sheet) (draining_numbered 16 20 starts budget board)
