-- An accepted run or drain, taken apart: its sheet was accepted, its list or start set checked, its board is long enough, and its answer is that of the hub
-- that the definitions come to. Assumes nothing.
use Rattle.std.specs.Prelude.{ℕ, ◌*◌, ◌%◌, ◌^◌, ◌≤◌, ◌<◌, ◌≡◌, false, not, ◌||◌, List, ◌≢◌, eqb, ltb, length, replicate}
use Rattle.std.proofs.Math.Path.{refl, ap}
use Rattle.std.proofs.Common.{◌∙◌, arith, ltb-false, leb-false}
use Rattle.std.proofs.lemmas.Bool.{eqb-false}
use Rattle.rules.specs.Sets.{word}
use Rattle.rules.specs.Outcome.{Outcome, refused, accepted, refuse, and_then}
use Rattle.rules.specs.Sheet.{Sheet, read_sheet}
use Rattle.rules.specs.Hub.{Hub}
use Rattle.rules.specs.Calls.{reading, read_answer, hub_answer, fitting, running, draining, on_sheet, read_call, run_call, drain_call, longest_list}
use Rattle.rules.specs.Rest.{Table}
use Rattle.sets.specs.Mem.{or_neither}
use Rattle.calls.specs.Refused.{Untouched, refused_run, refused_drain, Numbered, sheet_numbered, running_numbered, draining_numbered}
use Rattle.sheet_laws.specs.Conditions.{N}
use Rattle.sheet_laws.proofs.Pairs.{refuse_accepted}
use Rattle.sheet_laws.proofs.Accepted.{accepted_sheet, accepted_same, accepted_told}
use Rattle.order.specs.Terms.{Reached, begin}
use Rattle.order.proofs.Reached.{checked_names, run_reached, starts_reached, drain_reached}
use Rattle.promises.specs.Said.{Call, listed, drained, answer, table_of, hub_of, Checked, Opened}
use Rattle.promises.proofs.High.{low_set}

-- ---- the sheet

-- the table that a read fills in is that of the accepted sheet
pub table_read : (s : List ℕ) (r : Sheet) → read_sheet 16 s ≡ accepted r → table_of s ≡ r.table
unfolding table_of read_call reading read_answer and_then refuse
table_read s r e =
    ap (λ (o : Outcome Sheet). (read_answer (replicate 16 0) (and_then o (λ x. refuse (not (eqb (length {A = ℕ} (replicate 16 0)) 16)) 12 0 (accepted x)))).table) e

pub boxes_read : (s : List ℕ) (r : Sheet) → read_sheet 16 s ≡ accepted r → r.boxes ≡ N s
boxes_read s r e = ap (λ (x : Sheet). x.boxes) (accepted_sheet 16 s r e).answer

-- ---- what stands behind the number 0

-- the sheet and the hub of an accepted answer
pub record Behind (s board : List ℕ) (f : Sheet → Outcome Hub) : Type 0 where
  pub sheet : Sheet
  pub hub : Hub
  pub read : read_sheet 16 s ≡ accepted sheet
  pub done : f sheet ≡ accepted hub
  pub told : on_sheet 16 board f (read_sheet 16 s) ≡ hub_answer 16 sheet.boxes board (accepted hub)

module _ (s board : List ℕ) (f : Sheet → Outcome Hub) (some : (r : Sheet) → Numbered (f r)) where
  behind_hub : (r : Sheet) (p : Outcome Hub) → read_sheet 16 s ≡ accepted r → f r ≡ p → Numbered p → (hub_answer 16 r.boxes board p).number ≡ 0 → Behind s board f
  unfolding hub_answer on_sheet
  behind_hub r (refused n q) e d z u = absurd (omega (arith, z.0))
  behind_hub r (accepted h) e d z u = record {
    sheet = r;
    hub = h;
    read = e;
    done = d;
    told = ap (on_sheet 16 board f) e ∙ ap (hub_answer 16 r.boxes board) d;
  }

  behind_sheet : (o : Outcome Sheet) → read_sheet 16 s ≡ o → Numbered o → (on_sheet 16 board f o).number ≡ 0 → Behind s board f
  unfolding hub_answer on_sheet
  behind_sheet (refused n q) e z u = absurd (omega (arith, z.0))
  behind_sheet (accepted r) e z u = behind_hub r (f r) e refl (some r) u

  pub behind : (on_sheet 16 board f (read_sheet 16 s)).number ≡ 0 → Behind s board f
  behind u = behind_sheet (read_sheet 16 s) refl (sheet_numbered 16 s) u

-- ---- the checks that were passed

-- 12 and 13
fitted : (n : ℕ) (board : List ℕ) (g h : Hub) → fitting 16 n board g ≡ accepted h → (66 * n ≤ length board) × (g ≡ h)
unfolding fitting
fitted n board g h e =
    let (p, e1) = refuse_accepted _ 12 0 _ e in
    let (q, e2) = refuse_accepted _ 13 0 _ e1 in
    (omega (arith, ltb-false (length board) (66 * n) p), accepted_same e2)

-- 9
sized : (l : List ℕ) → eqb (length l % 2) 1 || ltb longest_list (length l) ≡ false → (length l % 2 ≡ 0) × (length l ≤ longest_list)
sized l e =
    let (p, q) = or_neither (eqb (length l % 2) 1) (ltb longest_list (length l)) e in
    let z : length l % 2 ≢ 1 = eqb-false (length l % 2) 1 p in
    (omega arith, omega (arith, ltb-false longest_list (length l) q))

-- ---- the record of the demands

-- what the number 0 says of the sheet
pub record Good (s : List ℕ) : Type 0 where
  pub some_box : 1 ≤ N s
  pub few_boxes : N s ≤ 16
  pub table : Table 16 (table_of s)
  pub below : (i : ℕ) → word (table_of s) i < 2 ^ N s

pub good : (s : List ℕ) (r : Sheet) → read_sheet 16 s ≡ accepted r → Good s
good s r e =
    let a = accepted_told 16 s r e in
    let b = boxes_read s r e in
    let t = table_read s r e in
    record {
      some_box = rw b at a.some_box;
      few_boxes = rw b at a.few_boxes;
      table = rw t a.table_good;
      below = λ i. rw (t, ← b) (low_set r.boxes (word r.table i) (λ k m. a.names_below i k m));
    }

module _ (s : List ℕ) (call : Call) (board : List ℕ) (n : ℕ) (h : Hub) where
  -- the answer of a hub, field by field
  opens : Good s → n ≡ N s → hub_of s call ≡ h → Checked (N s) (table_of s) call → 66 * n ≤ length board → Reached 16 20 (table_of s) h
      → answer s call board ≡ hub_answer 16 n board (accepted h) → Opened s call board
  unfolding hub_answer
  opens g b k c l r e = record {
    some_box = g.some_box;
    few_boxes = g.few_boxes;
    table = g.table;
    below = g.below;
    checked = c;
    long = rw b at l;
    reached = rw k r;
    sent = rw (e, k);
    moved = rw (e, k);
    way = rw (e, k);
    finished = rw (e, k);
    board = rw (e, k, b);
  }

opened_run : (s l board : List ℕ) → (run_call s l board).number ≡ 0 → Opened s (listed l) board
unfolding run_call running
opened_run s l board u =
    let x = behind s board (running 16 20 l board) (running_numbered 16 20 l board) u in
    let r = x.sheet in
    let (p, e1) = refuse_accepted _ 9 0 _ x.done in
    let (m, e2) = checked_names r.boxes r.boxes r.table 0 l _ x.hub (omega arith) e1 in
    let (v, e3) = fitted r.boxes board _ x.hub e2 in
    let g = good s r x.read in
    let b = boxes_read s r x.read in
    let t = table_read s r x.read in
    let (o, e4) = checked_names 16 r.boxes r.table 0 l _ x.hub (omega (arith, g.few_boxes)) e1 in
    let (y, z) = sized l p in
    opens s (listed l) board r.boxes x.hub g b (rw t e3) (rw (t, ← b) (y, z, m)) v
    (rw (t, ← e3) (run_reached 16 20 r.table l _ o begin)) x.told

opened_drain : (s : List ℕ) (starts budget : ℕ) (board : List ℕ) → (drain_call s starts budget board).number ≡ 0 → Opened s (drained starts budget) board
unfolding drain_call draining
opened_drain s starts budget board u =
    let x = behind s board (draining 16 20 starts budget board) (draining_numbered 16 20 starts budget board) u in
    let r = x.sheet in
    let (p, e1) = refuse_accepted _ 10 0 _ x.done in
    let (v, e3) = fitted r.boxes board _ x.hub e1 in
    let g = good s r x.read in
    let b = boxes_read s r x.read in
    let t = table_read s r x.read in
    opens s (drained starts budget) board r.boxes x.hub g b (rw t e3) (rw (← b) (leb-false _ _ p)) v
    (rw (t, ← e3) (drain_reached 16 20 r.table budget _ (starts_reached 16 20 r.table starts _ begin))) x.told

pub opened : (s : List ℕ) (call : Call) (board : List ℕ) → (answer s call board).number ≡ 0 → Opened s call board
opened s (listed l) board u = opened_run s l board u
opened s (drained starts budget) board u = opened_drain s starts budget board u

-- ---- a refusal

pub refused_call : (s : List ℕ) (call : Call) (board : List ℕ) → (answer s call board).number ≢ 0 → Untouched board (answer s call board)
refused_call s (listed l) board z = refused_run s l board z
refused_call s (drained starts budget) board z = refused_drain s starts budget board z
