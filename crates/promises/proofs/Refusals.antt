-- A run or a drain gives the number of the first line that applies, and 0 where none does. Assumes nothing.
use Prim.Native.Nat.{ℕ, zero, suc, ◌+◌, ◌*◌, ◌/◌, ◌%◌, ◌≤◌, ◌<◌}
use Rattle.std.specs.Prelude.{◌≡◌, refl, Bool, true, List, [], ◌∷◌, ◌++◌, ◌≢◌, ◌↔◌, length, take, drop}
use Rattle.std.proofs.Common.{sym, ap, ◌∙◌, true≢false, inl, ⊎_elim, lit≤, take_all}
use native.Mathlib.Omega.{arith}
use Rattle.rules.specs.Sets.{mem, word}
use Rattle.rules.specs.Outcome.{Outcome, refused, accepted, and_then}
use Rattle.rules.specs.Sheet.{Sheet, read_sheet}
use Rattle.rules.specs.Hub.{Hub, sleeping}
use Rattle.rules.specs.Rest.{wire_count}
use Rattle.rules.specs.Calls.{hub_answer, check_pairs, fitting, running, draining, on_sheet, run_call, drain_call, longest_list}
use Rattle.sheet_laws.specs.Conditions.{Line, line, First, None, N, P, Linked, pair_lines, sheet_lines}
use Rattle.sheet_laws.specs.Answers.{Tests, ltb_tests, leb_tests, eqb_tests, not_tests, or_tests, and_tests, Answers, accepted_answers, refuse_answers, then_answers, none_append, first_append}
use Rattle.sheet_laws.specs.Said.{Joins, Counted}
use Rattle.sheet_laws.proofs.Refusals.{two_more, read_sheet_answers}
use Rattle.sheet_laws.proofs.Accepted.{accepted_sheet, accepted_told}
use Rattle.sheet_laws.proofs.LinksOf.{links_of_lem}
use Rattle.sheet_laws.proofs.Numbers.{number_of, Numbered, numbered_append, sheet_numbered, counted}
use Rattle.order.specs.Terms.{Reached, begin}
use Rattle.order.proofs.Reached.{checked_names, run_reached, starts_reached, drain_reached}
use Rattle.order.proofs.Promises.{never_full}
use Rattle.promises.specs.Said.{Call, listed, drained, answer, table_of, hub_of}
use Rattle.promises.specs.Conditions.{first_of, second_of, Cond12, Cond13, list_lines, ask_lines, call_lines}
use Rattle.promises.proofs.High.{high_tests}
use Rattle.promises.proofs.Opens.{table_read, boxes_read, good}
use Rattle.promises.proofs.Most.{two_wires}

-- ---- the tests

true_tests : (b : Bool) → Tests b (b ≡ true)
true_tests b = record { holds = λ e. e; fails = λ e h. true≢false (sym h ∙ e) }

-- 12 and 13
abbrev room_lines : ℕ → List ℕ → Hub → List Line
room_lines n board h = line 12 0 (length board < 66 * n) ∷ line 13 0 (h.full ≡ true) ∷ []

fitting_answers : (n : ℕ) (board : List ℕ) (h : Hub) → Answers (fitting 16 n board h) (room_lines n board h)
unfolding fitting
fitting_answers n board h =
    refuse_answers _ 12 0 _ _ (ltb_tests (length board) (66 * n)) (λ c12. refuse_answers _ 13 0 _ _ (true_tests h.full) (λ c13. accepted_answers h))

-- 10 and 11, pair by pair, before what comes after the list
module _ {A : Type 0} (s l : List ℕ) (o : Outcome A) (ls : List Line) (after : Answers o ls) where
  check_answers : (m i : ℕ) → 2 * (i + m) ≤ length l → Answers (check_pairs (N s) (table_of s) i (take (2 * m) (drop (2 * i) l)) o) (list_lines s l i m ++ ls)
  unfolding check_pairs
  check_answers zero i h = after
  check_answers (suc m) i h =
      let k : 2 * i + 2 ≡ 2 * suc i = omega arith in
      rw (two_more l (2 * i) m (omega arith), k)
      (refuse_answers _ 10 i _ _ (or_tests _ _ (leb_tests (N s) (first_of l i)) (leb_tests (N s) (second_of l i))) (λ c10.
      refuse_answers _ 11 i _ _
      (and_tests _ _ (not_tests _ (eqb_tests (first_of l i) (second_of l i))) (not_tests _ (true_tests (mem (second_of l i) (word (table_of s) (first_of l i)))))) (λ c11.
      check_answers m (suc i) (omega arith))))

  list_answers : length l % 2 ≡ 0 → Answers (check_pairs (N s) (table_of s) 0 l o) (list_lines s l 0 (length l / 2) ++ ls)
  list_answers e =
      rw (take_all (2 * (length l / 2)) l (omega arith)) at (check_answers (length l / 2) 0 (omega arith))

-- ---- the calls

even : (n : ℕ) → ((n % 2 ≡ 1) → ⊥) → n % 2 ≡ 0
even n h = omega arith

run_answers : (s l board : List ℕ) (r : Sheet) → read_sheet 16 s ≡ accepted r
    → Answers (running 16 20 l board r) (ask_lines s (listed l) ++ (line 12 0 (Cond12 s board) ∷ line 13 0 (Cond13 s (listed l)) ∷ []))
unfolding running
run_answers s l board r e =
    rw (boxes_read s r e, ← table_read s r e)
    (refuse_answers _ 9 0 _ _ (or_tests _ _ (eqb_tests (length l % 2) 1) (ltb_tests longest_list (length l))) (λ c9.
    list_answers s l _ _ (fitting_answers (N s) board (hub_of s (listed l))) (even (length l) (λ o. c9 (inl o)))))

drain_answers : (s : List ℕ) (starts budget : ℕ) (board : List ℕ) (r : Sheet) → read_sheet 16 s ≡ accepted r
    → Answers (draining 16 20 starts budget board r)
    (ask_lines s (drained starts budget) ++ (line 12 0 (Cond12 s board) ∷ line 13 0 (Cond13 s (drained starts budget)) ∷ []))
unfolding draining
drain_answers s starts budget board r e =
    rw (boxes_read s r e, ← table_read s r e)
    (refuse_answers _ 10 0 _ _ (high_tests (N s) starts) (λ c10. fitting_answers (N s) board (hub_of s (drained starts budget))))

-- the lines have numbers from 1 on
list_numbered : (s l : List ℕ) (m i : ℕ) → Numbered (list_lines s l i m)
list_numbered s l zero i = tt
list_numbered s l (suc m) i = (lit≤ tt, (lit≤ tt, list_numbered s l m (suc i)))

ask_numbered : (s : List ℕ) (call : Call) → Numbered (ask_lines s call)
ask_numbered s (listed l) = (lit≤ tt, list_numbered s l (length l / 2) 0)
ask_numbered s (drained starts budget) = (lit≤ tt, tt)

-- the number of a call is that of its outcome
hub_same : (n : ℕ) (board : List ℕ) (p : Outcome Hub) → number_of p ≡ (hub_answer 16 n board p).number
unfolding hub_answer
hub_same n board (refused m q) = refl
hub_same n board (accepted h) = refl

sheet_same : (board : List ℕ) (f : Sheet → Outcome Hub) (o : Outcome Sheet) → number_of (and_then o f) ≡ (on_sheet 16 board f o).number
unfolding on_sheet and_then hub_answer
sheet_same board f (refused m q) = refl
sheet_same board f (accepted r) = hub_same r.boxes board (f r)

call_counted : (s : List ℕ) (call : Call) (board : List ℕ) (f : Sheet → Outcome Hub)
    → ((r : Sheet) → read_sheet 16 s ≡ accepted r → Answers (f r) (ask_lines s call ++ (line 12 0 (Cond12 s board) ∷ line 13 0 (Cond13 s call) ∷ [])))
    → Counted (on_sheet 16 board f (read_sheet 16 s)).number (call_lines s call board)
call_counted s call board f a =
    rw (sheet_same board f (read_sheet 16 s)) at
    (counted (and_then (read_sheet 16 s) f) (call_lines s call board)
    (numbered_append (sheet_lines 16 s) _ (sheet_numbered 16 s) (numbered_append (ask_lines s call) _ (ask_numbered s call) (lit≤ tt, (lit≤ tt, tt))))
    (then_answers (read_sheet 16 s) f _ _ (read_sheet_answers s 16) a))

pub call_number : (s : List ℕ) (call : Call) (board : List ℕ) → Counted (answer s call board).number (call_lines s call board)
unfolding run_call drain_call
call_number s (listed l) board = call_counted s (listed l) board (running 16 20 l board) (run_answers s l board)
call_number s (drained starts budget) board =
    call_counted s (drained starts budget) board (draining 16 20 starts budget board) (drain_answers s starts budget board)

-- ---- 13 is never given

-- where no line of the sheet or of the list applies, starts and deliveries lead to the hub
asked_reached : (s : List ℕ) (call : Call) → N s ≤ 16 → None (ask_lines s call) → Reached 16 20 (table_of s) (hub_of s call)
asked_reached s (listed l) h n =
    let (a, e) = (list_answers s l (accepted l) [] (accepted_answers l) (even (length l) (λ o. n.0 (inl o)))).accepts.1 ((none_append (list_lines s l 0 (length l / 2)) []).1 (n.1, tt)) in
    run_reached 16 20 (table_of s) l (sleeping 16) (checked_names 16 (N s) (table_of s) 0 l (accepted l) a h e).0 begin
asked_reached s (drained starts budget) h n = drain_reached 16 20 (table_of s) budget _ (starts_reached 16 20 (table_of s) starts (sleeping 16) begin)

pub never_21 : (s : List ℕ) (call : Call) → None (sheet_lines 16 s) → None (ask_lines s call) → Cond13 s call → ⊥
never_21 s call n m f =
    let (r, e) = (read_sheet_answers s 16).accepts.1 n in
    let g = good s r e in
    true≢false (sym f ∙ never_full 16 (table_of s) g.table 20 (lit≤ tt) (hub_of s call) (asked_reached s call g.few_boxes m))

-- so the budget has no say in whether a drain is accepted
pub any_budget : (s : List ℕ) (starts b c : ℕ) (board : List ℕ) → (drain_call s starts b board).number ≡ 0 → (drain_call s starts c board).number ≡ 0
any_budget s starts b c board e =
    let room : ℕ → List Line = λ n. line 12 0 (Cond12 s board) ∷ line 13 0 (Cond13 s (drained starts n)) ∷ [] in
    let ask : List Line = ask_lines s (drained starts b) in
    let (n, u) = (none_append (sheet_lines 16 s) (ask ++ room b)).0 ((call_number s (drained starts b) board).zero_none.0 e) in
    let (m, v) = (none_append ask (room b)).0 u in
    (call_number s (drained starts c) board).zero_none.1
    ((none_append (sheet_lines 16 s) (ask ++ room c)).1 (n, (none_append ask (room c)).1 (m, (v.0, (never_21 s (drained starts c) n m, tt)))))

-- no line has a number above m
abbrev Upto : ℕ → List Line → Type 0
Upto m [] = Unit {0}
Upto m (l ∷ ls) = (l.number ≤ m) × Upto m ls

upto_first : (m : ℕ) (ls : List Line) (n p : ℕ) → Upto m ls → First ls n p → n ≤ m
upto_first m [] n p h = λ z. absurd z
upto_first m (l ∷ ls) n p h = ⊎_elim (λ u. let (c, e, f) = u in omega (arith, h.0)) (λ u. upto_first m ls n p h.1 u.1)

pairs_upto : (s : List ℕ) (m i : ℕ) → Upto 11 (pair_lines s i m)
pairs_upto s zero i = tt
pairs_upto s (suc m) i = (lit≤ tt, (lit≤ tt, (lit≤ tt, pairs_upto s m (suc i))))

list_upto : (s l : List ℕ) (m i : ℕ) → Upto 11 (list_lines s l i m)
list_upto s l zero i = tt
list_upto s l (suc m) i = (lit≤ tt, (lit≤ tt, list_upto s l m (suc i)))

ask_upto : (s : List ℕ) (call : Call) → Upto 11 (ask_lines s call)
ask_upto s (listed l) = (lit≤ tt, list_upto s l (length l / 2) 0)
ask_upto s (drained starts budget) = (lit≤ tt, tt)

pub never_13 : (s : List ℕ) (call : Call) (board : List ℕ) → (answer s call board).number ≢ 13
never_13 s call board e =
    let (p, f) = ((call_number s call board).first_number 12).0 e in
    ⊎_elim
    (λ u. omega (arith, upto_first 11 (sheet_lines 16 s) 13 p (lit≤ tt, (lit≤ tt, (lit≤ tt, (lit≤ tt, (lit≤ tt, pairs_upto s (P s) 0))))) u))
    (λ u.
    ⊎_elim
    (λ v. omega (arith, upto_first 11 (ask_lines s call) 13 p (ask_upto s call) v))
    (λ v. ⊎_elim (λ x. let (a, b, c) = x in omega arith) (λ x. ⊎_elim (λ y. never_21 s call u.0 v.0 y.0) (λ y. y.1) x.1) v.1)
    ((first_append (ask_lines s call) _ 13 p).0 u.1))
    ((first_append (sheet_lines 16 s) _ 13 p).0 f)

-- ---- the sheet of an accepted call

module _ (s : List ℕ) (call : Call) (board : List ℕ) (ok : (answer s call board).number ≡ 0) where
  call_read : (r : Sheet) × (read_sheet 16 s ≡ accepted r)
  call_read = (read_sheet_answers s 16).accepts.1 ((none_append (sheet_lines 16 s) _).0 ((call_number s call board).zero_none.0 ok)).0

  pub call_links : (i j : ℕ) → Linked (table_of s) i j ↔ ((k : ℕ) × (k < P s) × Joins s k i j)
  call_links i j = let (r, e) = call_read in rw (table_read s r e) (links_of_lem 16 s r e i j)

  pub call_wires : wire_count 16 (table_of s) ≡ 2 * P s
  call_wires =
      let (r, e) = call_read in
      let a = accepted_told 16 s r e in
      let p : r.links ≡ P s = ap (λ (x : Sheet). x.links) (accepted_sheet 16 s r e).answer in
      rw (table_read s r e) (two_wires 16 r.table a.table_good ∙ ap (λ (n : ℕ). 2 * n) (a.links_all ∙ p))
