-- The line of a route, how many bytes the routes have, and the whole text. Assumes nothing.
use Prim.Native.Nat.{ℕ, zero, suc, ◌+◌, ◌-◌, ◌*◌, ◌^◌, ◌≤◌, ◌<◌}
use native.Mathlib.Omega.{arith}
use native.Mathlib.Nat.{suc-mul}
use mathlib.Core.Path.{◌≡◌, refl, sym, ap, ◌∙◌}
use mathlib.Core.Bool.{cond}
use mathlib.Core.List.{List, [], ◌++◌}
use borrow.Author.Tests.{lt-ltb, le-ltb, eq-eqb, ne_eqb}
use lib.Dec.{eqb, ltb}
use lib.ListN.{length, take, drop, length-append, length-drop, replicate}
use lib.Seq.{length-take-le, get_or-take, get_or-drop}
use Rattle.std.specs.List.{position_or_len, position}
use Rattle.std.specs.Option.{unwrap_or}
use Rattle.std.proofs.Common.{Option, Some, None, Ok}
use native.Mathlib.Decide.{dec_lt}
use Rattle.std.proofs.lemmas.List.Quantifiers.{position-Some}
use Rattle.std.proofs.lemmas.List.Recursion.{is_position_or_len}
use Rattle.rules.specs.Sets.{mem, word, least, each}
use Rattle.sets.specs.Loops.{by_bool, least_le, least_same}
use Rattle.rules.specs.Outcome.{Outcome, refused, accepted}
use Rattle.rules.specs.Sheet.{Sheet as SheetRead, read_sheet}
use Rattle.rules.specs.Calls.{drain_call}
use Rattle.sheet.specs.Answers.{Parsed, parsed_answer, ParsedFrom}
use Rattle.hub.specs.Answers.{answer_of}
use Rattle.hub.specs.declared.Answer.{Answer}
use Rattle.hub.proofs.CallLaws.{told, drain_sheet}
use Rattle.lines.specs.Lines.{heading, line, refusal}
use Rattle.lines.proofs.LineLaws.{line_most}
use Rattle.text.specs.Text.{first_with, nodes_at, in_spt_at, route, routes, boxes_of, links_of, answered, printed, printed_in}

-- ---- the first word that has an origin: where the library's search finds it

place_is : (j : ℕ) (xs : List ℕ) → least (length xs) (λ k. mem j (word xs k)) ≡ position_or_len (mem j) xs
unfolding least
place_is j xs =
    is_position_or_len (λ (l : List ℕ). least (length l) (λ k. mem j (word l k))) (mem j) refl
    (λ x l. ap (λ (r : ℕ). cond (mem j x) 0 r) (omega arith)) xs

first_most : (board : List ℕ) (at j : ℕ) → first_with board at j ≤ 16
unfolding first_with
first_most board at j = least_le 16 (λ k. mem j (word board (at + k)))

first_place : (board : List ℕ) (at n j : ℕ) → n ≡ 16 → at + 16 ≤ length board → position_or_len (mem j) (take n (drop at board)) ≡ first_with board at j
unfolding first_with
first_place board at n j e h =
    let xs : List ℕ = take n (drop at board) in
    let l : length xs ≡ 16 = omega (arith, length-take-le n (drop at board) (omega (arith, length-drop at board))) in
    sym (place_is j xs)
    ∙ ap (λ (m : ℕ). least m (λ k. mem j (word xs k))) l
    ∙ least_same 16 _ _ (λ k b. ap (mem j) (get_or-take n (drop at board) k 0 (omega arith) ∙ get_or-drop at board k 0))

-- what is found in a table of the board; 16 stands for none
module _ (board : List ℕ) (at n j : ℕ) (e : n ≡ 16) (h : at + 16 ≤ length board) (r : Option ℕ) (found : r ≡ position (mem j) (take n (drop at board))) where
  first_found : unwrap_or r 16 ≡ first_with board at j
  first_found =
      let xs : List ℕ = take n (drop at board) in
      let l : length xs ≡ 16 = omega (arith, length-take-le n (drop at board) (omega (arith, length-drop at board))) in
      let p = first_place board at n j e h in
      rw found
      (elim (dec_lt (position_or_len (mem j) xs) (length xs)) [
        | yes less ↦ rw (lt-ltb (position_or_len (mem j) xs) (length xs) less) p
        | no most ↦
            rw (le-ltb (position_or_len (mem j) xs) (length xs) (omega arith)) (omega (arith, p, first_most board at j, most))
      ])

  first_below : (k : ℕ) → r ≡ Some k → k < 16
  first_below k s =
      let l = (position-Some (mem j) (take n (drop at board)) k 0 (sym found ∙ s)).0 in
      omega (arith, l, length-take-le n (drop at board) (omega (arith, length-drop at board)))

-- ---- the line of a route

module _ (board : List ℕ) (i j : ℕ) where
  pub route_self : i ≡ j → route board i j ≡ []
  unfolding route
  route_self e = rw (eq-eqb i j e)

  module _ (other : i ≡ j → ⊥) where
    pub route_far : 16 ≤ first_with board (nodes_at i) j → route board i j ≡ []
    unfolding route
    route_far l = rw (ne_eqb i j other, le-ltb (first_with board (nodes_at i) j) 16 l)

    pub route_line : first_with board (nodes_at i) j < 16 → route board i j ≡ line i j (first_with board (nodes_at i) j) (first_with board (in_spt_at i) j)
    unfolding route
    route_line l = rw (ne_eqb i j other, lt-ltb (first_with board (nodes_at i) j) 16 l)

-- the same of what is found in the two tables of box i
module _ (board : List ℕ) (i j n : ℕ) (l : length board ≡ 1056) (b : i < 16) (e : n ≡ 16) (other : i ≡ j → ⊥)
    (r : Option ℕ) (nodes : r ≡ position (mem j) (take n (drop (nodes_at i) board))) where
  number : unwrap_or r 16 ≡ first_with board (nodes_at i) j
  number = first_found board (nodes_at i) n j e (omega arith) r nodes

  pub route_none : r ≡ None → route board i j ≡ []
  route_none f = let none = ap (λ (o : Option ℕ). unwrap_or o 16) f in route_far board i j other (omega (arith, none, number))

  pub route_some : (hops from m : ℕ) (s : Option ℕ) → r ≡ Some hops → m ≡ 16 → s ≡ position (mem j) (take m (drop (in_spt_at i) board)) → from ≡ unwrap_or s 16
      → route board i j ≡ line i j hops from
  route_some hops from m s f k in_spt u =
      let h : hops ≡ first_with board (nodes_at i) j = sym (ap (λ (o : Option ℕ). unwrap_or o 16) f) ∙ number in
      let below : hops < 16 = first_below board (nodes_at i) n j e (omega arith) r nodes hops f in
      let g : from ≡ first_with board (in_spt_at i) j = u ∙ first_found board (in_spt_at i) m j k (omega arith) s in_spt in
      route_line board i j other (rw h at below) ∙ sym (rw (h, g))

-- ---- a buffer of 4,096 bytes holds every text

each_most : {A : Type 0} (n m : ℕ) (f : ℕ → List A) → ((k : ℕ) → k < n → length (f k) ≤ m) → length (each n f) ≤ n * m
unfolding each
each_most zero m f h = omega arith
each_most (suc n) m f h =
    rw (suc-mul n m) (omega (arith, length-append (each n f) (f n), each_most n m f (λ k l. h k (omega arith)), h n (omega arith)))

route_most : (board : List ℕ) (i j : ℕ) → i < 16 → j < 16 → length (route board i j) ≤ 12
unfolding route
route_most board i j a b =
    by_bool (eqb i j) (λ e. rw e (omega arith))
    (λ e. by_bool (ltb (first_with board (nodes_at i) j) 16)
    (λ t. rw (e, t) (line_most i j _ _ a b (first_most board (nodes_at i) j) (first_most board (in_spt_at i) j)))
    (λ t. rw (e, t) (omega arith)))

pub routes_most : (board : List ℕ) (n : ℕ) → n ≤ 16 → length (routes board n) ≤ 3072
unfolding routes
routes_most board n h =
    omega (arith, each_most n 192 (λ i. each n (route board i)) (λ i l. omega (arith, each_most n 12 (route board i) (λ j k. route_most board i j (omega arith) (omega arith)))))

-- ---- the whole text

pub printed_short : (sheet text : List ℕ) → length text < 4096 → printed_in sheet text ≡ []
unfolding printed_in
printed_short sheet text h = rw (lt-ltb (length text) 4096 h)

pub printed_fits : (sheet text : List ℕ) → 4096 ≤ length text → printed_in sheet text ≡ printed sheet
unfolding printed_in
printed_fits sheet text h = rw (le-ltb (length text) 4096 h)

boxes_parsed : (o : Outcome SheetRead) → (parsed_answer o).boxes ≡ boxes_of o
unfolding parsed_answer boxes_of
boxes_parsed (refused n p) = refl
boxes_parsed (accepted r) = refl

links_parsed : (o : Outcome SheetRead) → (parsed_answer o).links ≡ links_of o
unfolding parsed_answer links_of
links_parsed (refused n p) = refl
links_parsed (accepted r) = refl

-- what the sheet's reader, the set of all boxes and the drain answer, in the words of the text
module _ (sheet : List ℕ) (p : Parsed) (read : ParsedFrom sheet p) where
  text_is : printed sheet ≡ answered p.boxes p.links (drain_call sheet (2 ^ p.boxes - 1) 4560 (replicate 1056 0))
  unfolding printed
  text_is =
      let b : p.boxes ≡ boxes_of (read_sheet 16 sheet) = ap (λ (q : Parsed). q.boxes) read.read ∙ boxes_parsed (read_sheet 16 sheet) in
      let l : p.links ≡ links_of (read_sheet 16 sheet) = ap (λ (q : Parsed). q.links) read.read ∙ links_parsed (read_sheet 16 sheet) in
      rw (b, l)

  refused_text : (k : ℕ) (board : List ℕ) → (k ≡ 0 → ⊥) → told k board ≡ drain_call sheet (2 ^ p.boxes - 1) 4560 (replicate 1056 0) → printed sheet ≡ refusal k
  unfolding answered
  refused_text k board f e = text_is ∙ rw (← e, ne_eqb k 0 f)

  -- a sheet that is refused
  pub text_unread : (p.number ≡ 0 → ⊥) → printed sheet ≡ refusal p.number
  text_unread f = refused_text p.number (replicate 1056 0) f (drain_sheet read (replicate 1056 0) (2 ^ p.boxes - 1) 4560 f)

  module _ (s : ℕ) (every : s ≡ 2 ^ p.boxes - 1) (board : List ℕ) where
    pub text_refused : (k : ℕ) → (k ≡ 0 → ⊥) → told k board ≡ drain_call sheet s 4560 (replicate 1056 0) → printed sheet ≡ refusal k
    text_refused k f e = refused_text k board f (e ∙ ap (λ (z : ℕ). drain_call sheet z 4560 (replicate 1056 0)) every)

    pub text_done : (a : Answer) → answer_of (Ok a) board ≡ drain_call sheet s 4560 (replicate 1056 0) → printed sheet ≡ heading p.boxes p.links a.moved ++ routes board p.boxes
    unfolding answered
    text_done a e = text_is ∙ rw (← every, ← e)
