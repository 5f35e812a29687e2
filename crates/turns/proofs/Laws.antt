-- What the calls of turns come to in their definitions: each law takes what the callees promise, and gives what the function promises. Assumes nothing.
use Rattle.std.proofs.Common.{◌≡◌, ℕ, zero, suc, ◌+◌, ◌*◌, ◌/◌, ◌<◌, ◌≤◌, false, cond, ◌||◌, List, [], ◌∷◌, length, eqb, ltb, refl, ap, ◌∙◌, arith, ne_eqb}
use borrow.Author.Tests.{ltb-true}
use Rattle.std.specs.Simd.{first_chunks}
use Rattle.rules.specs.Sets.{word}
use Rattle.sets.specs.Loops.{by_bool, pick}
use Rattle.tables.specs.Tables.{laid}
use Rattle.boxes.specs.Record.{Record}
use Rattle.boxes.specs.Departure.{Departure}
use Rattle.turn.specs.declared.Carried.{Carried}
use Rattle.turn.specs.Turn.{Turn, Pair, pair_of, next_pair, took_pair, took_def, next_turn, put_def}
use Rattle.turn.specs.Code.{flat, first_carried}
use Rattle.turns.specs.Turns.{Going, turn_def, turns_def, first_turn, asleep_row, own_def}
use Rattle.turns.specs.Parts.{Ran, going_with, ran_of}

-- ---- a turn, and turns

pub turns_over : (t : ℕ) (ls : List ℕ) (g : Going) → g.turn.left ≡ 0 → turns_def t ls g ≡ g
unfolding turns_def
turns_over zero ls g e = refl
turns_over (suc t) ls g e = rw e

pub turns_on : (t : ℕ) (ls : List ℕ) (g h : Going) → 1 ≤ g.turn.left → h ≡ turn_def ls g → turns_def (suc t) ls g ≡ turns_def t ls h
unfolding turns_def
turns_on t ls g h l e = let n : eqb g.turn.left 0 ≡ false = ne_eqb g.turn.left 0 (λ z. omega arith) in rw (n, e)

-- each turn leaves fewer, whatever its step sends
put_less : (t : ℕ) (s : List ℕ) (o : Departure) (c : Turn) → c.left ≤ suc t → (put_def s o c).turn.left ≤ t
unfolding put_def next_turn
put_less t s o c l = pick (λ (k : ℕ). k ≤ t) (ltb c.at c.pairs || o.moved) (omega arith) (omega arith)

pub turn_less : (t : ℕ) (ls : List ℕ) (g h : Going) → g.turn.left ≤ suc t → h ≡ turn_def ls g → h.turn.left ≤ t
unfolding turn_def
turn_less t ls g h l e = rw e (put_less t _ _ g.turn l)

pub turn_pairs : (ls : List ℕ) (g h : Going) → h ≡ turn_def ls g → h.turn.pairs ≡ g.turn.pairs
unfolding turn_def put_def next_turn
turn_pairs ls g h e = rw e

-- ---- lists that have the same pairs

-- two lists agree in the words of so many pairs
abbrev pub Agree : ℕ → List ℕ → List ℕ → Type 0
Agree pairs ls ls' = (k : ℕ) → k < pairs * 2 → word ls k ≡ word ls' k

pair_agrees : (ls ls' busy : List ℕ) (at pairs : ℕ) → Agree pairs ls ls' → pair_of ls at pairs busy ≡ pair_of ls' at pairs busy
pair_agrees ls ls' busy at pairs same =
    by_bool (ltb at pairs)
    (λ e. let l : at < pairs = ltb-true at pairs e in rw (e, same (at * 2) (omega arith), same (at * 2 + 1) (omega arith)))
    (λ e. rw e refl)

took_agrees : (ls ls' s : List ℕ) (c : Turn) → Agree c.pairs ls ls' → took_def ls s c ≡ took_def ls' s c
unfolding took_def next_pair
took_agrees ls ls' s c same = ap (λ (p : Pair). took_pair c p s) (pair_agrees ls ls' c.busy c.at c.pairs same)

turn_agrees : (ls ls' : List ℕ) (g : Going) → Agree g.turn.pairs ls ls' → turn_def ls g ≡ turn_def ls' g
unfolding turn_def
turn_agrees ls ls' g same = rw (took_agrees ls ls' g.store g.turn same)

pub turns_agree : (n : ℕ) (ls ls' : List ℕ) (g : Going) → Agree g.turn.pairs ls ls' → turns_def n ls g ≡ turns_def n ls' g
unfolding turns_def
turns_agree zero ls ls' g same = refl
turns_agree (suc n) ls ls' g same =
    let e : turn_def ls g ≡ turn_def ls' g = turn_agrees ls ls' g same in
    let kept : (turn_def ls' g).turn.pairs ≡ g.turn.pairs = turn_pairs ls' g (turn_def ls' g) refl in
    ap (cond (eqb g.turn.left 0) g) (ap (turns_def n ls) e ∙ turns_agree n ls ls' (turn_def ls' g) (λ k l. same k (rw kept at l)))

-- the bytes of a list's pairs are those of the list
chunks_agree : (n : ℕ) (ls : List ℕ) → n * 2 ≤ length ls → Agree n (flat (first_chunks 2 n ls)) ls
unfolding flat
chunks_agree zero ls h k l = absurd (omega arith)
chunks_agree (suc n) [] h k l = absurd (omega arith)
chunks_agree (suc n) (x ∷ []) h k l = absurd (omega arith)
chunks_agree (suc n) (x ∷ (y ∷ ls)) h zero l = refl
chunks_agree (suc n) (x ∷ (y ∷ ls)) h (suc zero) l = refl
chunks_agree (suc n) (x ∷ (y ∷ ls)) h (suc (suc k)) l = chunks_agree n ls (omega arith) k (omega arith)

-- ---- the whole

pub own_is : (list links : List ℕ) (budget : ℕ) (pairs : List (List ℕ)) (first : Carried) (r : Ran) → pairs ≡ first_chunks 2 (length list / 2) list → length pairs ≡ length list / 2
    → first ≡ first_carried (length pairs + budget) → r ≡ ran_of (turns_def first.left (flat pairs) (going_with asleep_row (laid links) first (length pairs))) → r ≡ ran_of (own_def list links budget)
unfolding own_def first_turn
own_is list links budget pairs first r ep el ef e =
    let n : ℕ = length list / 2 in
    let start : Going = going_with asleep_row (laid links) (first_carried (n + budget)) n in
    e ∙ rw (ef, el, ep) (ap ran_of (turns_agree (n + budget) (flat (first_chunks 2 n list)) list start (chunks_agree n list (omega arith))))
