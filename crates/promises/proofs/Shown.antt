-- What the board of an accepted answer shows of the hub behind it, and the end of a call with none under way. Assumes nothing.
use Rattle.std.specs.Prelude.{ℕ, ◌+◌, ◌*◌, ◌≤◌, ◌<◌, ◌≡◌, refl, true, false, ◌&&◌, ◌⊎◌, ◌↔◌, eqb, drop}
use Rattle.std.proofs.Common.{sym, ◌∙◌, true≢false, inl, inr, ⊎_elim, lit≤, eqb-true}
use Rattle.std.proofs.Math.Path.{ap}
use mathlib.Core.List.{List, [], ◌∷◌, ◌++◌}
use native.Mathlib.Omega.{arith}
use Rattle.rules.specs.Sets.{mem, word}
use Rattle.rules.specs.Box.{asleep}
use Rattle.rules.specs.Hub.{Hub, sleeping, start, start_all, block, board_of, under_way}
use Rattle.rules.specs.Calls.{Ran, drain_call}
use Rattle.rules.specs.Rest.{at_rest, reached, enough}
use Rattle.sets.specs.Mem.{in_lt, and_both, bool_ext}
use Rattle.sets.specs.Loops.{by_bool, each_same, for_each_keeps}
use Rattle.order.specs.Terms.{Reached, begin, Names, asks, Final, Alike}
use Rattle.order.proofs.Started.{starts_is}
use Rattle.order.proofs.Rest.{together_lt}
use Rattle.order.proofs.Groups.{group_low, reached_out}
use Rattle.order.proofs.Kept.{start_moved}
use Rattle.order.proofs.Promises.{stopped_tables, asleep_tables, list_end, drain_end, ends_alike, starts_lead, drain_within, drain_ends, drain_finishes}
use Rattle.sheet_laws.specs.Conditions.{N}
use Rattle.promises.specs.Said.{Call, listed, drained, answer, after, starting, table_of, hub_of, Checked, Opened, block_at, state_at, hop_at, nodes_at, in_at, not_at, list_at, InStarted, SameGroups}
use Rattle.promises.proofs.Blocks.{Sized, hub_sized, rest_sized, block_nodes, block_ins, block_nots, block_lists, board_block, word_block}
use Rattle.promises.proofs.High.{low_set}
use Rattle.promises.proofs.Routes.{reached_started}

-- ---- any room of 17 will do
pub wide : 16 + 1 ≤ 20
wide = lit≤ tt

module _ (sheet : List ℕ) (call : Call) (board : List ℕ) (o : Opened sheet call board) where
  pub low : (i : ℕ) → i < N sheet → i < 16
  low i h = omega (arith, o.few_boxes)

  pub sizes : (i : ℕ) → i < N sheet → Sized ((hub_of sheet call).boxes i)
  sizes i h = hub_sized (table_of sheet) o.table (hub_of sheet call) o.reached i (low i h)

  pub block_hub : (i : ℕ) → i < N sheet → block_at i (after sheet call board) ≡ block ((hub_of sheet call).boxes i)
  block_hub i h = rw o.board (board_block (N sheet) (hub_of sheet call) board sizes i h)

  pub state_hub : (i : ℕ) → i < N sheet → state_at i (after sheet call board) ≡ ((hub_of sheet call).boxes i).state
  unfolding block
  state_hub i h =
      let e : 66 * i ≡ 66 * i + 0 = omega arith in
      ap (word (after sheet call board)) e ∙ word_block (after sheet call board) i 0 (omega arith) ∙ ap (λ (l : List ℕ). word l 0) (block_hub i h)

  pub hop_hub : (i : ℕ) → i < N sheet → hop_at i (after sheet call board) ≡ ((hub_of sheet call).boxes i).hop
  unfolding block
  hop_hub i h = word_block (after sheet call board) i 1 (omega arith) ∙ ap (λ (l : List ℕ). word l 1) (block_hub i h)

  module _ (i : ℕ) (h : i < N sheet) where
    pub stopped_hub : state_at i (after sheet call board) ≡ 2 → (hub_of sheet call).boxes i ≡ at_rest 16 (table_of sheet) i
    stopped_hub e = stopped_tables 16 (table_of sheet) o.table 20 wide (hub_of sheet call) o.reached i (low i h) (sym (state_hub i h) ∙ e)

    pub asleep_hub : state_at i (after sheet call board) ≡ 0 → (hub_of sheet call).boxes i ≡ asleep 16
    asleep_hub e = asleep_tables 16 (table_of sheet) o.table 20 wide (hub_of sheet call) o.reached i (low i h) (sym (state_hub i h) ∙ e)

-- ---- the words of a box at rest

module _ (b t : List ℕ) (i : ℕ) (e : block_at i b ≡ block (at_rest 16 t i)) where
  rest_word : (c : ℕ) → c < 66 → word b (66 * i + c) ≡ word (block (at_rest 16 t i)) c
  rest_word c h = word_block b i c h ∙ ap (λ (l : List ℕ). word l c) e

  pub rest_hop_lem : hop_at i b ≡ (at_rest 16 t i).hop
  unfolding block
  rest_hop_lem = rest_word 1 (omega arith)

  pub rest_nodes : (d : ℕ) → d < 16 → nodes_at i d b ≡ word (at_rest 16 t i).nodes d
  rest_nodes d h = rest_word (2 + d) (omega arith) ∙ block_nodes (at_rest 16 t i) (rest_sized t i) d h

  pub rest_ins : (j : ℕ) → j < 16 → in_at i j b ≡ word (at_rest 16 t i).in_spt j
  rest_ins j h = rest_word (18 + j) (omega arith) ∙ block_ins (at_rest 16 t i) (rest_sized t i) j h

  pub rest_nots : (j : ℕ) → j < 16 → not_at i j b ≡ word (at_rest 16 t i).not_spt j
  rest_nots j h = rest_word (34 + j) (omega arith) ∙ block_nots (at_rest 16 t i) (rest_sized t i) j h

  pub rest_lists : (k : ℕ) → k < 16 → list_at i k b ≡ word (at_rest 16 t i).neighbors k
  rest_lists k h = rest_word (50 + k) (omega arith) ∙ block_lists (at_rest 16 t i) (rest_sized t i) k

-- ---- the end

names_wide : (n w : ℕ) (t l : List ℕ) → n ≤ w → Names n t l → Names w t l
names_wide n w t [] h m = tt
names_wide n w t (a ∷ []) h m = tt
names_wide n w t (a ∷ b ∷ l) h m = ((omega (arith, m.0.0), omega (arith, m.0.1)), m.1, names_wide n w t l h m.2)

pub final : (sheet : List ℕ) (call : Call) (board : List ℕ) → Opened sheet call board → under_way 16 (hub_of sheet call) ≡ 0
    → Final 16 (table_of sheet) (starting call) (hub_of sheet call)
final sheet (listed l) board o e = list_end 16 (table_of sheet) o.table 20 wide l (names_wide (N sheet) 16 (table_of sheet) l o.few_boxes o.checked.2) e
final sheet (drained starts budget) board o e = drain_end 16 (table_of sheet) o.table 20 wide starts budget e

-- ---- the boxes that a call starts, and their groups, are below N

asked_low : (n : ℕ) (t l : List ℕ) (k : ℕ) → Names n t l → asks k l ≡ true → k < n
unfolding asks
asked_low n t [] k m e = absurd (true≢false (sym e))
asked_low n t (a ∷ []) k m e = absurd (true≢false (sym e))
asked_low n t (a ∷ b ∷ l) k m e =
    by_bool (eqb a b && eqb a k)
    (λ u. omega (arith, eqb-true a k (and_both (eqb a b) (eqb a k) u).1, m.0.0))
    (λ u. asked_low n t l k m.2 (rw u at e))

pub starting_low : (n : ℕ) (t : List ℕ) (call : Call) → Checked n t call → (k : ℕ) → mem k (starting call) ≡ true → k < n
starting_low n t (listed l) c k m = asked_low n t l k c.2 ((starts_is 16 l).get k m)
starting_low n t (drained starts budget) c k m = in_lt n starts k c m

module _ (sheet : List ℕ) (call : Call) (board : List ℕ) (o : Opened sheet call board) where
  pub started_is : (i : ℕ) → (reached 16 (table_of sheet) (starting call) i ≡ true) ↔ InStarted (table_of sheet) (starting call) i
  started_is i =
      reached_started 16 (table_of sheet) o.table (starting call) i
      (low_set 16 (starting call) (λ k m. omega (arith, o.few_boxes, starting_low (N sheet) (table_of sheet) call o.checked k m)))

  pub started_or_not : (i : ℕ) → InStarted (table_of sheet) (starting call) i ⊎ (InStarted (table_of sheet) (starting call) i → ⊥)
  started_or_not i =
      by_bool (reached 16 (table_of sheet) (starting call) i)
      (λ e. inl ((started_is i).0 e)) (λ e. inr (λ u. true≢false (sym ((started_is i).1 u) ∙ e)))

  pub not_started : (i : ℕ) → (InStarted (table_of sheet) (starting call) i → ⊥) → reached 16 (table_of sheet) (starting call) i ≡ false
  not_started i z = by_bool (reached 16 (table_of sheet) (starting call) i) (λ e. absurd (z ((started_is i).0 e))) (λ e. e)

  started_low : (i : ℕ) → reached 16 (table_of sheet) (starting call) i ≡ true → i < N sheet
  started_low i e =
      let (k, hk, m, u) = reached_out 16 (table_of sheet) o.table (starting call) i e in
      group_low 16 (table_of sheet) o.table (N sheet) o.few_boxes o.below k i
      (starting_low (N sheet) (table_of sheet) call o.checked k m) (together_lt 16 (table_of sheet) k i u)

-- ---- equal answers

ran_same : (a b : Ran) → a.number ≡ b.number → a.sent ≡ b.sent → a.moved ≡ b.moved → a.under_way ≡ b.under_way → a.finished ≡ b.finished
    → a.board ≡ b.board → a ≡ b
ran_same a b p q r s f c = λ i. record { number = p i; sent = q i; moved = r i; under_way = s i; finished = f i; board = c i }

board_same : (n : ℕ) (g h : Hub) (lent : List ℕ) → n ≤ 16 → Alike 16 g h → board_of 16 n g lent ≡ board_of 16 n h lent
unfolding board_of
board_same n g h lent l a = ap (λ (x : List ℕ). x ++ drop (66 * n) lent) (each_same n _ _ (λ k q. ap block (a.boxes k (omega arith))))

module _ (sheet : List ℕ) (c d : Call) (board : List ℕ) (x : Opened sheet c board) (y : Opened sheet d board) where
  both_reached : SameGroups sheet (starting c) (starting d) → (i : ℕ) → reached 16 (table_of sheet) (starting c) i ≡ reached 16 (table_of sheet) (starting d) i
  both_reached e i =
      bool_ext _ _
      (λ u. (started_is sheet d board y i).1 ((e i (started_low sheet c board x i u)).0 ((started_is sheet c board x i).0 u)))
      (λ u. (started_is sheet c board x i).1 ((e i (started_low sheet d board y i u)).1 ((started_is sheet d board y i).0 u)))

  pub same_answer : (answer sheet c board).number ≡ 0 → (answer sheet d board).number ≡ 0
      → (answer sheet c board).under_way ≡ 0 → (answer sheet d board).under_way ≡ 0
      → SameGroups sheet (starting c) (starting d)
      → answer sheet c board ≡ answer sheet d board
  same_answer p q u v e =
      let uc : under_way 16 (hub_of sheet c) ≡ 0 = sym x.way ∙ u in
      let vd : under_way 16 (hub_of sheet d) ≡ 0 = sym y.way ∙ v in
      let a : Alike 16 (hub_of sheet c) (hub_of sheet d) =
      ends_alike 16 (table_of sheet) x.table 20 wide (starting c) (starting d) (hub_of sheet c) (hub_of sheet d) (λ i l. both_reached e i)
      (final sheet c board x uc) (final sheet d board y vd) in
      ran_same (answer sheet c board) (answer sheet d board)
      (p ∙ sym q)
      (x.sent ∙ a.sent ∙ sym y.sent)
      (x.moved ∙ a.moved ∙ sym y.moved)
      (u ∙ sym v)
      (x.finished ∙ ap (λ (n : ℕ). eqb n 0) (uc ∙ sym vd) ∙ sym y.finished)
      (x.board ∙ board_same (N sheet) (hub_of sheet c) (hub_of sheet d) board x.few_boxes a ∙ sym y.board)

-- ---- the drain

starts_move_none : (t : List ℕ) (x : ℕ) → (start_all 16 20 t x (sleeping 16)).moved ≡ 0
unfolding start_all
starts_move_none t x =
    for_each_keeps x (start 16 20 t) (λ n g. g.moved ≡ 0) 16 (sleeping 16) refl (λ k g l m p. start_moved 16 20 t k g ∙ p) (λ k g l m p. p)

module _ (sheet : List ℕ) (starts budget : ℕ) (board : List ℕ) (o : Opened sheet (drained starts budget) board) where
  abbrev begun : Hub
  begun = start_all 16 20 (table_of sheet) starts (sleeping 16)

  begun_reached : Reached 16 20 (table_of sheet) begun
  begun_reached = starts_lead 16 (table_of sheet) o.table 20 wide starts (sleeping 16) begin

  pub drain_most : (drain_call sheet starts budget board).moved ≤ budget
  drain_most =
      omega (arith, o.moved, starts_move_none (table_of sheet) starts, drain_within 16 (table_of sheet) o.table 20 wide begun begun_reached budget)

  pub drain_stops : ((drain_call sheet starts budget board).under_way ≡ 0) ⊎ ((drain_call sheet starts budget board).moved ≡ budget)
  drain_stops =
      ⊎_elim (λ e. inl (o.way ∙ e)) (λ e. inr (omega (arith, o.moved, starts_move_none (table_of sheet) starts)))
      (drain_ends 16 (table_of sheet) o.table 20 wide begun begun_reached budget)

  pub drain_done : enough 16 (table_of sheet) (N sheet) ≤ budget → (drain_call sheet starts budget board).under_way ≡ 0
  drain_done l = o.way ∙ drain_finishes 16 (table_of sheet) o.table 20 wide begun begun_reached (N sheet) o.few_boxes o.below budget l
