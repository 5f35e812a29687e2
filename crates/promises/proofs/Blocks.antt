-- The board's words: what stands at a place of a row of blocks, and at a place of one block. Assumes nothing.
use Prim.Native.Nat.{ℕ, zero, suc, ◌+◌, ◌*◌, ◌≤◌, ◌<◌}
use Rattle.std.specs.Prelude.{◌≡◌, refl, List, ◌++◌, take, drop, replicate}
use Rattle.std.proofs.Common.{sym, ◌∙◌, append_assoc, take_at, get_or-take, get_or-drop}
use native.Mathlib.Omega.{arith}
use Rattle.std.proofs.Math.Decide.{ℕ_discrete}
use Rattle.std.proofs.Math.ListN.{length, length-append, length-drop, get_or-append}
use Rattle.std.proofs.Math.Seq.{drop_at, get_or-append-add}
use Rattle.rules.specs.Sets.{word, each}
use Rattle.rules.specs.Box.{Msg, Box, asleep}
use Rattle.rules.specs.Hub.{block, board_of, Hub}
use Rattle.rules.specs.Rest.{Table, at_rest}
use Rattle.sets.specs.Loops.{length_words}
use Rattle.order.specs.Terms.{Reached}
use Rattle.order.specs.Invariant.{Tables, Seat, sleeps, wakes, rests}
use Rattle.order.proofs.Reached.{sound}
use Rattle.promises.specs.Said.{block_at}

-- ---- a row of blocks of b words each

module _ {A : Type 0} (b : ℕ) (f : ℕ → List A) where
  row_length : (n : ℕ) → ((i : ℕ) → i < n → length (f i) ≡ b) → length (each n f) ≡ b * n
  unfolding each
  row_length zero h = omega arith
  row_length (suc n) h = length-append (each n f) (f n) ∙ omega (arith, row_length n (λ i l. h i (omega arith)), h n (omega arith))

  row_block : (n i : ℕ) (z : List A) → ((i : ℕ) → i < n → length (f i) ≡ b) → i < n → take b (drop (b * i) (each n f ++ z)) ≡ f i
  unfolding each
  row_block zero i z h l = absurd (omega arith)
  row_block (suc n) i z h l =
      rw (append_assoc (each n f) (f n) z)
      (elim (ℕ_discrete i n) [
        | yes e ↦ rw (e, drop_at (each n f) (f n ++ z) (b * n) (row_length n (λ k m. h k (omega arith)))) (take_at (f n) z b (h n (omega arith)))
        | no e ↦ row_block n i (f n ++ z) (λ k m. h k (omega arith)) (omega arith)
      ])

-- ---- one block

-- each table of the box has 16 words
pub record Sized (b : Box) : Type 0 where
  pub nodes : length b.nodes ≡ 16
  pub ins : length b.in_spt ≡ 16
  pub nots : length b.not_spt ≡ 16
  pub lists : length b.neighbors ≡ 16

module _ (b : Box) (s : Sized b) where
  pub block_length : length (block b) ≡ 66
  unfolding block
  block_length =
      let e : length (b.nodes ++ (b.in_spt ++ (b.not_spt ++ b.neighbors))) ≡ 64 =
      simp length-append (omega (arith, s.nodes, s.ins, s.nots, s.lists)) in
      omega arith

  pub block_nodes : (d : ℕ) → d < 16 → word (block b) (2 + d) ≡ word b.nodes d
  unfolding block
  block_nodes d h =
      let e : 2 + d ≡ suc (suc d) = omega arith in
      rw e (get_or-append b.nodes (b.in_spt ++ (b.not_spt ++ b.neighbors)) 0 d (omega (arith, s.nodes)))

  pub block_ins : (j : ℕ) → j < 16 → word (block b) (18 + j) ≡ word b.in_spt j
  unfolding block
  block_ins j h =
      let e : 18 + j ≡ suc (suc (length b.nodes + j)) = omega (arith, s.nodes) in
      rw (e, get_or-append-add b.nodes (b.in_spt ++ (b.not_spt ++ b.neighbors)) j 0)
      (get_or-append b.in_spt (b.not_spt ++ b.neighbors) 0 j (omega (arith, s.ins)))

  pub block_nots : (j : ℕ) → j < 16 → word (block b) (34 + j) ≡ word b.not_spt j
  unfolding block
  block_nots j h =
      let e : 34 + j ≡ suc (suc (length b.nodes + (length b.in_spt + j))) = omega (arith, s.nodes, s.ins) in
      rw (e, get_or-append-add b.nodes (b.in_spt ++ (b.not_spt ++ b.neighbors)) (length b.in_spt + j) 0, get_or-append-add b.in_spt (b.not_spt ++ b.neighbors) j 0)
      (get_or-append b.not_spt b.neighbors 0 j (omega (arith, s.nots)))

  pub block_lists : (k : ℕ) → word (block b) (50 + k) ≡ word b.neighbors k
  unfolding block
  block_lists k =
      let e : 50 + k ≡ suc (suc (length b.nodes + (length b.in_spt + (length b.not_spt + k)))) = omega (arith, s.nodes, s.ins, s.nots) in
      rw (
        e,
        get_or-append-add b.nodes (b.in_spt ++ (b.not_spt ++ b.neighbors)) (length b.in_spt + (length b.not_spt + k)) 0,
        get_or-append-add b.in_spt (b.not_spt ++ b.neighbors) (length b.not_spt + k) 0,
        get_or-append-add b.not_spt b.neighbors k 0,
      )

-- ---- the boxes of a hub

tables_sized : (t : List ℕ) (i : ℕ) (b : Box) → Tables 16 t i b → Sized b
tables_sized t i b s = record { nodes = s.nodes_size; ins = s.in_size; nots = s.not_size; lists = s.list_size }

asleep_sized : (b : Box) → b ≡ asleep 16 → Sized b
asleep_sized b e = rw e (record { nodes = refl; ins = refl; nots = refl; lists = refl })

pub rest_sized : (t : List ℕ) (i : ℕ) → Sized (at_rest 16 t i)
unfolding at_rest
rest_sized t i = record { nodes = length_words 16 _; ins = length_words 16 _; nots = length_words 16 _; lists = length_words 16 _ }

seat_sized : (t : List ℕ) (j : ℕ) (n : ℕ → ℕ) (past queue rest : ℕ → List Msg) (b : Box) → Seat 16 t j n past queue rest b → Sized b
seat_sized t j n past queue rest b (sleeps s) = asleep_sized b s.blank
seat_sized t j n past queue rest b (wakes s) = tables_sized t j b s.half.tables
seat_sized t j n past queue rest b (rests s) = tables_sized t j b s.tables

pub hub_sized : (t : List ℕ) → Table 16 t → (h : Hub) → Reached 16 20 t h → (i : ℕ) → i < 16 → Sized (h.boxes i)
hub_sized t s h r i hi = seat_sized t i _ _ _ _ (h.boxes i) ((sound 16 20 t s (omega arith) r).good.seats i hi)

pub block_asleep : block (asleep 16) ≡ replicate 66 0
unfolding block
block_asleep = refl

-- ---- the board of n boxes

module _ (n : ℕ) (h : Hub) (lent : List ℕ) (sizes : (i : ℕ) → i < n → Sized (h.boxes i)) where
  sizes_66 : (i : ℕ) → i < n → length (block (h.boxes i)) ≡ 66
  sizes_66 i l = block_length (h.boxes i) (sizes i l)

  pub board_block : (i : ℕ) → i < n → block_at i (board_of 16 n h lent) ≡ block (h.boxes i)
  unfolding board_of
  board_block i l = row_block 66 (λ i. block (h.boxes i)) n i (drop (66 * n) lent) sizes_66 l

  pub board_past : drop (66 * n) (board_of 16 n h lent) ≡ drop (66 * n) lent
  unfolding board_of
  board_past = drop_at (each n (λ i. block (h.boxes i))) (drop (66 * n) lent) (66 * n) (row_length 66 _ n sizes_66)

  pub board_length : 66 * n ≤ length lent → length (board_of 16 n h lent) ≡ length lent
  unfolding board_of
  board_length l = length-append (each n (λ i. block (h.boxes i))) (drop (66 * n) lent) ∙ omega (arith, row_length 66 (λ i. block (h.boxes i)) n sizes_66, length-drop (66 * n) lent)

-- a word of box i is a word of its block
pub word_block : (board : List ℕ) (i c : ℕ) → c < 66 → word board (66 * i + c) ≡ word (block_at i board) c
word_block board i c h = sym (get_or-take 66 (drop (66 * i) board) c 0 h ∙ get_or-drop (66 * i) board c 0)
