-- The tables before the wires' words are as they were after what is taken for a pair, after what is sent, and after the queues of a box are emptied.
-- Assumes nothing.
use Prim.Native.Nat.{ℕ, zero, suc, ◌%◌, ◌^◌}
use mathlib.Core.Path.{◌≡◌}
use mathlib.Core.Bool.{Bool, true}
use mathlib.Core.List.{List}
use lib.Bits.{bit_or}
use lib.Dec.{eqb}
use Rattle.rules.specs.Sets.{mem, word}
use Rattle.rules.specs.Box.{notspt, neighbors}
use Rattle.sets.specs.Loops.{for_each_keeps, pick}
use Rattle.wires.specs.Wires.{sixteen, queued, under_way, arrived, oldest, has_room, cleared}
use Rattle.wires.specs.Words.{is_list, word_of}
use Rattle.tables.proofs.Laws.{Same, same_refl, same_trans, same_links, same_heard, same_busy, pushed_same, arrived_same, skipped_same, taken_same, cleared_same}
use Rattle.boxes.specs.Departure.{Departure}
use Rattle.mail.specs.Post.{Posted, post_word, post_lists, post_if}
use Rattle.mail.specs.Letter.{Letter, post_link}
use Rattle.mail.specs.Gather.{Got, got_nothing, wire_of, list_at, take_list, take_lists, take_head, hear, gather_link, gather_to, clear_to}
use Rattle.turn.specs.Turn.{Turn, Carried, Pair, turn_of, next_pair, took_round, took_first, delivered, begun, took_pair, took_def, Took, heard_at, letter, post_to}

-- ---- what is carried, by stores whose tables are the same

pub turn_same : (c : Carried) (s s' : List ℕ) → Same s s' → turn_of c s' ≡ turn_of c s
turn_same c s s' f = rw (same_links s s' f, same_heard s s' f, same_busy s s' f)

-- ---- what is emptied, and what is sent

pub clear_same : (b links n : ℕ) (s : List ℕ) → Same s (clear_to b links n s)
unfolding clear_to
clear_same b links n s =
    for_each_keeps links (λ j u. cleared sixteen u (wire_of j b)) (λ _ u. Same s u) n s (same_refl s)
    (λ k u l m h. same_trans s u _ h (cleared_same u (wire_of k b))) (λ k u l m h. h)

word_same : (i x : ℕ) (p : Posted) → Same p.store (post_word i x p).store
unfolding post_word
word_same i x p = pick (λ (q : Posted). Same p.store q.store) (has_room sixteen p.store i) (pushed_same p.store i x) (pushed_same p.store i x)

if_same : (c : Bool) (i s : ℕ) (p : Posted) → Same p.store (post_if c i s p).store
unfolding post_if
if_same c i s p = pick (λ (q : Posted). Same p.store q.store) c (word_same i (word_of (notspt s)) p) (same_refl p.store)

lists_same : (i origins : ℕ) (known : List ℕ) (n : ℕ) (p : Posted) → Same p.store (post_lists i origins known n p).store
unfolding post_lists
lists_same i origins known n p =
    for_each_keeps origins (λ k. post_word i (word_of (neighbors k (word known k)))) (λ _ q. Same p.store q.store) n p (same_refl p.store)
    (λ k q l m h. same_trans p.store q.store _ h (word_same i (word_of (neighbors k (word known k))) q)) (λ k q l m h. h)

link_same : (i : ℕ) (l : Letter) (known : List ℕ) (p : Posted) → Same p.store (post_link i l known p).store
unfolding post_link
link_same i l known p =
    let q = post_if l.wakes i l.own p in
    let r = post_lists i l.origins known 16 q in
    let first = if_same l.wakes i l.own p in
    pick (λ (z : Posted). Same p.store z.store) l.round
    (same_trans p.store q.store _ first (same_trans q.store r.store _ (lists_same i l.origins known 16 q) (if_same true i l.set r)))
    first

pub post_same : (o : Departure) (links n : ℕ) (p : Posted) → Same p.store (post_to o links n p).store
unfolding post_to
post_same o links n p =
    for_each_keeps links (λ j. post_link (wire_of (o.own % 16) j) (letter o j) o.neighbors) (λ _ q. Same p.store q.store) n p (same_refl p.store)
    (λ k q l m h. same_trans p.store q.store _ h (link_same (wire_of (o.own % 16) k) (letter o k) o.neighbors q)) (λ k q l m h. h)

-- ---- what is taken

take_lists_same : (n i : ℕ) (g : Got) → Same g.store (take_lists n i g).store
unfolding take_lists take_list
take_lists_same zero i g = same_refl g.store
take_lists_same (suc n) i g =
    pick (λ (h : Got). Same g.store h.store) (list_at g.store i)
    (same_trans g.store (take_list i g).store _ (taken_same g.store i) (take_lists_same n i (take_list i g)))
    (same_refl g.store)

gather_link_same : (b j : ℕ) (g : Got) → Same g.store (gather_link b j g).store
unfolding gather_link take_head hear
gather_link_same b j g =
    let i = wire_of j b in
    let h = take_head i j g in
    same_trans g.store h.store _ (taken_same g.store i) (take_lists_same (queued sixteen h.store i) i h)

gather_same : (b links n : ℕ) (g : Got) → Same g.store (gather_to b links n g).store
unfolding gather_to
gather_same b links n g =
    for_each_keeps links (gather_link b) (λ _ h. Same g.store h.store) n g (same_refl g.store)
    (λ k h l m e. same_trans g.store h.store _ e (gather_link_same b k h)) (λ k h l m e. e)

delivered_same : (c : Turn) (a b : ℕ) (s : List ℕ) → Same s (delivered c a b s).store
unfolding delivered took_first took_round
delivered_same c a b s =
    let i = wire_of a b in
    let u = arrived sixteen s i in
    let came = arrived_same s i in
    pick P (eqb (under_way sixteen s i) 0) (same_refl s)
    (pick P (mem b c.stopped) (skipped_same s i)
    (pick P (eqb (queued sixteen s i) 0)
    (pick P (is_list (oldest sixteen s i)) (same_trans s u _ came (taken_same u i))
    (pick P (eqb (bit_or (heard_at c b) (2 ^ a)) (word c.links b)) (same_trans s u _ came (gather_same b (word c.links b) 16 (got_nothing u))) came))
    came))
  where
    P : Took → Type 0
    P k = Same s k.store

pub took_same : (list s : List ℕ) (c : Turn) → Same s (took_def list s c).store
unfolding took_def took_pair begun
took_same list s c =
    let p : Pair = next_pair list c in
    pick P p.some (pick P (eqb p.«from» p.to) (same_refl s) (delivered_same c p.«from» p.to s)) (same_refl s)
  where
    P : Took → Type 0
    P k = Same s k.store
