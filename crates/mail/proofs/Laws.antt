-- What the calls on the store come to in a turn's definitions: each law takes what the callees promise, and gives what the function promises.
-- Assumes nothing.
use Rattle.std.proofs.Common.{◌≡◌, ℕ, zero, suc, ◌^◌, ◌<◌, Bool, true, false, cond, ltb, List, length, set, sym, refl, ap, ◌∙◌, arith, eqb, ltb-true, lt-ltb}
use borrow.Author.Tests.{ne_eqb}
use lib.Bits.{bit_or}
use Rattle.sets.specs.Mem.{and_both}
use Rattle.std.specs.Prelude.{Option, Some, None, MatchOption}
use Rattle.wires.specs.declared.Message.{Message}
use Rattle.wires.specs.Messages.{said, Tells, reads_set}
use Rattle.wires.specs.Words.{origin_of, set_in, set_of}
use Rattle.wires.specs.Wires.{sixteen, waiting, queued, front, taken, taken_word}
use Rattle.wires.proofs.Ring.{ring_some}
use Rattle.wires.proofs.Laws.{queue_length, take_law, sixteen_proper}
use Rattle.mail.specs.Gather.{Got, wire_of, list_at, take_list, take_lists, take_head, hear, gather_link}
use Rattle.mail.specs.Gathered.{got}
use Rattle.std.specs.Bool.{then_some}
use Rattle.mail.specs.Post.{Posted, post_if}
use Rattle.mail.specs.Letter.{with_own, post_link}

-- ---- what has come

-- the list at the head is taken
pub took_list : (s s' hs ls : List ℕ) (i k o y listed h : ℕ) → s' ≡ taken sixteen s i → list_at s i ≡ true → k ≡ origin_of (front sixteen s i) → o ≡ 2 ^ k
    → y ≡ set_of (front sixteen s i) → got s' hs (bit_or listed o) (set ls k y) h ≡ take_list i (got s hs listed ls h)
unfolding take_list list_at taken_word
took_list s s' hs ls i k o y listed h p here ek eo ey =
    let some : 0 < queued sixteen s i = ltb-true 0 (queued sixteen s i) (and_both _ _ here).0 in
    let t : eqb (queued sixteen s i) 0 ≡ false = ne_eqb _ _ (λ z. omega arith) in
    rw (p, eo, ey, ek, t)

-- a list taken leaves one less in the queue
pub one_less : (s : List ℕ) (i : ℕ) → length s ≡ 9264 → i < 256 → list_at s i ≡ true → suc (queued sixteen (taken sixteen s i) i) ≡ queued sixteen s i
unfolding waiting list_at
one_less s i size here e =
    let some : 0 < queued sixteen s i = ltb-true 0 (queued sixteen s i) (and_both _ _ e).0 in
    let all = ring_some sixteen s i _ (queued sixteen s i) (λ z. omega arith) in
    let off = (take_law sixteen sixteen_proper s i size here).off _ _ all in
    let rest = sym (queue_length sixteen (taken sixteen s i) i) ∙ ap (λ w. length w.queue) off in
    let whole = sym (queue_length sixteen s i) ∙ ap length all in
    sym (whole ∙ ap suc (sym rest))

-- a turn of the loop that takes them
pub lists_on : (i : ℕ) (g h : Got) → length g.store ≡ 9264 → i < 256 → list_at g.store i ≡ true → h ≡ take_list i g
    → take_lists (queued sixteen h.store i) i h ≡ take_lists (queued sixteen g.store i) i g
unfolding take_lists take_list
lists_on i g h size here e t =
    ap (λ (z : Got). take_lists (queued sixteen z.store i) i z) t
    ∙ sym (ap (λ (n : ℕ). take_lists n i g) (sym (one_less g.store i size here e)) ∙ rw e)

pub lists_less : (i : ℕ) (g h : Got) → length g.store ≡ 9264 → i < 256 → list_at g.store i ≡ true → h ≡ take_list i g
    → queued sixteen h.store i < queued sixteen g.store i
unfolding take_list
lists_less i g h size here e t =
    let a = one_less g.store i size here e in
    let b = ap (λ (z : Got). queued sixteen z.store i) t in
    omega (arith, a, b)

pub lists_end : (n i : ℕ) (g : Got) → list_at g.store i ≡ false → take_lists n i g ≡ g
unfolding take_lists
lists_end zero i g e = refl
lists_end (suc n) i g e = rw e

-- the set of what was taken, 0 of an empty queue
pub head_set : (s : List ℕ) (i y : ℕ) (r : Option Message) → Tells r (queued sixteen s i) (taken_word sixteen s i) → MatchOption r (y ≡ 0) (λ m. y ≡ set_in (said m))
    → y ≡ set_of (taken_word sixteen s i)
unfolding taken_word
head_set s i y None t e = rw t e
head_set s i y (Some m) t e = e ∙ reads_set m _ t.1

pub not_heard : (s : List ℕ) (i j n heard : ℕ) → n ≡ queued sixteen s i → n ≡ 0 → heard ≡ cond (ltb 0 (queued sixteen s i)) (bit_or heard (2 ^ j)) heard
not_heard s i j n heard e z = let h : queued sixteen s i ≡ 0 = sym e ∙ z in rw h

pub is_heard : (s : List ℕ) (i j n o heard : ℕ) → n ≡ queued sixteen s i → (n ≡ 0 → ⊥) → o ≡ 2 ^ j
    → bit_or heard o ≡ cond (ltb 0 (queued sixteen s i)) (bit_or heard (2 ^ j)) heard
is_heard s i j n o heard e z w =
    let h : ltb 0 (queued sixteen s i) ≡ true = lt-ltb 0 (queued sixteen s i) (omega arith) in
    rw (h, w)

-- the head, the lists behind it, and whether the link is still heard
pub link_gathered : (b j i : ℕ) (s s₁ s₂ hs hs₂ ls ls₂ : List ℕ) (listed heard y listed₂ heard₂ heard₃ : ℕ)
    → i ≡ wire_of j b → s₁ ≡ taken sixteen s i → y ≡ set_of (taken_word sixteen s i)
    → got s₂ hs₂ listed₂ ls₂ heard₂ ≡ take_lists (queued sixteen s₁ i) i (got s₁ (set hs j y) listed ls heard)
    → heard₃ ≡ cond (ltb 0 (queued sixteen s₂ i)) (bit_or heard₂ (2 ^ j)) heard₂
    → got s₂ hs₂ listed₂ ls₂ heard₃ ≡ gather_link b j (got s hs listed ls heard)
unfolding gather_link take_head hear
link_gathered b j i s s₁ s₂ hs hs₂ ls ls₂ listed heard y listed₂ heard₂ heard₃ e p ey el eh =
    let g : Got = got s hs listed ls heard in
    let head : got s₁ (set hs j y) listed ls heard ≡ take_head i j g = rw (p, ey) in
    let all : got s₂ hs₂ listed₂ ls₂ heard₂ ≡ take_lists (queued sixteen (take_head i j g).store i) i (take_head i j g) =
    el ∙ ap (λ (z : Got). take_lists (queued sixteen z.store i) i z) head in
    rw (← e, eh) (ap (hear i j) all)

-- ---- a letter of the code, made of a record's parts

pub letter_said : (i own origins s : ℕ) (known : List ℕ) (p : Posted) (wakes round : Bool)
    → post_link i (with_own (then_some wakes own) (then_some round (record { origins = origins; «set» = s }))) known p
    ≡ post_link i (record { wakes = wakes; own = own; round = round; origins = origins; «set» = s }) known p
unfolding post_link post_if
letter_said i own origins s known p true true = refl
letter_said i own origins s known p true false = refl
letter_said i own origins s known p false true = refl
letter_said i own origins s known p false false = refl
