-- What the calls of a turn's last part come to in their definitions: each law takes what the callees promise, and gives what the function promises.
-- Assumes nothing.
use Rattle.std.proofs.Common.{◌≡◌, ℕ, ◌+◌, ◌%◌, ◌<◌, Bool, true, false, cond, ◌&&◌, ◌||◌, List, length, set, sym, refl, ap, ◌∙◌, subst, arith}
use lib.Bits.{bit_or}
use Rattle.rules.specs.Sets.{word}
use Rattle.sets.specs.Mem.{or_neither}
use Rattle.sets.specs.Loops.{for_each_keeps, pick}
use Rattle.sets.specs.Tables.{set_if_lem}
use Rattle.tables.specs.Tables.{links_of, heard_of, busy_of, with_heard, with_busy}
use Rattle.tables.proofs.Laws.{Same, same_trans, same_links, same_heard, same_busy, same_refl, both_links, both_heard, both_busy, busy_busy, links_busy, heard_busy, put_length}
use Rattle.std.proofs.Common.{Option, Some, None}
use Rattle.std.specs.Bool.{then_some}
use Rattle.std.specs.Option.{is_some}
use Rattle.boxes.specs.declared.Sent.{Sent}
use Rattle.boxes.specs.Departure.{Departure, sets_sent, origins_sent}
use Rattle.mail.specs.declared.Round.{Round}
use Rattle.mail.proofs.Laws.{letter_said}
use Rattle.mail.specs.declared.Counts.{Counts}
use Rattle.mail.specs.Post.{Posted, post_if}
use Rattle.mail.specs.Letter.{Letter, with_own, posted, post_link}
use Rattle.mail.specs.Gather.{wire_of, clear_to}
use Rattle.turn.specs.declared.Carried.{Carried}
use Rattle.turn.specs.Code.{turn_with, gone_on, marked}
use Rattle.turn.specs.Turn.{Turn, less_of, letter, post_to, less_busy, more_busy, ends, kept_tables, next_turn, put_def}
use Rattle.turn.specs.Parts.{Kept}
use Rattle.turn.proofs.Tables.{clear_same, post_same}

-- ---- what goes out

-- of what a round sends, what goes to box j
abbrev pub round_for : ℕ → Option Sent → Option Round
round_for j None = None
round_for j (Some s) = Some (record { origins = word s.origins j; «set» = word s.sets j })

pub letter_for : (round : Option Sent) (i own j : ℕ) (known : List ℕ) (p : Posted) (wakes : Bool)
    → post_link i (with_own (then_some wakes own) (round_for j round)) known p
    ≡ post_link i (record { wakes = wakes; own = own; round = is_some round; origins = word (origins_sent round) j; «set» = word (sets_sent round) j }) known p
letter_for None i own j known p wakes = letter_said i own _ _ known p wakes false
letter_for (Some s) i own j known p wakes = letter_said i own _ _ known p wakes true

-- a box that neither wakes nor does a round has nothing to say
nothing_said : (i : ℕ) (l : Letter) (known : List ℕ) (p : Posted) → l.wakes ≡ false → l.round ≡ false → post_link i l known p ≡ p
unfolding post_link post_if
nothing_said i l known p w r = rw (r, w)

pub nothing_goes : (o : Departure) (links : ℕ) (p : Posted) → o.wakes || o.round ≡ false → p ≡ post_to o links 16 p
unfolding post_to
nothing_goes o links p e =
    let n = or_neither o.wakes o.round e in
    for_each_keeps links (λ j. post_link (wire_of (o.own % 16) j) (letter o j) o.neighbors) (λ k x. p ≡ x) 16 p refl
    (λ k x l m h. h ∙ sym (nothing_said (wire_of (o.own % 16) k) (letter o k) o.neighbors x n.0 n.1))
    (λ k x l m h. h)

-- ---- what is carried on

-- the tables, as the code leaves them
module _ (o : Departure) (links to : ℕ) (s : List ℕ) (size : length s ≡ 9264) (h : ℕ) (eh : h ≡ cond (ends o) 0 o.heard) (lh : h < 65536) (lt : to < 65536) where
  abbrev a : ℕ
  a = o.«from» % 16

  abbrev b : ℕ
  b = o.own % 16

  abbrev v : List ℕ
  v = with_busy (with_heard s b h) a to

  low_a : a < 16
  low_a = omega arith

  low_b : b < 16
  low_b = omega arith

  v_links : links_of v ≡ links_of s
  v_links = both_links s a b h to size low_a low_b lh lt

  v_heard : heard_of v ≡ set (heard_of s) b (cond (ends o) 0 o.heard)
  v_heard = both_heard s a b h to size low_a low_b lh lt ∙ ap (set (heard_of s) b) eh

  v_busy : busy_of v ≡ set (busy_of s) a to
  v_busy = both_busy s a b h to size low_a low_b lh lt

  pub keeps_still : o.wakes || o.round ≡ false → Kept o links to s v
  unfolding kept_tables more_busy
  keeps_still e = record { words = rw (e, eh); same = v_links; heard = v_heard; busy = rw e v_busy }

  pub keeps_sent : (x y : ℕ) → o.wakes || o.round ≡ true → x ≡ word (busy_of v) b → y ≡ bit_or x links → y < 65536 → Kept o links to s (with_busy v b y)
  unfolding kept_tables more_busy
  keeps_sent x y e ex ey l =
      let z : y ≡ bit_or (word (busy_of v) b) links = ey ∙ ap (λ (k : ℕ). bit_or k links) ex in
      record {
        words = rw (e, ← eh, ← z);
        same = links_busy v b y low_b ∙ v_links;
        heard = heard_busy v b y low_b ∙ v_heard;
        busy = rw e (busy_busy v b y (put_length (with_heard s b h) (32 + a) to ∙ put_length s (16 + b) h ∙ size) low_b l ∙ ap (λ (k : ℕ). set (busy_of v) b k) z ∙ ap (λ (k : List ℕ). set k b (bit_or (word k b) links)) v_busy);
      }

module _ (s s₁ s₂ s₃ : List ℕ) (o : Departure) (c : Carried) (pairs : ℕ) (p : Counts) (links to : ℕ) (ended : Bool)
    (el : links ≡ word (links_of s) (o.own % 16))
    (et : to ≡ less_of s o.moved (o.«from» % 16) (o.own % 16) (word (busy_of s) (o.«from» % 16)))
    (en : ended ≡ o.stops && (o.wakes || o.round))
    (e₁ : s₁ ≡ cond ended (clear_to (o.own % 16) links 16 s) s)
    (e₂ : posted s₂ p ≡ post_to o links 16 (record { store = s₁; sent = c.sent; full = c.full }))
    (e₃ : Kept o links to s₂ s₃) where
  abbrev t : Turn
  t = turn_with c pairs s

  -- what goes out leaves the tables
  same_out : Same s s₂
  same_out = subst (Same s) (sym (ap (λ (q : Posted). q.store) e₂)) (same_trans s s₁ _ (subst (Same s) (sym e₁) (pick (Same s) ended (clear_same (o.own % 16) links 16 s) (same_refl s))) (post_same o links 16 _))

  sent_out : posted s₂ p ≡ (let b = o.own % 16 in let l = word t.links b in post_to o l 16 (record { store = cond (ends o) (clear_to b l 16 s) s; sent = c.sent; full = c.full }))
  unfolding ends
  sent_out = rw (← el, ← en, ← e₁) e₂

  pub put_store : s₃ ≡ (put_def s o t).store
  unfolding put_def
  put_store = e₃.words ∙ rw (et, el, ← sent_out)

  pub put_turn : (m n : Carried) → m ≡ gone_on c pairs o.moved → n ≡ marked m (o.own % 16) ended o.wakes
      → turn_with (record n { sent = p.sent; full = p.full }) pairs s₃ ≡ (put_def s o t).turn
  unfolding put_def next_turn less_busy ends
  put_turn m n em eo =
      let ls : links_of s₃ ≡ links_of s = e₃.same ∙ same_links s s₂ same_out in
      let hs : heard_of s₃ ≡ set (heard_of s) (o.own % 16) (cond ended 0 o.heard) = e₃.heard ∙ rw (same_heard s s₂ same_out, ← en) in
      let bs : busy_of s₃ ≡ more_busy o links (set (busy_of s) (o.«from» % 16) to) = e₃.busy ∙ rw (same_busy s s₂ same_out) in
      rw (ls, hs, bs, eo, em, ← sent_out, ← en, el, et, set_if_lem)
