-- What a turn posts is what the rules send: word by word, list by list, link by link. Assumes nothing.
use Prim.Native.Nat.{ℕ, zero, suc, ◌+◌, ◌%◌, ◌≤◌, ◌<◌}
use Rattle.std.specs.Prelude.{◌≡◌, Bool, cond, List, [], ◌∷◌, ◌++◌, map, ltb, length}
use Rattle.std.proofs.Math.Path.{refl, sym, ap}
use Rattle.std.proofs.Common.{ap₂, ◌∙◌, append-nil, ⊎_elim, arith}
use Rattle.std.proofs.Math.Bool.{true, false}
use Rattle.std.proofs.lemmas.List.{map-append}
use Rattle.std.proofs.Math.Decide.{ℕ_discrete}
use Rattle.rules.specs.Sets.{mem, word, members, each, for_each, upd}
use Rattle.rules.specs.Box.{Msg, notspt, neighbors}
use Rattle.rules.specs.Hub.{Wire, Hub, send, send_list, send_all}
use Rattle.sets.specs.Loops.{by_bool}
use Rattle.sets.specs.Tables.{upd_same, upd_other}
use Rattle.wires.specs.Wires.{sixteen, Waiting, has_room, pushed, join_way, Pushed}
use Rattle.wires.specs.Words.{word_of}
use Rattle.wires.proofs.Laws.{push_law, sixteen_proper}
use Rattle.mail.specs.Post.{Posted, post_word, post_lists, post_if}
use Rattle.mail.specs.Letter.{Letter, post_link}
use Rattle.mail.specs.Gather.{wire_of}
use Rattle.shows.specs.Held.{words_of, held_of, Held, wire_lt, held_one, length_words, holds_both}

-- the store and counts of the code beside the hub: sent is kept as a 32-bit number
pub record Sends (p : Posted) (h : Hub) : Type 0 where
  pub held : Held p.store h.wires
  pub sent : p.sent ≡ h.sent % 4294967296
  pub full : p.full ≡ h.full

pub next_count : (n : ℕ) → (n % 4294967296 + 1) % 4294967296 ≡ suc n % 4294967296
next_count n = omega arith

module _ (a b : ℕ) (ha : a < 16) (hb : b < 16) (m : Msg) (p : Posted) (h : Hub) (S : Sends p h) where
  abbrev law : Pushed sixteen p.store (wire_of a b) (word_of m) (pushed sixteen p.store (wire_of a b) (word_of m)) (has_room sixteen p.store (wire_of a b))
  law = push_law sixteen sixteen_proper p.store (wire_of a b) S.held.formed.size (wire_lt a b ha hb) (word_of m)

  room_is : has_room sixteen p.store (wire_of a b) ≡ ltb (length (h.wires a b).queue + length (h.wires a b).way) 20
  room_is =
      law.room ∙ ap₂ (λ (x y : ℕ). ltb (x + y) 20)
      (ap (λ (x : Waiting). length x.queue) (S.held.at a b ha hb) ∙ length_words (h.wires a b).queue)
      (ap (λ (x : Waiting). length x.way) (S.held.at a b ha hb) ∙ length_words (h.wires a b).way)

  abbrev joined : Wire
  joined = let x = h.wires a b in record { log = x.log ++ (m ∷ []); taken = x.taken; queue = x.queue; way = x.way ++ (m ∷ []) }

  grown : has_room sixteen p.store (wire_of a b) ≡ true
      → Held (pushed sixteen p.store (wire_of a b) (word_of m)) (upd h.wires a (upd (h.wires a) b joined))
  grown e =
      held_one p.store (pushed sixteen p.store (wire_of a b) (word_of m)) h.wires (upd h.wires a (upd (h.wires a) b joined)) a b ha hb S.held (law.formed S.held.formed)
      (law.joined e ∙ ap (λ (x : Waiting). join_way x (word_of m)) (S.held.at a b ha hb)
      ∙ ap (λ (l : List ℕ). holds_both (words_of (h.wires a b).queue) l) (sym (map-append word_of (h.wires a b).way (m ∷ [])))
      ∙ sym (ap held_of (ap (λ (f : ℕ → Wire). f b) (upd_same h.wires a (upd (h.wires a) b joined)) ∙ upd_same (h.wires a) b joined)))
      law.others
      (λ c d z. elim (ℕ_discrete c a) [
        | yes e ↦ ap (λ (f : ℕ → Wire). f d) (ap (upd h.wires a (upd (h.wires a) b joined)) e ∙ upd_same h.wires a (upd (h.wires a) b joined))
            ∙ upd_other (h.wires a) b joined d (⊎_elim (λ u. absurd (u e)) (λ u. u) z) ∙ ap (λ (x : ℕ). h.wires x d) (sym e)
        | no e ↦ ap (λ (f : ℕ → Wire). f d) (upd_other h.wires a (upd (h.wires a) b joined) c e)
      ])

  pub post_shows : Sends (post_word (wire_of a b) (word_of m) p) (send 20 a b m h)
  unfolding post_word send
  post_shows =
      by_bool (has_room sixteen p.store (wire_of a b))
      (λ e. rw (e, sym room_is ∙ e) (record { held = grown e; sent = ap (λ (n : ℕ). (n + 1) % 4294967296) S.sent ∙ next_count h.sent; full = S.full }))
      (λ e. rw (e, sym room_is ∙ e) (record { held = rw (law.refused e) S.held; sent = S.sent; full = refl }))

-- ---- what goes to one link

-- the lists of some origins below n, ascending
abbrev pub lists_for : List ℕ → ℕ → ℕ → List Msg
lists_for known origins n = map (λ k. neighbors k (word known k)) (members n origins)

-- a set, where it is said
abbrev pub set_if : Bool → ℕ → List Msg
set_if c s = cond c (notspt s ∷ []) []

abbrev pub letter_list : Letter → List ℕ → List Msg
letter_list l known = set_if l.wakes l.own ++ cond l.round (lists_for known l.origins 16 ++ (notspt l.«set» ∷ [])) []

-- ---- several messages on one wire

pub send_append : (room a b : ℕ) (l k : List Msg) (h : Hub) → send_list room a b (l ++ k) h ≡ send_list room a b k (send_list room a b l h)
unfolding send_list
send_append room a b [] k h = refl
send_append room a b (m ∷ l) k h = send_append room a b l k (send room a b m h)

module _ (a b : ℕ) (ha : a < 16) (hb : b < 16) where
  one_shows : (m : Msg) (p : Posted) (h : Hub) → Sends p h → Sends (post_word (wire_of a b) (word_of m) p) (send_list 20 a b (m ∷ []) h)
  unfolding send_list
  one_shows m p h S = post_shows a b ha hb m p h S

  lists_none : (known : List ℕ) (origins n : ℕ) → mem n origins ≡ false → lists_for known origins (suc n) ≡ lists_for known origins n
  unfolding members each
  lists_none known origins n e = rw e (ap (map (λ k. neighbors k (word known k))) (append-nil (members n origins)))

  lists_more : (known : List ℕ) (origins n : ℕ) → mem n origins ≡ true → lists_for known origins (suc n) ≡ lists_for known origins n ++ (neighbors n (word known n) ∷ [])
  unfolding members each
  lists_more known origins n e = rw e (map-append (λ k. neighbors k (word known k)) (members n origins) (n ∷ []))

  pub lists_show : (known : List ℕ) (origins n : ℕ) (p : Posted) (h : Hub) → Sends p h
      → Sends (post_lists (wire_of a b) origins known n p) (send_list 20 a b (lists_for known origins n) h)
  unfolding post_lists for_each send_list members each
  lists_show known origins zero p h S = S
  lists_show known origins (suc n) p h S =
      let ih : Sends (post_lists (wire_of a b) origins known n p) (send_list 20 a b (lists_for known origins n) h) = lists_show known origins n p h S in
      by_bool (mem n origins)
      (λ e. rw (lists_more known origins n e, e, send_append) (one_shows (neighbors n (word known n)) _ _ ih))
      (λ e. rw (lists_none known origins n e, e) ih)

  pub if_shows : (c : Bool) (s : ℕ) (p : Posted) (h : Hub) → Sends p h → Sends (post_if c (wire_of a b) s p) (send_list 20 a b (set_if c s) h)
  unfolding post_if send_list
  if_shows true s p h S = post_shows a b ha hb (notspt s) p h S
  if_shows false s p h S = S

  pub link_shows : (l : Letter) (known : List ℕ) (p : Posted) (h : Hub) → Sends p h → Sends (post_link (wire_of a b) l known p) (send_list 20 a b (letter_list l known) h)
  unfolding post_link
  link_shows l known p h S =
      let first : Sends (post_if l.wakes (wire_of a b) l.own p) (send_list 20 a b (set_if l.wakes l.own) h) = if_shows l.wakes l.own p h S in
      by_bool l.round
      (λ e. rw (e, send_append, send_append) (if_shows true l.«set» _ _ (lists_show known l.origins 16 _ _ first)))
      (λ e. rw (e, append-nil) first)

-- ---- to every link

-- what goes to the links of n, and nothing to any other box
abbrev pub to_links : ℕ → (ℕ → List Msg) → ℕ → List Msg
to_links n out j = cond (mem j n) (out j) []

pub all_shows : (a links : ℕ) (l : ℕ → Letter) (known : List ℕ) → a < 16 → (n : ℕ) → n ≤ 16 → (p : Posted) (h : Hub) → Sends p h
    → Sends (for_each links (λ j. post_link (wire_of a j) (l j) known) n p) (send_all 20 a (to_links links (λ j. letter_list (l j) known)) n h)
unfolding for_each send_all send_list
all_shows a links l known ha zero hn p h S = S
all_shows a links l known ha (suc n) hn p h S =
    let ih : Sends (for_each links (λ j. post_link (wire_of a j) (l j) known) n p) (send_all 20 a (to_links links (λ j. letter_list (l j) known)) n h) =
    all_shows a links l known ha n (omega arith) p h S in
    by_bool (mem n links) (λ e. rw e (link_shows a n ha (omega arith) (l n) known _ _ ih)) (λ e. rw e ih)
