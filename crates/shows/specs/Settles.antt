-- A box that settles twice settles once, with both its sendings; and what the code posts for a settled box. Assumes nothing.
use Rattle.std.specs.Prelude.{ℕ, ◌+◌, ◌^◌, ◌≤◌, ◌<◌, ◌≡◌, true, false, cond, List, [], ◌++◌, eqb, length}
use Rattle.std.proofs.Math.Path.{refl, fun_ext}
use Rattle.std.proofs.Common.{sym, ap, ◌∙◌, subst, append-nil, append_assoc, arith, length-append}
use Rattle.std.proofs.Math.Decide.{ℕ_discrete}
use Rattle.rules.specs.Sets.{mem, sum, for_each, upd}
use Rattle.rules.specs.Box.{Msg, Desk}
use Rattle.rules.specs.Hub.{Hub, send_all, settle}
use Rattle.sets.specs.Mem.{mem_past, in_lt}
use Rattle.sets.specs.Loops.{by_bool, sum_same}
use Rattle.sets.specs.Tables.{upd_same, upd_other}
use Rattle.order.specs.Sums.{sum_plus}
use Rattle.order.specs.Send.{left, settled, settle_is}
use Rattle.mail.specs.Letter.{Letter, post_link}
use Rattle.mail.specs.Post.{Posted}
use Rattle.mail.specs.Gather.{wire_of}
use Rattle.shows.specs.Posts.{Sends, letter_list, to_links, all_shows}

-- ---- two hubs that show the same: all but the history

pub record Alike (g h : Hub) : Type 0 where
  pub boxes : (i : ℕ) → g.boxes i ≡ h.boxes i
  pub queue : (a b : ℕ) → (g.wires a b).queue ≡ (h.wires a b).queue
  pub way : (a b : ℕ) → (g.wires a b).way ≡ (h.wires a b).way
  pub sent : g.sent ≡ h.sent
  pub moved : g.moved ≡ h.moved
  pub full : g.full ≡ h.full

-- ---- what settling leaves

module _ (w b : ℕ) (d : Desk) (h : Hub) where
  pub settled_queue : (x y : ℕ) → ((settled w b d h).wires x y).queue ≡ cond (eqb y b) (d.queues x) (h.wires x y).queue
  unfolding settled
  settled_queue x y = by_bool (eqb y b) (λ e. rw e) (λ e. rw e)

  pub settled_way : (x y : ℕ) → ((settled w b d h).wires x y).way ≡ (h.wires x y).way ++ cond (eqb x b) (d.sends y) []
  unfolding settled
  settled_way x y = by_bool (eqb y b) (λ e. rw e) (λ e. rw e)

  pub settled_boxes : (i : ℕ) → (settled w b d h).boxes i ≡ upd h.boxes b d.box i
  unfolding settled
  settled_boxes i = refl

  pub settled_sent : (settled w b d h).sent ≡ h.sent + sum w (λ y. length (d.sends y))
  unfolding settled
  settled_sent = refl

  pub settled_moved : (settled w b d h).moved ≡ h.moved
  unfolding settled
  settled_moved = refl

  pub settled_full : (settled w b d h).full ≡ h.full
  unfolding settled
  settled_full = refl

-- ---- twice is once

abbrev pub both : Desk → Desk → Desk
both e d = record { box = d.box; queues = d.queues; sends = λ j. e.sends j ++ d.sends j; taken = λ a. e.taken a ++ d.taken a }

pub twice : (w b : ℕ) (e d : Desk) (h : Hub) → Alike (settled w b (both e d) h) (settled w b d (settled w b e h))
twice w b e d h = record {
  boxes = λ i. settled_boxes w b (both e d) h i ∙ go i ∙ sym (settled_boxes w b d (settled w b e h) i);
  queue = λ x y. settled_queue w b (both e d) h x y ∙ by_bool (eqb y b) (λ z. rw z) (λ z. rw z (sym (settled_queue w b e h x y ∙ rw z))) ∙ sym (settled_queue w b d (settled w b e h) x y);
  way = λ x y. settled_way w b (both e d) h x y ∙ split x y
      ∙ ap (λ (l : List Msg). l ++ cond (eqb x b) (d.sends y) []) (sym (settled_way w b e h x y)) ∙ sym (settled_way w b d (settled w b e h) x y);
  sent = settled_sent w b (both e d) h
      ∙ omega (
        arith,
        sum_same w (λ y. length (e.sends y ++ d.sends y)) (λ y. length (e.sends y) + length (d.sends y)) (λ y l. length-append (e.sends y) (d.sends y)),
        sum_plus w (λ y. length (e.sends y)) (λ y. length (d.sends y)),
        settled_sent w b e h,
      )
      ∙ sym (settled_sent w b d (settled w b e h));
  moved = settled_moved w b (both e d) h ∙ sym (settled_moved w b d (settled w b e h) ∙ settled_moved w b e h);
  full = settled_full w b (both e d) h ∙ sym (settled_full w b d (settled w b e h) ∙ settled_full w b e h);
}
  where
    split : (x y : ℕ) → (h.wires x y).way ++ cond (eqb x b) (e.sends y ++ d.sends y) [] ≡ ((h.wires x y).way ++ cond (eqb x b) (e.sends y) []) ++ cond (eqb x b) (d.sends y) []
    split x y =
        by_bool (eqb x b)
        (λ z. rw z (sym (append_assoc (h.wires x y).way (e.sends y) (d.sends y))))
        (λ z. rw z (sym (append-nil ((h.wires x y).way ++ []))))

    go : (i : ℕ) → upd h.boxes b d.box i ≡ upd (settled w b e h).boxes b d.box i
    go i = elim (ℕ_discrete i b) [
      | yes z ↦ rw z (upd_same h.boxes b d.box ∙ sym (upd_same (settled w b e h).boxes b d.box))
      | no z ↦ upd_other h.boxes b d.box i z ∙ sym (upd_other (settled w b e h).boxes b d.box i z ∙ settled_boxes w b e h i ∙ upd_other h.boxes b e.box i z)
    ]

-- ---- what is posted for a settled box

pub posts_settled : (b links : ℕ) (l : ℕ → Letter) (known : List ℕ) (d : Desk) (h : Hub) (p : Posted) → b < 16 → links < 2 ^ 16 → Sends p (left b d h)
    → ((j : ℕ) → j < 16 → mem j links ≡ true → letter_list (l j) known ≡ d.sends j) → ((j : ℕ) → mem j links ≡ false → d.sends j ≡ [])
    → ((y : ℕ) → y < 16 → length ((left b d h).wires b y).queue + length ((left b d h).wires b y).way + length (d.sends y) ≤ 20)
    → Sends (for_each links (λ j. post_link (wire_of b j) (l j) known) 16 p) (settled 16 b d h)
unfolding settle
posts_settled b links l known d h p hb hl S some none room =
    let same : to_links links (λ j. letter_list (l j) known) ≡ d.sends = fun_ext (λ j. by_bool (mem j links)
    (λ e. rw e (some j (in_lt 16 links j hl e) e)) (λ e. rw e (sym (none j e)))) in
    rw (← settle_is 16 20 b d h (λ y q. none y (mem_past 16 links hl y q)) room) (sent same)
  where
    sent : to_links links (λ j. letter_list (l j) known) ≡ d.sends → Sends (for_each links (λ j. post_link (wire_of b j) (l j) known) 16 p) (settle 16 20 b d h)
    sent e = subst (λ (f : ℕ → List Msg). Sends (for_each links (λ j. post_link (wire_of b j) (l j) known) 16 p) (send_all 20 b f 16 (left b d h))) e
        (all_shows b links l known hb 16 (omega arith) p (left b d h) S)
