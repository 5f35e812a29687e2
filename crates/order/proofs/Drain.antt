-- The drain: its search finds a message wherever one is under way, and it ends with none under way or with its budget spent. Assumes nothing.
use Prim.Native.Nat.{ℕ, zero, suc, ◌+◌, ◌^◌, ◌≤◌, ◌<◌}
use Rattle.std.specs.Prelude.{◌≡◌, refl, true, false, List, [], ◌∷◌, ◌⊎◌, ltb, length}
use Rattle.std.proofs.Common.{◌∙◌, arith, ltb-true, ltb-false}
use Rattle.std.proofs.Math.Logic.{inl, inr, ⊎_elim}
use Rattle.rules.specs.Sets.{word, any}
use Rattle.rules.specs.Box.{Msg}
use Rattle.rules.specs.Hub.{Hub, under_way, holds, sender, receiver, deliver, drain}
use Rattle.rules.specs.Rest.{Table, enough}
use Rattle.sets.specs.Loops.{by_bool, any_in, any_out, least_hit, least_ok, sum_same, sum_none}
use Rattle.order.specs.Invariant.{Sound}
use Rattle.order.proofs.Moves.{deliver_sound}
use Rattle.order.proofs.Sent.{sent_low}
use Rattle.order.proofs.Kept.{deliver_moved}

some_there : (l : List Msg) → ltb 0 (length l) ≡ true → (m : Msg) × (q : List Msg) × (l ≡ m ∷ q)
some_there [] e = absurd (omega (arith, ltb-true 0 0 e))
some_there (m ∷ q) e = (m, q, refl)

none_there : (l : List Msg) → ltb 0 (length l) ≡ false → length l ≡ 0
none_there l e = omega (arith, ltb-false 0 (length l) e)

-- the search finds a wire that holds a message
pub found : (w : ℕ) (h : Hub) → sender w h < w → (m : Msg) × (q : List Msg) × ((h.wires (sender w h) (receiver w h)).way ≡ m ∷ q)
unfolding sender receiver holds
found w h e =
    let y : any w (holds h (sender w h)) ≡ true = least_ok w (λ a. any w (holds h a)) e in
    let (j, hj, b) = any_out w (holds h (sender w h)) y in
    let (u, v) = least_hit w (holds h (sender w h)) j hj b in
    some_there (h.wires (sender w h) (receiver w h)).way v

-- and says so where there is none
pub quiet : (w : ℕ) (h : Hub) → w ≤ sender w h → under_way w h ≡ 0
unfolding sender holds under_way
quiet w h e =
    sum_same w _ _ (λ a ha. sum_same w _ _ (λ b hb. by_bool (ltb 0 (length (h.wires a b).way))
    (λ u. absurd (omega (arith, (least_hit w (λ a. any w (holds h a)) a ha (any_in w (holds h a) b hb u)).0)))
    (λ u. none_there (h.wires a b).way u)) ∙ sum_none w) ∙ sum_none w

-- it moves no more than its budget
pub drain_most : (w room : ℕ) (t : List ℕ) (f : ℕ) (h : Hub) → (drain w room t f h).moved ≤ h.moved + f
unfolding drain
drain_most w room t zero h = omega arith
drain_most w room t (suc f) h =
    by_bool (ltb (sender w h) w)
    (λ e.
    let (m, q, z) = found w h (ltb-true (sender w h) w e) in
    rw e (omega (arith, drain_most w room t f (deliver w room t (sender w h) (receiver w h) h), deliver_moved w room t (sender w h) (receiver w h) m q h z)))
    (λ e. rw e (omega arith))

module _ (w : ℕ) (t : List ℕ) (s : Table w t) (room : ℕ) (hr : w + 1 ≤ room) where
  -- the drain's end: nothing is under way, or the budget is spent
  pub drained : (f : ℕ) (h : Hub) → Sound w t h → Sound w t (drain w room t f h) × ((under_way w (drain w room t f h) ≡ 0) ⊎ ((drain w room t f h).moved ≡ h.moved + f))
  unfolding drain
  drained zero h S = (S, inr (omega arith))
  drained (suc f) h S =
      by_bool (ltb (sender w h) w)
      (λ e.
      let (m, q, z) = found w h (ltb-true (sender w h) w e) in
      let g : Hub = deliver w room t (sender w h) (receiver w h) h in
      let y : g.moved ≡ suc h.moved = deliver_moved w room t (sender w h) (receiver w h) m q h z in
      let (T, d) = drained f g (deliver_sound w t s room hr h (sender w h) (receiver w h) S) in
      rw e (T, ⊎_elim (λ u. inl u) (λ u. inr (omega arith)) d))
      (λ e. rw e (S, inl (quiet w h (ltb-false (sender w h) w e))))

  -- "A budget of E(N+2) + N(N-1) always finishes"
  pub finishes : (n : ℕ) → n ≤ w → ((i : ℕ) → word t i < 2 ^ n) → (f : ℕ) (h : Hub) → enough w t n ≤ f → Sound w t h → under_way w (drain w room t f h) ≡ 0
  finishes n hn low f h l S =
      let (T, d) = drained f h S in
      ⊎_elim (λ u. u)
      (λ u. omega (arith, T.counted.way, sent_low w t s (drain w room t f h) T.good n hn low T.counted))
      d
