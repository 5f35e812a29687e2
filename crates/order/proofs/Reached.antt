-- Every hub that starts and deliveries lead to from a sleeping one, by a list, by the drain or one by one: the invariant holds of it. Assumes nothing.
use Prim.Native.Nat.{ℕ, zero, suc, ◌+◌, ◌≤◌, ◌<◌}
use Rattle.std.specs.Prelude.{◌≡◌, refl, Bool, true, false, not, ◌&&◌, ◌||◌, ◌⊎◌, eqb, leb, ltb}
use Rattle.std.proofs.Math.Path.{sym}
use Rattle.std.proofs.Common.{◌∙◌, true≢false, inl, inr, ⊎_elim, arith, leb-false, eqb-true}
use mathlib.Core.List.{List, [], ◌∷◌}
use Rattle.rules.specs.Sets.{mem, word}
use Rattle.rules.specs.Outcome.{Outcome, accepted, refuse}
use Rattle.rules.specs.Hub.{Hub, sleeping, start, act, run, drain, start_all, sender, receiver, under_way}
use Rattle.rules.specs.Calls.{check_pairs}
use Rattle.rules.specs.Rest.{Table}
use Rattle.sets.specs.Mem.{or_neither}
use Rattle.sets.specs.Loops.{by_bool, for_each_keeps, sum_same, sum_none}
use Rattle.order.specs.Terms.{Reached, begin, starts, delivers, Names}
use Rattle.order.specs.Wire.{wire_none}
use Rattle.order.specs.Invariant.{sleeps, spoken, Sound}
use Rattle.order.proofs.Moves.{start_sound, deliver_sound}

-- ---- the list's check

and_none : (x y : Bool) → not x && not y ≡ false → (x ≡ true) ⊎ (y ≡ true)
and_none true y h = inl refl
and_none false true h = inr refl
and_none false false h = absurd (true≢false h)

passes : {A : Type 0} (c : Bool) (n p : ℕ) (o : Outcome A) (x : A) → refuse c n p o ≡ accepted x → (c ≡ false) × (o ≡ accepted x)
unfolding refuse
passes true n p o x e = let z : ◌≡◌ {A = ℕ} 0 1 = cc in absurd (omega arith)
passes false n p o x e = (refl, e)

-- a list that passes refusals 10 and 11 names what it should
pub checked_names : {A : Type 0} (w n : ℕ) (t : List ℕ) (i : ℕ) (l : List ℕ) (o : Outcome A) (x : A) → n ≤ w → check_pairs n t i l o ≡ accepted x → Names w t l × (o ≡ accepted x)
unfolding check_pairs
checked_names w n t i [] o x h e = (tt, e)
checked_names w n t i (a ∷ []) o x h e = (tt, e)
checked_names w n t i (a ∷ b ∷ l) o x h e =
    let (p, e1) = passes (leb n a || leb n b) 10 i _ x e in
    let (q, e2) = passes (not (eqb a b) && not (mem b (word t a))) 11 i _ x e1 in
    let (u, v) = or_neither (leb n a) (leb n b) p in
    let (r, e3) = checked_names w n t (suc i) l o x h e2 in
    (((omega (arith, leb-false n a u), omega (arith, leb-false n b v)), ⊎_elim (λ z. inl (eqb-true a b z)) (λ z. inr z) (and_none (eqb a b) (mem b (word t a)) q), r), e3)

-- ---- lists, sets of starts and the drain lead only to such hubs

module _ (w room : ℕ) (t : List ℕ) where
  pub act_reached : (a b : ℕ) (h : Hub) → a < w → Reached w room t h → Reached w room t (act w room t a b h)
  unfolding act
  act_reached a b h ha r = by_bool (eqb a b) (λ e. rw e (starts a ha r)) (λ e. rw e (delivers a b r))

  pub run_reached : (l : List ℕ) (h : Hub) → Names w t l → Reached w room t h → Reached w room t (run w room t l h)
  unfolding run
  run_reached [] h n r = r
  run_reached (a ∷ []) h n r = r
  run_reached (a ∷ b ∷ l) h n r = run_reached l (act w room t a b h) n.2 (act_reached a b h n.0.0 r)

  pub starts_reached : (s : ℕ) (h : Hub) → Reached w room t h → Reached w room t (start_all w room t s h)
  unfolding start_all
  starts_reached s h r = for_each_keeps s (start w room t) (λ n g. Reached w room t g) w h r (λ k g l m p. starts k l p) (λ k g l m p. p)

  pub drain_reached : (f : ℕ) (h : Hub) → Reached w room t h → Reached w room t (drain w room t f h)
  unfolding drain
  drain_reached zero h r = r
  drain_reached (suc f) h r =
      by_bool (ltb (sender w h) w)
      (λ e. rw e (drain_reached f _ (delivers (sender w h) (receiver w h) r)))
      (λ e. rw e r)

  module _ (s : Table w t) where
    asleep_sound : Sound w t (sleeping w)
    unfolding spoken under_way
    asleep_sound = record {
      good = record {
        seats = λ j hj. sleeps (record { blank = refl; used = λ i v. refl; empty = λ i. refl; all = λ i v. wire_none w t i j });
        quiet = λ i j v. refl;
        log = λ i j v. sym (wire_none w t i j);
      };
      counted = record {
        way = omega (arith, sum_same w _ _ (λ i h. sum_none w) ∙ sum_none w);
        all = sym (sum_same w _ _ (λ i h. sum_none w) ∙ sum_none w);
        room = refl;
      };
    }

    module _ (hr : w + 1 ≤ room) where
      pub sound : {h : Hub} → Reached w room t h → Sound w t h
      sound begin = asleep_sound
      sound (starts {h = h} i hi r) = start_sound w t s room hr h i hi (sound r)
      sound (delivers {h = h} a b r) = deliver_sound w t s room hr h a b (sound r)
