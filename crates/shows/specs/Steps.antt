-- The step of the code in the words of a desk: what it sends to each link, and when it ends, without a round and with one. Assumes nothing.
use Rattle.std.specs.Prelude.{ℕ, ◌%◌, ◌^◌, ◌<◌, ◌≡◌, Bool, cond, List, [], ◌∷◌, ◌++◌}
use Rattle.std.proofs.Math.Path.{refl, ap₂}
use Rattle.std.proofs.Common.{sym, ap, ◌∙◌, append-nil, arith}
use Rattle.std.proofs.Math.Bool.{true, false, ◌&&◌, ◌||◌, or-false}
use Rattle.rules.specs.Sets.{mem, word}
use Rattle.rules.specs.Box.{Msg, notspt, start_sends, round_sends, stops}
use Rattle.sets.specs.Loops.{by_bool}
use Rattle.boxes.specs.Record.{Record}
use Rattle.boxes.specs.Arrival.{Arrival}
use Rattle.boxes.specs.Departure.{Departure}
use Rattle.boxes.specs.Step.{step_def, woken, taken, settled, rounded, is_stopped}
use Rattle.boxes.specs.Laws.{step_round, step_still, round_sends_lem, round_stops, still_stops, start_sends_lem}
use Rattle.turn.specs.Turn.{letter, ends}
use Rattle.shows.specs.Posts.{letter_list, set_if, lists_for}

-- ---- what the departure has of the arrival

pub record Passes (k : Arrival) (o : Departure) : Type 0 where
  pub own : o.own ≡ k.own
  pub «from» : o.«from» ≡ k.«from»
  pub moved : o.moved ≡ k.moved
  pub heard : o.heard ≡ k.heard
  pub wakes : o.wakes ≡ k.wakes
  pub round : o.round ≡ k.round

pub passes : (r : Record) (k : Arrival) → Passes k (step_def r k).out
unfolding rounded settled
passes r k =
    by_bool k.round
    (λ e. rw (step_round r k e) (record { own = refl; «from» = refl; moved = refl; heard = refl; wakes = refl; round = refl }))
    (λ e. rw (step_still r k e) (record { own = refl; «from» = refl; moved = refl; heard = refl; wakes = refl; round = refl }))

-- ---- when it ends

module _ (r : Record) (k : Arrival) where
  abbrev o : Departure
  o = (step_def r k).out

  pub ends_still : k.round ≡ false → ends o ≡ is_stopped (woken r k) && k.wakes
  unfolding ends
  ends_still e = ap₂ ◌&&◌ (still_stops r k e) (ap₂ ◌||◌ (passes r k).wakes ((passes r k).round ∙ e) ∙ or-false k.wakes)

  pub ends_round : k.round ≡ true → ends o ≡ stops (taken k (woken r k))
  unfolding ends
  ends_round e = ap₂ ◌&&◌ (round_stops r k e) (ap₂ ◌||◌ (passes r k).wakes ((passes r k).round ∙ e)) ∙ and_yes (stops (taken k (woken r k))) k.wakes
    where
      and_yes : (x y : Bool) → x && (y || true) ≡ x
      and_yes true true = refl
      and_yes true false = refl
      and_yes false y = refl

  -- ---- what it says to link j

  -- the start's set, where the box wakes
  abbrev pub wake_sends : ℕ → ℕ → ℕ → List Msg
  wake_sends b n j = cond k.wakes (start_sends b n j) []

  first_is : (b n j : ℕ) → b < 16 → k.own ≡ b → mem j n ≡ true → set_if o.wakes (2 ^ (o.own % 16)) ≡ wake_sends b n j
  first_is b n j hb e v =
      let m : o.own % 16 ≡ b = omega (arith, (passes r k).own, e) in
      ap₂ (λ (x : Bool) (y : ℕ). set_if x (2 ^ y)) (passes r k).wakes m ∙ ap (λ (l : List Msg). cond k.wakes l []) (sym (start_sends_lem b n j v))

  pub says_still : (b n j : ℕ) → b < 16 → k.own ≡ b → k.round ≡ false → mem j n ≡ true → letter_list (letter o j) o.neighbors ≡ wake_sends b n j
  says_still b n j hb e f v =
      ap (λ (x : Bool). set_if o.wakes (2 ^ (o.own % 16)) ++ cond x (lists_for o.neighbors (word o.origins j) 16 ++ (notspt (word o.sets j) ∷ [])) []) ((passes r k).round ∙ f)
      ∙ append-nil _ ∙ first_is b n j hb e v

  pub says_round : (b n j : ℕ) → b < 16 → j < 16 → k.own ≡ b → k.links ≡ n → k.round ≡ true → mem j n ≡ true
      → letter_list (letter o j) o.neighbors ≡ wake_sends b n j ++ round_sends 16 n (taken k (woken r k)) j
  says_round b n j hb hj e l f v =
      ap (λ (x : Bool). set_if o.wakes (2 ^ (o.own % 16)) ++ cond x (lists_for o.neighbors (word o.origins j) 16 ++ (notspt (word o.sets j) ∷ [])) []) ((passes r k).round ∙ f)
      ∙ ap₂ ◌++◌ (first_is b n j hb e v) (sym (round_sends_lem r k f j (ap (mem j) l ∙ v) hj) ∙ ap (λ (x : ℕ). round_sends 16 x (taken k (woken r k)) j) l)
