-- Laws of a box's step, for the hub's proof: the step by its cases, that neither cut is met, and that what it sends is what the rules send.
-- Assumes nothing.
use Rattle.std.specs.Prelude.{ℕ, zero, suc, ◌%◌, ◌^◌, ◌<◌, min, ◌≡◌, refl, Bool, true, false, cond, List, [], ◌∷◌, ◌++◌, map, eqb, set}
use Rattle.std.proofs.Common.{arith, ap, ◌∙◌}
use Rattle.rules.specs.Sets.{mem, without, word, members, for_each}
use Rattle.rules.specs.Box.{Msg, notspt, neighbors, Box, started, start_sends, take_set, take_sets, before, round_sends, stops, next_hop}
use Rattle.sets.specs.Loops.{get_d_words, for_each_empty}
use Rattle.boxes.specs.Arrival.{Arrival}
use Rattle.boxes.specs.Record.{Record, box_of, record_of}
use Rattle.boxes.specs.Step.{woken, taken, hopped, without_each, sets_of, origins_of, no_sets, save_all, is_stopped, saved, settled, rounded, worked, step_def}

-- ---- the step by its cases

pub woken_yes : (r : Record) (a : Arrival) → a.wakes ≡ true → woken r a ≡ started 16 (a.own % 16) a.links
unfolding woken
woken_yes r a e = ap (λ (t : Bool). cond t (started 16 (a.own % 16) a.links) (box_of r)) e

pub woken_no : (r : Record) (a : Arrival) → a.wakes ≡ false → woken r a ≡ box_of r
unfolding woken
woken_no r a e = ap (λ (t : Bool). cond t (started 16 (a.own % 16) a.links) (box_of r)) e

pub worked_round : (a : Arrival) (b : Box) → a.round ≡ true → worked a b ≡ rounded a (taken a b)
unfolding worked
worked_round a b e = ap (λ (t : Bool). cond t (rounded a (taken a b)) (settled a no_sets no_sets b)) e

pub worked_still : (a : Arrival) (b : Box) → a.round ≡ false → worked a b ≡ settled a no_sets no_sets b
unfolding worked
worked_still a b e = ap (λ (t : Bool). cond t (rounded a (taken a b)) (settled a no_sets no_sets b)) e

pub step_round : (r : Record) (a : Arrival) → a.round ≡ true → step_def r a ≡ rounded a (taken a (woken r a))
unfolding step_def
step_round r a e = worked_round a (woken r a) e

pub step_still : (r : Record) (a : Arrival) → a.round ≡ false → step_def r a ≡ settled a no_sets no_sets (woken r a)
unfolding step_def
step_still r a e = worked_still a (woken r a) e

-- ---- the cut of HOP

pub hopped_next : (b : Box) → b.hop < 65535 → hopped b ≡ next_hop b
unfolding hopped next_hop
hopped_next b l = let e : min (suc b.hop) 65535 ≡ suc b.hop = omega arith in rw e

-- ---- what the lists change

pub saved_stopped : (a : Arrival) (b : Box) → is_stopped b ≡ true → saved a b ≡ b
unfolding saved
saved_stopped a b e = rw e

pub saved_none : (a : Arrival) (b : Box) → a.listed ≡ 0 → saved a b ≡ b
unfolding saved save_all
saved_none a b e = by_stop (is_stopped b) where
  keeps : save_all b.neighbors a.listed a.lists ≡ b.neighbors
  keeps = rw e (for_each_empty (λ k u. set u k (word a.lists k)) 16 b.neighbors)

  by_stop : (p : Bool)
      → (record { state = b.state; hop = b.hop; nodes = b.nodes; in_spt = b.in_spt; not_spt = b.not_spt; neighbors = cond p b.neighbors (save_all b.neighbors a.listed a.lists) }) ≡ b
  by_stop true = refl
  by_stop false = rw keeps

-- ---- a round

stopped_next : (p : Bool) → eqb (cond p 2 1) 2 ≡ p
stopped_next true = refl
stopped_next false = refl

-- "Stop if Nodes(HOP-1) is now empty."
pub hopped_stops : (b : Box) → is_stopped (hopped b) ≡ stops b
unfolding hopped
hopped_stops b = stopped_next (stops b)

-- by link, the sets that go out are those of the rules
pub sets_at : (b : Box) (j : ℕ) → j < 16 → word (sets_of b) j ≡ without (word b.nodes (suc b.hop)) (word b.in_spt j)
unfolding sets_of without_each
sets_at b j l = get_d_words 16 (λ k. without (word b.nodes (suc b.hop)) (word b.in_spt k)) j l

pub origins_at : (b : Box) (j : ℕ) → j < 16 → word (origins_of b) j ≡ without (before b.hop b.nodes) (word b.not_spt j)
unfolding origins_of without_each
origins_at b j l = get_d_words 16 (λ k. without (before b.hop b.nodes) (word b.not_spt k)) j l

-- what a table of lists, the origins and the set for a link say to it
abbrev pub said : List ℕ → ℕ → ℕ → List Msg
said lists origins s = map (λ k. neighbors k (word lists k)) (members 16 origins) ++ (notspt s ∷ [])

pub box_sends : (n : ℕ) (b : Box) (j : ℕ) → mem j n ≡ true → j < 16 → round_sends 16 n b j ≡ said b.neighbors (word (origins_of b) j) (word (sets_of b) j)
unfolding round_sends
box_sends n b j e l = rw (e, origins_at b j l, sets_at b j l)

module _ (r : Record) (a : Arrival) (e : a.round ≡ true) where
  -- the step's round sends what the rules' round sends, of the box that has taken its sets
  pub round_sends_lem : (j : ℕ) → mem j a.links ≡ true → j < 16
      → round_sends 16 a.links (taken a (woken r a)) j ≡ said (step_def r a).out.neighbors (word (step_def r a).out.origins j) (word (step_def r a).out.sets j)
  unfolding rounded settled hopped
  round_sends_lem j m l = rw (step_round r a e) (box_sends a.links (taken a (woken r a)) j m l)

  -- its record is the rules' next, with the lists saved
  pub round_record : (taken a (woken r a)).hop < 65535 → (step_def r a).«record» ≡ record_of (saved a (next_hop (taken a (woken r a))))
  unfolding rounded settled
  round_record l = rw (step_round r a e, hopped_next (taken a (woken r a)) l)

  pub round_stops : (step_def r a).out.stops ≡ stops (taken a (woken r a))
  unfolding rounded settled
  round_stops = rw (step_round r a e) (hopped_stops (taken a (woken r a)))

-- without a round nothing is known to go out, and the record changes by its start and its lists alone
module _ (r : Record) (a : Arrival) (e : a.round ≡ false) where
  pub still_record : (step_def r a).«record» ≡ record_of (saved a (woken r a))
  unfolding settled
  still_record = rw (step_still r a e)

  pub still_stops : (step_def r a).out.stops ≡ is_stopped (woken r a)
  unfolding settled
  still_stops = rw (step_still r a e)

-- ---- a start

-- "NOTSPT = {itself} goes out on every link"
pub start_sends_lem : (i n j : ℕ) → mem j n ≡ true → start_sends i n j ≡ notspt (2 ^ i) ∷ []
unfolding start_sends
start_sends_lem i n j e = rw e

-- "With no link it stops"
pub started_stops : (i n : ℕ) → is_stopped (started 16 i n) ≡ eqb n 0
unfolding started
started_stops i n = stopped_next (eqb n 0)

-- ---- what taking the sets keeps

keeps : {B : Type 0} (g : Box → B) (w n : ℕ) (heads : ℕ → ℕ) (b : Box) → ((j s : ℕ) (c : Box) → g (take_set w j s c) ≡ g c)
    → (m : ℕ) → g (for_each n (λ j. take_set w j (heads j)) m b) ≡ g b
unfolding for_each
keeps g w n heads b k zero = refl
keeps g w n heads b k (suc m) = pick (mem m n) (keeps g w n heads b k m) where
  before_m : Box
  before_m = for_each n (λ j. take_set w j (heads j)) m b

  pick : (p : Bool) → g before_m ≡ g b → g (cond p (take_set w m (heads m) before_m) before_m) ≡ g b
  pick true e = k m (heads m) before_m ∙ e
  pick false e = e

module _ (w n : ℕ) (heads : ℕ → ℕ) (b : Box) where
  pub taken_hop : (take_sets w n heads b).hop ≡ b.hop
  unfolding take_sets take_set
  taken_hop = keeps (λ c. c.hop) w n heads b (λ j s c. refl) w

  pub taken_neighbors : (take_sets w n heads b).neighbors ≡ b.neighbors
  unfolding take_sets take_set
  taken_neighbors = keeps (λ c. c.neighbors) w n heads b (λ j s c. refl) w
