-- What the owner's turns leave, in the words of the calls: the counts, the board, and that a refusal shows nothing. Assumes nothing.
use Prim.Native.Nat.{ℕ, ◌-◌, ◌*◌, ◌≤◌, ◌<◌}
use mathlib.Core.Path.{◌≡◌, sym, ap, ap₂, ◌∙◌, subst}
use mathlib.Core.Bool.{Bool, true, false}
use mathlib.Core.List.{List, ◌++◌}
use native.Mathlib.Omega.{arith}
use native.Mathlib.Nat.{mod-eq_of_lt}
use lib.Dec.{eqb}
use lib.ListN.{length, get_or, drop}
use borrow.Author.Tests.{lt-ltb, le-ltb}
use Rattle.rules.specs.Sets.{mem, word, each, count}
use Rattle.rules.specs.Outcome.{accepted, refuse}
use Rattle.rules.specs.Hub.{Hub, sleeping, run, drain, under_way, block, board_of}
use Rattle.rules.specs.Rest.{Table, enough, wire_count, wires_of}
use Rattle.rules.specs.Calls.{Ran, hub_answer, fitting}
use Rattle.sets.specs.Loops.{each_same, count_le}
use Rattle.order.specs.Terms.{Names}
use Rattle.order.specs.Invariant.{Sound}
use Rattle.order.proofs.Drain.{drained}
use Rattle.order.specs.Sums.{sum_flat}
use Rattle.order.proofs.Sent.{sent_low}
use Rattle.boxes.specs.Record.{box_of, blank}
use Rattle.turn.specs.Turn.{Turn}
use Rattle.turns.specs.Turns.{Going, own_def}
use Rattle.turns.specs.Parts.{Ran as Own, ran_of}
use Rattle.shows.specs.Shows.{Shows}
use Rattle.shows.specs.Runs.{own_shows}
use Rattle.hub.proofs.CallLaws.{told}

few_wires : (t : List ℕ) → wire_count 16 t ≤ 256
unfolding wire_count wires_of
few_wires t = sum_flat 16 (λ i. count 16 (λ j. mem j (word t i))) 16 (λ i h. count_le 16 (λ j. mem j (word t i)))

-- "4,560 suffices for every sheet" comes to much less than a 32-bit number holds
few_sent : (t : List ℕ) (T : Table 16 t) (h : Hub) → Sound 16 t h → h.sent < 4294967296
unfolding enough
few_sent t T h S = omega (arith, sent_low 16 t T h S.good 16 (omega arith) T.small S.counted, few_wires t)

-- ---- a hub that the turns show

module _ (t : List ℕ) (T : Table 16 t) (g : Going) (h : Hub) (S : Shows t g h) (Z : Sound 16 t h) where
  pub sent_is : g.turn.sent ≡ h.sent
  sent_is = S.sent ∙ mod-eq_of_lt (few_sent t T h Z)

  pub moved_is : g.turn.moved ≡ h.moved
  moved_is = S.moved ∙ mod-eq_of_lt (omega (arith, few_sent t T h Z, Z.counted.way))

  pub moved_less : g.turn.moved ≤ g.turn.sent
  moved_less = omega (arith, sent_is, moved_is, Z.counted.way)

  pub under_is : g.turn.sent - g.turn.moved ≡ under_way 16 h
  under_is = omega (arith, sent_is, moved_is, Z.counted.way)

  pub blocks_are : (n : ℕ) → n ≤ 16 → each n (λ i. block (box_of (get_or g.row i blank))) ≡ each n (λ i. block (h.boxes i))
  blocks_are n l = each_same n _ _ (λ i hi. ap block (S.boxes i (omega arith)))

-- ---- what a call answers for it

module _ (t : List ℕ) (T : Table 16 t) (list : List ℕ) (M : Names 16 t list) (budget : ℕ) where
  abbrev pub ended : Hub
  ended = drain 16 20 t budget (run 16 20 t list (sleeping 16))

  shown : Shows t (own_def list t budget) ended
  shown = (own_shows t T list budget M).0

  kept : Sound 16 t ended
  kept = (drained 16 t T 20 (omega arith) budget (run 16 20 t list (sleeping 16)) (own_shows t T list budget M).1).0

  abbrev c : Turn
  c = (own_def list t budget).turn

  pub less : c.moved ≤ c.sent
  less = moved_less t T (own_def list t budget) ended shown kept

  module _ (n : ℕ) (hn : n ≤ 16) (board : List ℕ) where
    abbrev answered : Ran
    answered = hub_answer 16 n board (fitting 16 n board ended)

    pub board_short : length board < 66 * n → told 12 board ≡ answered
    unfolding fitting hub_answer refuse
    board_short h = sym (ap (λ (b : Bool). hub_answer 16 n board (refuse b 12 0 (refuse ended.full 13 0 (accepted ended)))) (lt-ltb (length board) (66 * n) h))

    pub wire_full : 66 * n ≤ length board → c.full ≡ true → told 13 board ≡ answered
    unfolding fitting hub_answer refuse
    wire_full h f = sym (ap₂ (λ (b d : Bool). hub_answer 16 n board (refuse b 12 0 (refuse d 13 0 (accepted ended)))) (le-ltb (length board) (66 * n) h) (sym shown.full ∙ f))

    -- the counts, and the board that is left
    abbrev done : Turn → List ℕ → Ran
    done y after = record { number = 0; sent = y.sent; moved = y.moved; under_way = y.sent - y.moved; finished = eqb (y.sent - y.moved) 0; board = after }

    pub all_done : (after : List ℕ) → 66 * n ≤ length board → c.full ≡ false
        → after ≡ each n (λ i. block (box_of (get_or (own_def list t budget).row i blank))) ++ drop (66 * n) board → done c after ≡ answered
    unfolding fitting hub_answer refuse board_of
    all_done after h f b =
        ap (done c) (b ∙ ap (λ (l : List ℕ). l ++ drop (66 * n) board) (blocks_are t T (own_def list t budget) ended shown kept n hn))
        ∙ counted (sent_is t T (own_def list t budget) ended shown kept) (moved_is t T (own_def list t budget) ended shown kept) (under_is t T (own_def list t budget) ended shown kept)
        ∙ sym (ap₂ (λ (b d : Bool). hub_answer 16 n board (refuse b 12 0 (refuse d 13 0 (accepted ended)))) (le-ltb (length board) (66 * n) h) (sym shown.full ∙ f))
      where
        counted : c.sent ≡ ended.sent → c.moved ≡ ended.moved → c.sent - c.moved ≡ under_way 16 ended
            → ◌≡◌ {A = Ran} (done c (board_of 16 n ended board))
            (record { number = 0; sent = ended.sent; moved = ended.moved; under_way = under_way 16 ended; finished = eqb (under_way 16 ended) 0; board = board_of 16 n ended board })
        counted x y z = λ i. record { number = 0; sent = x i; moved = y i; under_way = z i; finished = eqb (z i) 0; board = board_of 16 n ended board }

  -- ---- the same of what the owner answers

  module _ (x : Own) (e : x ≡ ran_of (own_def list t budget)) where
    pub own_less : x.turn.moved ≤ x.turn.sent
    own_less = subst (λ (y : Own). y.turn.moved ≤ y.turn.sent) (sym e) less

    module _ (n : ℕ) (hn : n ≤ 16) (board : List ℕ) (long : 66 * n ≤ length board) where
      pub own_full : x.turn.full ≡ true → told 13 board ≡ hub_answer 16 n board (fitting 16 n board ended)
      own_full u = wire_full n hn board long (sym (ap (λ (y : Own). y.turn.full) e) ∙ u)

      pub own_done : (after : List ℕ) → x.turn.full ≡ false → after ≡ each n (λ i. block (box_of (get_or x.row i blank))) ++ drop (66 * n) board
          → ◌≡◌ {A = Ran} (record { number = 0; sent = x.turn.sent; moved = x.turn.moved; under_way = x.turn.sent - x.turn.moved; finished = eqb (x.turn.sent - x.turn.moved) 0; board = after })
          (hub_answer 16 n board (fitting 16 n board ended))
      own_done after u b =
          ap (λ (y : Own). counts y) e
          ∙ all_done n hn board after long (sym (ap (λ (y : Own). y.turn.full) e) ∙ u) (b ∙ ap (λ (y : Own). each n (λ i. block (box_of (get_or y.row i blank))) ++ drop (66 * n) board) e)
        where
          counts : Own → Ran
          counts y = record { number = 0; sent = y.turn.sent; moved = y.turn.moved; under_way = y.turn.sent - y.turn.moved; finished = eqb (y.turn.sent - y.turn.moved) 0; board = after }
